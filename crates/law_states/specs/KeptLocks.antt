-- Locks as an engine keeps them: each with the number of its statement; and what becomes of one.
use Rattle.law_states.specs.Members.{Ascends, In, SameMembers}
use Rattle.salt_model.specs.Locks.{clashes, family_of, is_same_owner, lock_of}
use Rattle.salt_model.specs.declared.events.Owner.{Owner}
use Rattle.salt_model.specs.declared.events.Owner.TheVariants.{Base, Unit}
use Rattle.salt_model.specs.declared.events.UnitKind.{UnitKind}
use Rattle.salt_model.specs.declared.locks.Family.{Family}
use Rattle.salt_model.specs.declared.locks.Family.TheVariants.{Saline}
use Rattle.salt_model.specs.declared.locks.Lock.{Lock}
use Rattle.salt_model.specs.declared.locks.Reach.{Reach}
use Rattle.salt_values.specs.Id.{has_id}
use Rattle.salt_values.specs.declared.id.Id.{Id}
use Rattle.std.specs.List.{filter}
use Rattle.std.specs.Prelude.{Bool, List, None, Option, Some, [], false, if◌then◌else◌, map, option_map, ℕ, ◌+◌, ◌<◌, ◌∷◌, ◌≡◌}

-- the lock on what a unit's statement reaches
abbrev pub lock_taken : Id → Option UnitKind → Option Reach → List Lock
lock_taken u kind None = []
lock_taken u kind (Some r) = lock_of (Unit u) (family_of kind) r ∷ []

abbrev pub is_owned_by : Owner → Lock → Bool
is_owned_by o l = is_same_owner o l.owner

-- a lock becomes a saline one of a program
abbrev pub saline_of : Id → Lock → Lock
saline_of b l = record l { owner = Base b; family = Saline }

-- where a unit commits, its locks become saline ones of its program; those of an ACID unit go
abbrev pub lock_committed : Id → Option Id → Lock → Option Lock
lock_committed u p l = if is_owned_by (Unit u) l then option_map (λ b. saline_of b l) p else Some l

abbrev pub is_base_among : List Id → Owner → Bool
is_base_among bs (Unit u) = false
is_base_among bs (Base b) = has_id b bs

-- those of a list that clash with what an owner asks
abbrev pub clash_in : Owner → Family → Option Reach → List Lock → List Lock
clash_in owner family None ls = []
clash_in owner family (Some r) ls = filter (clashes owner family r) ls

-- a lock with the number of its statement: a table may have any order, and still tell each owner's locks in the order done
pub record Numbered : Type 0 where
  pub number : ℕ
  pub lock : Lock

-- locks that are won together, with numbers from this one on
abbrev pub numbered_from : ℕ → List Lock → List Numbered
numbered_from k [] = []
numbered_from k (l ∷ ls) = record { number = k; lock = l } ∷ numbered_from (k + 1) ls

abbrev pub Sooner : Numbered → Numbered → Type 0
Sooner m n = m.number < n.number

-- a table of numbered locks, in any order, is that of a list: by their numbers they are in its order
pub record KeepsLocks (table : List Numbered) (ls : List Lock) : Type 0 where
  pub in_turn : List Numbered
  pub rises : Ascends Sooner in_turn
  pub locks : map (λ n. n.lock) in_turn ≡ ls
  pub same : SameMembers table in_turn

-- a fate of locks, on numbered ones
abbrev pub on_lock : (Lock → Option Lock) → Numbered → Option Numbered
on_lock g n = option_map (λ l. record { number = n.number; lock = l }) (g n.lock)

-- the numbers given so far are below this one
abbrev pub AreBelow : ℕ → List Numbered → Type 0
AreBelow k table = (n : Numbered) → In n table → n.number < k
