-- A table of locks with their numbers, and what the calls make of it.
use Rattle.law_states.specs.KeptLocks.{Numbered, is_base_among, is_owned_by, saline_of}
use Rattle.salt_locks.specs.Places.{is_no_later}
use Rattle.salt_locks.specs.declared.table.TakeErr.{TakeErr}
use Rattle.salt_locks.specs.declared.table.TakeErr.TheVariants.{Conflict, Memory}
use Rattle.salt_model.specs.Locks.{base_owner, clashes, lock_of, owners_of, unit_owner}
use Rattle.salt_model.specs.declared.events.Owner.{Owner}
use Rattle.salt_model.specs.declared.locks.Family.{Family}
use Rattle.salt_model.specs.declared.locks.Lock.{Lock}
use Rattle.salt_model.specs.declared.locks.Reach.{Reach}
use Rattle.salt_values.specs.declared.id.Id.{Id}
use Rattle.salt_values.specs.Id.{in_order}
use Rattle.std.specs.List.{filter, filter_map}
use Rattle.std.specs.Prelude.{Bool, Err, List, Ok, Result, [], if◌then◌else◌, map, not, ℕ, ◌∷◌, ◌≡◌}

-- the locks with their numbers, which stand beside them
abbrev pub numbered : List ℕ → List Lock → List Numbered
numbered [] ls = []
numbered (n ∷ ns) [] = []
numbered (n ∷ ns) (l ∷ ls) = record { number = n; lock = l } ∷ numbered ns ls

abbrev pub locks_in : List Numbered → List Lock
locks_in table = map (λ n. n.lock) table

abbrev pub numbers_in : List Numbered → List ℕ
numbers_in table = map (λ n. n.number) table

-- a lock put behind those that stand no later
abbrev pub put : Numbered → List Numbered → List Numbered
put n [] = n ∷ []
put n (m ∷ ms) = if is_no_later m.lock n.lock then m ∷ put n ms else n ∷ m ∷ ms

-- a unit's lock is a saline one of its program
abbrev pub salted_lock : Id → Id → Lock → Lock
salted_lock u b l = if is_owned_by (Owner.Unit u) l then saline_of b l else l

abbrev pub salted : Id → Id → Numbered → Numbered
salted u b n = record { number = n.number; lock = salted_lock u b n.lock }

abbrev pub is_of_another : Owner → Numbered → Bool
is_of_another o n = not (is_owned_by o n.lock)

-- a lock of none of these programs
abbrev pub is_of_none : List Id → Numbered → Bool
is_of_none bases n = not (is_base_among bases n.lock.owner)

-- the units, and the programs, that own one of these locks, each once and in order
abbrev pub units_in : List Lock → List Id
units_in ls = in_order (filter_map unit_owner ls)

abbrev pub bases_in : List Lock → List Id
bases_in ls = in_order (filter_map base_owner ls)

-- the owners of the locks that clash with what an owner asks
abbrev pub owners_against : Owner → Family → Reach → List Lock → List Owner
owners_against owner family r locks = owners_of (filter (clashes owner family r) locks)

-- a lock was asked for: it stands in its place where nothing clashes, and else those that clash are told and nothing is taken
abbrev pub AnswersAsk : ℕ → Owner → Family → Reach → List Numbered → List Numbered → Result (Unit {0}) TakeErr → Type 0
AnswersAsk number owner family r old new (Ok u) =
    (owners_against owner family r (locks_in old) ≡ []) × (new ≡ put (record { number = number; lock = lock_of owner family r }) old)
AnswersAsk number owner family r old new (Err (Conflict owners)) =
    (owners ≡ owners_against owner family r (locks_in old)) × ((owners ≡ []) → ⊥) × (new ≡ old)
AnswersAsk number owner family r old new (Err Memory) = new ≡ old
