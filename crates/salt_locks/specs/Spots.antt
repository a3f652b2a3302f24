-- Where each owner has locks.
use Rattle.law_states.specs.KeptLocks.{is_owned_by}
use Rattle.law_states.specs.Members.{In}
use Rattle.salt_locks.specs.declared.spots.Spot.{Spot}
use Rattle.salt_locks.specs.declared.spots.Spots.{Spots}
use Rattle.salt_model.specs.declared.events.Owner.TheVariants.{Base, Unit}
use Rattle.salt_model.specs.declared.events.Owner.{Owner}
use Rattle.salt_model.specs.declared.locks.Lock.{Lock}
use Rattle.salt_values.specs.declared.id.Id.{Id}
use Rattle.std.specs.BTreeMap.{get}
use Rattle.std.specs.Global.{Global}
use Rattle.std.specs.List.{count_by}
use Rattle.std.specs.Ordering.{nat_cmp, on, then_cmp}
use Rattle.std.specs.Prelude.{Bool, IsTrue, List, None, Option, Some, Vec, [], false, get_or, true, ℕ, ◌&&◌, ◌<◌, ◌≡◌, ◌≤◌}
use Rattle.std.specs.declared.cmp.Ordering.{Ordering}

-- the older name first
abbrev pub id_cmp : Id → Id → Ordering
id_cmp = then_cmp (on (λ (a : Id). a.boot) nat_cmp) (on (λ (a : Id). a.seq) nat_cmp)

-- where a lock begins
abbrev pub spot_of : Lock → Spot
spot_of l = record { table = l.table; low = l.range.lo }

abbrev pub spots_in : Option (Vec Spot Global) → List Spot
spots_in None = []
spots_in (Some spots) = spots.items

-- the spots that are listed of an owner
abbrev pub spots_at : Spots → Owner → List Spot
spots_at x (Unit u) = spots_in (get id_cmp x.units u)
spots_at x (Base b) = spots_in (get id_cmp x.bases b)

-- an owner's locks begin at these spots
abbrev pub AreAt : Owner → List Spot → List Lock → Type 0
AreAt o spots ls = (l : Lock) → In l ls → is_owned_by o l ≡ true → In (spot_of l) spots

-- an owner's lock whose spot passes
abbrev pub owned_at : Owner → (Spot → Bool) → Lock → Bool
owned_at o p l = is_owned_by o l && p (spot_of l)

-- of an owner no more locks than entries, whatever is asked of their spots
abbrev pub AreCounted : Owner → List Spot → List Lock → Type 0
AreCounted o spots ls = (p : Spot → Bool) → count_by (owned_at o p) ls ≤ count_by p spots

-- of each lock the spot is listed at its owner, as often as there is one, where the lists are whole
abbrev pub AreSpotted : Spots → List Lock → Type 0
AreSpotted x ls = IsTrue x.whole → (o : Owner) → AreCounted o (spots_at x o) ls

-- one of an owner's locks from one place to another, where there is one
abbrev pub IsOwnBetween : Owner → ℕ → ℕ → List Lock → Option ℕ → Type 0
IsOwnBetween o from to ls (Some k) = (from ≤ k) × (k < to) × ((d : Lock) → is_owned_by o (get_or ls k d) ≡ true)
IsOwnBetween o from to ls None = (k : ℕ) (d : Lock) → from ≤ k → k < to → is_owned_by o (get_or ls k d) ≡ false
