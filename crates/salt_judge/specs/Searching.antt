-- The units in all chains from one, found by a search; and those at which it stops, since they lead to nothing that is not released.
use Rattle.law_states.specs.Members.{In}
use Rattle.law_states.specs.PairClosures.{Leads}
use Rattle.salt_audit.specs.Standing.{begun_in}
use Rattle.salt_audit.specs.declared.state.Begun.{Begun}
use Rattle.salt_model.specs.Units.{program_of_kind}
use Rattle.salt_values.specs.Id.{has_id}
use Rattle.salt_values.specs.declared.id.Id.{Id}
use Rattle.salt_audit.specs.Marks.{is_marked}
use Rattle.salt_judge.specs.Reads.{is_free, is_named, near, parts_near, program_in, sources_in, ties_of}
use Rattle.salt_verdict.specs.declared.ledger.Ledger.{Ledger}
use Rattle.salt_judge.specs.declared.reads.Reads.{Reads}
use Rattle.std.specs.BTreeMap.{BTreeMap}
use Rattle.std.specs.List.{list_all}
use Rattle.std.specs.Prelude.{Bool, List, None, Option, Some, [], false, if◌then◌else◌, is_some, not, take, true, ℕ, ◌&&◌, ◌++◌, ◌||◌, ◌∷◌, ◌≡◌, ◌⊎◌}

abbrev pub is_new : Ledger → BTreeMap Id Bool → List Id → Id → Bool
is_new l settled found u = not (is_marked u settled) && (is_some (begun_in u l.state.units) && not (has_id u found))

-- a unit that has begun and is not settled is found, once
abbrev pub visited : Ledger → BTreeMap Id Bool → Id → List Id → List Id
visited l settled u found = if is_new l settled found u then found ++ u ∷ [] else found

abbrev pub visited_all : Ledger → BTreeMap Id Bool → List Id → List Id → List Id
visited_all l settled [] found = found
visited_all l settled (u ∷ us) found = visited_all l settled us (visited l settled u found)

-- what is noted of units and of programs fits
pub record IsLinked (l : Ledger) (r : Reads) : Type 0 where
  pub begun : (v : Id) → is_some (begun_in v l.state.units) ≡ has_id v l.order
  pub parts : (b v : Id) → has_id v (sources_in b r.parts) ≡ is_named b (program_in l v)

-- WHERE A SEARCH STOPS

-- no unit of the program begins any more, and it is released
abbrev pub is_over : Ledger → Reads → Option Id → Bool
is_over l r None = true
is_over l r (Some b) = is_marked b r.released && (has_id b l.state.bases && has_id b l.state.finished)

abbrev pub rests_as : Ledger → Reads → Option Begun → Bool
rests_as l r None = false
rests_as l r (Some n) = not n.is_open && is_over l r (program_of_kind n.kind)

-- whom the unit is tied to stays as it is, and its program is released
abbrev pub rests : Ledger → Reads → Id → Bool
rests l r u = rests_as l r (begun_in u l.state.units)

pub record IsSettled (l : Ledger) (r : Reads) (settled : BTreeMap Id Bool) (x : Id) : Type 0 where
  pub rests : rests l r x ≡ true
  pub ties : (v : Id) → In v (near l r x) → is_marked v settled ≡ true

-- each settled unit rests, and is tied to none but settled ones
abbrev pub AreSettled : Ledger → Reads → BTreeMap Id Bool → Type 0
AreSettled l r settled = (x : Id) → is_marked x settled ≡ true → IsSettled l r settled x

abbrev pub is_known : (settled marks : BTreeMap Id Bool) → Id → Bool
is_known settled marks u = is_marked u settled || is_marked u marks

-- a unit that rests, and is tied to none but what is settled or marked
abbrev pub may_settle : Ledger → Reads → (settled marks : BTreeMap Id Bool) → Id → Bool
may_settle l r settled marks u =
    rests l r u && (list_all (is_known settled marks) (sources_in u r.sources) && list_all (is_known settled marks) (parts_near r (program_in l u)))

-- THE SEARCH

abbrev pub IsReached : BTreeMap Id Bool → List Id → Id → Type 0
IsReached settled found v = In v found ⊎ (is_marked v settled ≡ true)

-- the unit's program is released, and whom it is tied to is found or settled
pub record IsDone (l : Ledger) (r : Reads) (settled : BTreeMap Id Bool) (found : List Id) (x : Id) : Type 0 where
  pub free : is_free r.released (program_in l x) ≡ true
  pub ties : (v : Id) → In v (ties_of l r x) → IsReached settled found v

-- chains lead from a to all that is found, and so many of them are done
pub record Searched (l : Ledger) (r : Reads) (settled : BTreeMap Id Bool) (a : Id) (at : ℕ) (found : List Id) : Type 0 where
  pub start : (v : Id) → In v (ties_of l r a) → IsReached settled found v
  pub led : (x : Id) → In x found → Leads (ties_of l r) a x
  pub done : (x : Id) → In x (take at found) → IsDone l r settled found x

-- each unit in all chains from one is of a program that is released, or of none
abbrev pub are_free : Ledger → Reads → List Id → Bool
are_free l r us = list_all (λ (u : Id). is_free r.released (program_in l u)) us
