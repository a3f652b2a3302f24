-- Which of the units that wait is to be given up.
use Rattle.std.specs.List.{Contains, list_any}
use Rattle.salt_model.specs.Waiting as waiting
use Rattle.salt_values.specs.Id.{is_older, is_same_id}
use Rattle.salt_values.specs.declared.id.Id.{Id}
use Rattle.salt_waits.specs.declared.units.WaitUnit.{WaitUnit}
use Rattle.std.specs.Prelude.{Bool, IsTrue, List, map, None, Option, Some, false, true, ◌≡◌, ◌⊎◌}

-- a unit's edges name another one
abbrev pub names : WaitUnit → WaitUnit → Bool
names u v = list_any (λ name. is_same_id name v.unit) u.edges

-- one of the units waits for another of them, at once or through others
pub data WaitsFor (list : List WaitUnit) : WaitUnit → WaitUnit → Type 0 where
  at_once : {u v : WaitUnit} → Contains list u → Contains list v → IsTrue (names u v) → WaitsFor list u v
  through : {u v w : WaitUnit} → Contains list u → Contains list v → IsTrue (names u v) → WaitsFor list v w → WaitsFor list u w

-- a unit waits for itself
pub record IsOnCycle (list : List WaitUnit) (u : WaitUnit) : Type 0 where
  pub listed : Contains list u
  pub back : WaitsFor list u u

-- the unit that is given up: on a cycle; an ACID one if there is an ACID one on a cycle; of those of its kind on a cycle the youngest
pub record IsVictim (list : List WaitUnit) (u : WaitUnit) : Type 0 where
  pub on_cycle : IsOnCycle list u
  pub acid_first : (v : WaitUnit) → IsOnCycle list v → IsTrue v.acid → IsTrue u.acid
  pub youngest : (v : WaitUnit) → IsOnCycle list v → v.acid ≡ u.acid → IsTrue (is_older v.unit u.unit) ⊎ (v.unit ≡ u.unit)

-- there is none exactly where no unit is on a cycle
abbrev pub IsRightVictim : List WaitUnit → Option Id → Type 0
IsRightVictim list None = (v : WaitUnit) → IsOnCycle list v → ⊥
IsRightVictim list (Some name) = (u : WaitUnit) × (u.unit ≡ name) × IsVictim list u

-- an ACID unit goes before a subtransaction; of two of a kind the younger one goes first
abbrev pub gives_way_by : Bool → Bool → Bool → Bool
gives_way_by true false younger = true
gives_way_by false true younger = false
gives_way_by true true younger = younger
gives_way_by false false younger = younger

-- of two units on cycles the first is given up before the second
abbrev pub gives_way : WaitUnit → WaitUnit → Bool
gives_way first second = gives_way_by first.acid second.acid (is_older second.unit first.unit)

abbrev pub gives_way_to : WaitUnit → Option WaitUnit → Bool
gives_way_to first None = true
gives_way_to first (Some second) = gives_way first second

-- a unit as the definitions of the story have it
abbrev pub in_story : WaitUnit → waiting.WaitUnit
in_story u = record { unit = u.unit; acid = u.acid; edges = u.edges }

abbrev pub graph_of : List WaitUnit → List waiting.WaitUnit
graph_of list = map in_story list
