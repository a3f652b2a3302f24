-- Graphs whose vertices are numbers.
use Rattle.std.specs.List.{All, Contains}
use Rattle.salt_waits.specs.Victims.{names}
use Rattle.salt_waits.specs.declared.units.WaitUnit.{WaitUnit}
use Rattle.std.specs.Prelude.{IsTrue, List, Some, Vec, length, slice_get, ℕ, ◌<◌, ◌≡◌}
use Rattle.std.specs.Global.{Global}

-- of each vertex those that its edges lead to
abbrev pub Graph : Type 0
Graph = List (Vec ℕ Global)

abbrev pub InRange : Graph → ℕ → Type 0
InRange g n = All (λ row. All (λ v. v < n) row.items) g

abbrev pub HasEdge : Graph → ℕ → ℕ → Type 0
HasEdge g a b = (row : Vec ℕ Global) × (slice_get g a ≡ Some row) × Contains row.items b

-- edges lead from one vertex to another
pub data Leads (g : Graph) : ℕ → ℕ → Type 0 where
  at_once : {a b : ℕ} → HasEdge g a b → Leads g a b
  through : {a b c : ℕ} → HasEdge g a b → Leads g b c → Leads g a c

-- the places below a bound of the units that are named by one
pub record AreTargetsBelow (bound : ℕ) (list : List WaitUnit) (u : WaitUnit) (targets : List ℕ) : Type 0 where
  pub all : (at : ℕ) (v : WaitUnit) → at < bound → slice_get list at ≡ Some v → IsTrue (names u v) → Contains targets at
  pub only : (at : ℕ) → Contains targets at → (v : WaitUnit) × (at < bound) × (slice_get list at ≡ Some v) × IsTrue (names u v)

abbrev pub AreTargets : List WaitUnit → WaitUnit → List ℕ → Type 0
AreTargets list u targets = AreTargetsBelow (length list) list u targets

-- the vertices are the units' places, as far as these, and the edges lead to the places of those that are named
abbrev pub IsGraphBelow : ℕ → List WaitUnit → Graph → Type 0
IsGraphBelow bound list g = (length g ≡ bound) × ((at : ℕ) (u : WaitUnit) (row : Vec ℕ Global) → slice_get list at ≡ Some u → slice_get g at ≡ Some row → AreTargets list u row.items)

abbrev pub IsGraphOf : List WaitUnit → Graph → Type 0
IsGraphOf list g = IsGraphBelow (length list) list g
