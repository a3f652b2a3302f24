-- The victim, by ways in the graph of the waiting units and not by search.
use Rattle.salt_model.specs.Trace.{Trace}
use Rattle.salt_model.specs.Waiting.{WaitUnit, edges_in, is_acid, wait_graph}
use Rattle.salt_values.specs.Id.{has_id}
use Rattle.salt_values.specs.Id.{is_older}
use Rattle.salt_values.specs.declared.id.Id.{Id}
use Rattle.std.specs.Prelude.{IsTrue, List, None, Option, Some, ◌≡◌, ◌⊎◌}

-- a way of edges leads from one unit to another: an edge, or an edge and then a way
pub data Leads (graph : List WaitUnit) : Id → Id → Type 0 where
  at_once : {u v : Id} → IsTrue (has_id v (edges_in graph u)) → Leads graph u v
  through : {u v w : Id} → IsTrue (has_id v (edges_in graph u)) → Leads graph v w → Leads graph u w

-- a unit waits for itself, through others or at once
abbrev pub IsOnCycle : Trace → Id → Type 0
IsOnCycle trace u = Leads (wait_graph trace) u u

-- the unit that gives way: it is on a cycle, it is ACID if an ACID unit is on one, and of those like it on a cycle it is the youngest
pub record IsYoungestOnCycle (trace : Trace) (u : Id) : Type 0 where
  pub on_cycle : IsOnCycle trace u
  pub acid_first : (v : Id) → IsOnCycle trace v → IsTrue (is_acid trace v) → IsTrue (is_acid trace u)
  pub youngest : (v : Id) → IsOnCycle trace v → is_acid trace v ≡ is_acid trace u → IsTrue (is_older v u) ⊎ (v ≡ u)

-- there is no victim exactly where no unit is on a cycle
abbrev pub IsRightVictim : Trace → Option Id → Type 0
IsRightVictim trace None = (u : Id) → IsOnCycle trace u → ⊥
IsRightVictim trace (Some u) = IsYoungestOnCycle trace u
