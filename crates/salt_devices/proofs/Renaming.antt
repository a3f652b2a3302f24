-- Other names for the units of a store, none of which is a given one. What it keeps is the same.
use Rattle.salt_bytes.specs.Coordinator.{Decision}
use Rattle.salt_bytes.specs.Partition.{Prepared}
use Rattle.salt_commit.specs.Stores.{decided_by}
use Rattle.salt_model.specs.Kept.{Definition}
use Rattle.salt_values.specs.Id.{has_id}
use Rattle.salt_stands.specs.Coordinator.{Coordinator}
use Rattle.salt_stands.specs.Pieces.{PartView}
use Rattle.salt_values.specs.declared.id.Id.{Id}
use Rattle.std.specs.Prelude.{List, [], if◌then◌else◌, map, ℕ, ◌+◌, ◌∷◌}

-- a unit of the same boot, behind u
abbrev pub renamed : (u w : Id) → Id
renamed u w = record { boot = w.boot; seq = w.seq + u.seq + 1 }

abbrev pub decision_renamed : Id → Decision → Decision
decision_renamed u d = record d { unit = renamed u d.unit }

-- of prepared units, those that are decided
abbrev pub decided_renamed : Id → List Id → List Prepared → List Prepared
decided_renamed u us [] = []
decided_renamed u us (p ∷ ps) = if has_id p.unit us then record { unit = renamed u p.unit; changes = p.changes } ∷ decided_renamed u us ps else decided_renamed u us ps

abbrev pub coordinator_renamed : Id → Coordinator Definition → Coordinator Definition
coordinator_renamed u c = record c { log = record c.log { told = record c.log.told { decided = map (decision_renamed u) c.log.told.decided } } }

abbrev pub view_renamed : Id → Coordinator Definition → (ℕ → PartView) → ℕ → PartView
view_renamed u c v p = record (v p) { log = record (v p).log { prepared = decided_renamed u (decided_by c p) (v p).log.prepared } }
