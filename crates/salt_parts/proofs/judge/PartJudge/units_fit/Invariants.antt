use Rattle.salt_codec.specs.Entries.{prepared_of}
use Rattle.salt_model.specs.Kept.{Definition}
use Rattle.salt_parts.proofs.judge.PartJudge.units_fit.Given as goal
use Rattle.salt_parts.specs.Judging.{HasTables}
use Rattle.salt_stands.specs.Coordinator.{Coordinator}
use Rattle.salt_stands.specs.Fitting.{definitions_reading}
use Rattle.salt_stands.specs.OpenedPart.{fits_definitions}
use Rattle.std.proofs.Common.{List, Option, take, true, ℕ, ◌≡◌}
use Rattle.std.specs.List.{list_all}

abbrev pub invariant-loop-unit : goal.invariant-loop-unit
invariant-loop-unit g l = (read : List ℕ → Option Definition) (c : Coordinator Definition) → HasTables l.self.schema.now l.self.shape c
    → list_all (λ u. fits_definitions (definitions_reading read) c l.self.part (prepared_of u)) (take l.unit-index l.units) ≡ true
