use Rattle.salt_model.specs.Kept.{Definition}
use Rattle.salt_parts.proofs.judge.PartJudge.changes_fit.Given as goal
use Rattle.salt_parts.specs.Judging.{HasTables}
use Rattle.salt_stands.specs.Coordinator.{Coordinator}
use Rattle.salt_stands.specs.Fitting.{definitions_reading}
use Rattle.salt_stands.specs.Partition.{is_sound_change}
use Rattle.std.proofs.Common.{List, Option, take, true, ℕ, ◌≡◌}
use Rattle.std.specs.List.{list_all}

abbrev pub invariant-loop-change : goal.invariant-loop-change
invariant-loop-change g l = (read : List ℕ → Option Definition) (c : Coordinator Definition) → HasTables l.self.schema.now l.self.shape c
    → list_all (is_sound_change (definitions_reading read) c l.self.part) (take l.change-index l.changes) ≡ true
