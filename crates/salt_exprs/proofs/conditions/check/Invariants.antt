use Rattle.std.proofs.Common.{[], drop, ◌≡◌}
use Rattle.salt_exprs.specs.Resolving.{visible}
use Rattle.salt_model.specs.Statements.{checked}
use Rattle.salt_exprs.proofs.conditions.check.Given as goal

abbrev pub invariant-loop-check : goal.invariant-loop-check
invariant-loop-check l = checked (visible l.columns l.row []) l.checks ≡ checked (visible l.columns l.row []) (drop l.check-index l.checks)
