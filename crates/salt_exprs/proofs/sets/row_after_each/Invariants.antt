use Rattle.std.proofs.Common.{drop, ◌≡◌}
use Rattle.salt_model.specs.Reaches.{in_row}
use Rattle.salt_model.specs.Statements.{with_sets}
use Rattle.salt_exprs.proofs.sets.row_after_each.Given as goal

abbrev pub invariant-loop-set : goal.invariant-loop-set
invariant-loop-set l = with_sets l.def (in_row l.def l.old l.vars) l.sets l.old ≡ with_sets l.def (in_row l.def l.old l.vars) (drop l.set-index l.sets) l.row
