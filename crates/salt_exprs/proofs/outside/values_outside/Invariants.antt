use Rattle.std.proofs.Common.{drop, ◌≡◌}
use Rattle.salt_model.specs.Eval.{values_of}
use Rattle.salt_model.specs.Reaches.{no_row}
use Rattle.salt_exprs.proofs.Lists.{values_behind}
use Rattle.salt_exprs.proofs.outside.values_outside.Given as goal

abbrev pub invariant-loop-expr : goal.invariant-loop-expr
invariant-loop-expr l = values_of (no_row l.vars) l.exprs ≡ values_behind l.row (values_of (no_row l.vars) (drop l.expr-index l.exprs))
