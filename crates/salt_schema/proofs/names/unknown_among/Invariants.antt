use Rattle.salt_ast.specs.Judgement.{unknown_in_expr}
use Rattle.salt_ast.specs.Words.{first_in}
use Rattle.salt_schema.proofs.names.unknown_among.Given as goal
use Rattle.salt_schema.specs.Names.{variables}
use Rattle.std.proofs.Common.{drop, ◌≡◌}

abbrev pub invariant-loop-expr : goal.invariant-loop-expr
invariant-loop-expr l =
    first_in (unknown_in_expr l.columns (variables l.bindings)) l.exprs ≡ first_in (unknown_in_expr l.columns (variables l.bindings)) (drop l.expr-index l.exprs)
