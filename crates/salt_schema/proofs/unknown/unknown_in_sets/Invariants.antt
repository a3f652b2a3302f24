use Rattle.salt_ast.specs.Judgement.{unknown_in_set}
use Rattle.salt_ast.specs.Words.{first_in}
use Rattle.salt_schema.proofs.unknown.unknown_in_sets.Given as goal
use Rattle.salt_schema.specs.Names.{variables}
use Rattle.std.proofs.Common.{drop, ◌≡◌}

abbrev pub invariant-loop-set : goal.invariant-loop-set
invariant-loop-set l =
    first_in (unknown_in_set l.columns (variables l.bindings)) l.sets ≡ first_in (unknown_in_set l.columns (variables l.bindings)) (drop l.set-index l.sets)
