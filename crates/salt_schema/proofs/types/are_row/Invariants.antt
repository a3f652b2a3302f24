use Rattle.salt_ast.specs.Judgement.{are_row}
use Rattle.salt_schema.proofs.types.are_row.Given as goal
use Rattle.salt_schema.specs.Names.{variables}
use Rattle.std.proofs.Common.{drop, length, ◌≡◌}

abbrev pub invariant-loop-at : goal.invariant-loop-at
invariant-loop-at l = record {
  lengths : length l.columns ≡ length l.values;
  rest : are_row l.columns (variables l.bindings) l.values ≡ are_row (drop l.at l.columns) (variables l.bindings) (drop l.at l.values);
}
