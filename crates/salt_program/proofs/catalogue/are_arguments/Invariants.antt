use Rattle.salt_ast.specs.ProgramJudgement.{are_arguments}
use Rattle.salt_program.proofs.catalogue.are_arguments.Given as goal
use Rattle.std.proofs.Common.{drop, length, ◌≡◌}

abbrev pub invariant-loop-at : goal.invariant-loop-at
invariant-loop-at l = record {
  lengths : length l.params ≡ length l.args;
  rest : are_arguments l.params l.args ≡ are_arguments (drop l.at l.params) (drop l.at l.args);
}
