use Rattle.law_types.proofs.Conts.{begun-fits, on-commit, on-failure}
use Rattle.law_types.proofs.laws.moves_keep_types.Goals as goal

pub returns : goal.returns
returns c = record {
  begun = λ k b n name args vars p at typed. begun-fits k typed b n name args vars p at;
  commit = λ k b c p vars at typed. on-commit k typed b c p vars at;
  failure = λ k b c p at typed. on-failure k typed b c p at;
}
