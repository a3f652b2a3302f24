use Rattle.law_types.proofs.Runs.{serial-typed, statement-typed}
use Rattle.law_types.proofs.laws.statements_keep_types.Goals as goal

pub returns : goal.returns
returns c = record {
  one = λ schema scope es vars st proper apart h fit held. statement-typed schema scope proper apart es vars st h fit held;
  all = λ schema scope es vars sts proper apart h fit held. serial-typed schema scope proper apart es vars sts h fit held;
}
