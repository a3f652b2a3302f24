use Rattle.law_types.proofs.Judged.{statement-stays}
use Rattle.law_types.proofs.laws.judged_statements_stay_judged.Goals as goal

pub returns : goal.returns
returns c = λ schema scope d st h. statement-stays schema d scope st h
