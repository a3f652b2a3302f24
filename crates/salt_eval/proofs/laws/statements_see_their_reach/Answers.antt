use Rattle.salt_eval.proofs.Framing.{rows-agree}
use Rattle.salt_eval.proofs.laws.statements_see_their_reach.Goals as goal
use Rattle.law_story.proofs.Writes.{statement-frame}
use Rattle.salt_model.specs.Reaches.{reach}

pub returns : goal.returns
returns c = λ schema vars st a b same. statement-frame schema a b vars st (rows-agree (reach schema vars st) a b same)
