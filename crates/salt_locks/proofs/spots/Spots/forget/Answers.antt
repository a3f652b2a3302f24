use Rattle.salt_locks.proofs.Spotting.{spotted-others}
use Rattle.salt_locks.proofs.spots.Spots.forget.Goals as goal

pub returns : goal.returns
returns c = λ ls spotted none. spotted-others c.args.self.now c.take-spots.new.self c.args.owner ls c.take-spots.ensures.whole c.take-spots.ensures.others spotted none
