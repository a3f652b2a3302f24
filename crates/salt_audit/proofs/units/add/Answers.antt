use Rattle.salt_audit.proofs.Noted.{unit_more}
use Rattle.salt_audit.proofs.units.add.Goals as goal

pub returns : goal.returns
returns c = λ u. unit_more c.args.units.now c.insert.new.self c.args.note c.in_ok-insert.ensures.updates.0 u
