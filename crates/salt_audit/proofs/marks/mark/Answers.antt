use Rattle.salt_audit.proofs.Marking.{mark_put}
use Rattle.salt_audit.proofs.marks.mark.Goals as goal

pub returns-clause-ok : goal.returns-clause-ok
returns-clause-ok c = λ u. mark_put c.args.marks.now c.insert.new.self c.args.id c.in_ok-insert.ensures.updates.0 u
