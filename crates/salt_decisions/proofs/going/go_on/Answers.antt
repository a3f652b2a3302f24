use Rattle.salt_decisions.proofs.Moving.{makes_none, makes_read}
use Rattle.salt_decisions.proofs.going.go_on.Goals as goal

pub returns-in-Some : goal.returns-in-Some
returns-in-Some c rises cs e = c.apply_move.ensures rises cs (makes_read c.args.format c.args.mv.now c.args.conts.now cs c.in_ok-made.field-0 c.in-Some.made c.in_ok-made.ensures c.in-Some.is e)

pub returns-in-None : goal.returns-in-None
returns-in-None c rises cs e = absurd (makes_none c.args.format c.args.mv.now c.args.conts.now cs c.in_ok-made.field-0 c.in_ok-made.ensures c.in-None.is e)
