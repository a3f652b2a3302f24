use Rattle.salt_decisions.proofs.Moving.{GoneTo}
use Rattle.salt_decisions.proofs.going.going_behind.Given as goal

abbrev pub invariant-loop-mv : goal.invariant-loop-mv
invariant-loop-mv l = GoneTo l.format l.header l.moves l.mv-index l.conts
