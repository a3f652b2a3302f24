use Rattle.salt_bytes.specs.Conts.{spell_cont}
use Rattle.salt_bytes.specs.Spellable.{IsSpellableCont}
use Rattle.salt_codec.proofs.Values.{PutSo}
use Rattle.salt_decisions.proofs.header_payload.with_each_cont.Given as goal

abbrev pub invariant-loop-cont : goal.invariant-loop-cont
invariant-loop-cont l = PutSo (spell_cont 3) (IsSpellableCont 3) l.conts l.fn.out.items l.out.items l.cont-index
