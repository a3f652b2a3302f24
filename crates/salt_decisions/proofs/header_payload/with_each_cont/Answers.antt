use Rattle.salt_bytes.specs.Conts.{spell_cont}
use Rattle.salt_bytes.specs.Spellable.{IsSpellableCont}
use Rattle.salt_codec.proofs.Values.{every_all, put_next, put_none, puts_all}
use Rattle.salt_decisions.proofs.header_payload.with_each_cont.Goals as goal
use Rattle.std.proofs.Common.{arith}

pub loop-cont-init : goal.loop-cont-init
loop-cont-init c = put_none (spell_cont 3) (IsSpellableCont 3) c.args.conts.now c.args.out.items

pub loop-cont-preserved : goal.loop-cont-preserved
loop-cont-preserved c = put_next (spell_cont 3) (IsSpellableCont 3) c.args.conts.now c.args.out.items c.loop-cont.out.items c.in_ok-out.out.items c.loop-cont.cont-index c.cont-item.result c.loop-cont-test.true c.cont-item.is c.in_ok-out.ensures.put c.in_ok-out.ensures.spellable c.loop-cont.invariant

pub returns-clause-put : goal.returns-clause-put
returns-clause-put c = puts_all (spell_cont 3) c.args.conts.now c.args.out.items c.loop-cont.out.items c.loop-cont.cont-index (omega (arith, c.loop-cont-test.false)) c.loop-cont.invariant.puts

pub returns-clause-spellable : goal.returns-clause-spellable
returns-clause-spellable c = every_all (IsSpellableCont 3) c.args.conts.now c.loop-cont.cont-index (omega (arith, c.loop-cont-test.false)) c.loop-cont.invariant.every
