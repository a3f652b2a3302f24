use Rattle.salt_engine.proofs.Resumed.{called-next}
use Rattle.salt_engine.proofs.resuming.names_kept.Goals as goal
use Rattle.salt_engine.specs.Resuming.{AreCalled}
use Rattle.salt_values.specs.declared.cont.Cont.{Cont}
use Rattle.std.proofs.Common.{arith, subst}
use Rattle.std.proofs.lemmas.List.{take_all}
use Rattle.std.specs.Prelude.{List}

pub loop-cont-init : goal.loop-cont-init
loop-cont-init c = λ b i. absurd i

pub loop-cont-preserved : goal.loop-cont-preserved
loop-cont-preserved c =
    called-next c.loop-cont.called c.call.new.self c.args.conts.now c.loop-cont.cont-index c.cont-item.result c.loop-cont-test.true c.cont-item.is c.loop-cont.invariant c.in_ok-call.ensures.ok

pub returns : goal.returns
returns c =
    subst (λ (cs : List Cont). AreCalled c.loop-cont.called cs) (take_all c.loop-cont.cont-index c.args.conts.now (omega (arith, c.loop-cont-test.false))) c.loop-cont.invariant
