use Rattle.salt_drain.proofs.recovery.Recovery.drain.Goals as goal
use Rattle.salt_drain.proofs.Chosen.{drains-first, drains-none, first-of, gives-same}
use Rattle.std.proofs.Common.{sym}
use Rattle.std.proofs.lemmas.Result.{IfOk-weaker}
use Rattle.std.specs.Prelude.{refl}

pub returns-in-Some : goal.returns-in-Some
returns-in-Some c =
    IfOk-weaker c.take_on.result _ _ (λ e h s stands r none.
    let cont = c.in-Some.cont.now in
    let first = first-of cont s.units.kept.conts (c.in-Some.ensures s.units stands.books) in
    gives-same s _ _ _ _ (drains-first s.units cont s.units.kept.conts first.others first.all) (h s cont first.others stands r none first.all refl refl)) c.take_on.ensures

pub returns-in-None : goal.returns-in-None
returns-in-None c = λ s stands r none.
    gives-same s _ _ _ _ (drains-none s.units s.units.kept.conts (sym (c.in-None.ensures s.units stands.books))) (c.get_ready.ensures s stands r)
