use Rattle.salt_waits.specs.Victims.{IsRightVictim}
use Rattle.salt_conflicts.proofs.Awaiting.{victim-read}
use Rattle.salt_conflicts.proofs.Seen.{watch-shown}
use Rattle.salt_conflicts.proofs.watching.Watching.victim.Goals as goal
use Rattle.std.proofs.Common.{subst}
use Rattle.std.proofs.lemmas.Result.{IfOk-weaker}

pub returns : goal.returns
returns c =
    IfOk-weaker c.victim.result _ _
    (λ found right w r h distinct.
    victim-read _ w r c.deref.result.now c.in_ok-graph.graph.items found c.deref.ensures.value (watch-shown _ _ w c.self.view_is h) distinct c.in_ok-graph.ensures
    (subst (λ l. IsRightVictim l found) c.deref-2.ensures.value right))
    c.victim.ensures
