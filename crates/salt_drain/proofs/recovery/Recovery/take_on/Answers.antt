use Rattle.salt_drain.proofs.recovery.Recovery.take_on.Goals as goal
use Rattle.salt_drain.proofs.Chosen.{begins-first, gives-same, names-all}
use Rattle.std.proofs.Common.{sym}
use Rattle.std.proofs.lemmas.Result.{IfOk-weaker}

pub returns-then-opens_early : goal.returns-then-opens_early
returns-then-opens_early c =
    IfOk-weaker c.open_early.result _ _ (λ e h s d ds stands r none all base next.
    gives-same s _ _ _ _ (names-all s.units d ds all (sym (c.if-opens_early.ensures s.units stands.books))) (h s stands r)) c.open_early.ensures

pub returns-else-opens_early : goal.returns-else-opens_early
returns-else-opens_early c =
    IfOk-weaker c.begin.result _ _ (λ e h s d ds stands r none all base next.
    gives-same s _ _ _ _ (begins-first s.units d ds c.args.base c.args.part base next (sym (c.if-opens_early.ensures s.units stands.books))) (h s stands r none)) c.begin.ensures
