use Rattle.salt_commit.proofs.Shared.{shares_next}
use Rattle.salt_commit.proofs.shares.shares_of.Goals as goal
use Rattle.std.proofs.Common.{[], ap, ◌++◌, ◌∙◌, ◌∷◌}

pub loop-part-preserved : goal.loop-part-preserved
loop-part-preserved g c =
    shares_next c.args.shape c.args.changes.now c.loop-part.part c.loop-part.shares.items c.push.new.self.items c.loop-part.invariant
    (c.in_ok-push.ensures.items ∙ ap (λ own. c.loop-part.shares.items ++ own ∷ []) c.in_ok-own.ensures)
