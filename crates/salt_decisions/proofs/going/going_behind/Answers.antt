use Rattle.salt_decisions.proofs.Moving.{gone_on}
use Rattle.salt_decisions.proofs.going.going_behind.Goals as goal
use Rattle.salt_decisions.specs.Moves.{then_moved}
use Rattle.std.proofs.Common.{List, Some, ap, ℕ, ◌∙◌}

pub loop-mv-preserved : goal.loop-mv-preserved
loop-mv-preserved c =
    let l = c.loop-mv in
    gone_on c.args.format c.args.header.now c.args.moves.now l.mv-index l.conts l.invariant c.mv-item.result c.loop-mv-test.true c.mv-item.is c.go_on.new.conts
    (λ rises cs e. c.in_ok-go_on.ensures rises cs (ap (λ (m : List ℕ). then_moved c.args.format m (Some l.conts)) c.as_slice.ensures ∙ e))
