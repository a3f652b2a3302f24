use Rattle.salt_scheduler.proofs.ShownDone.{every-at}
use Rattle.salt_scheduler.proofs.scheduler.Scheduler.base_items.Goals as goal
use Rattle.law_states.specs.Members.{In}
use Rattle.law_states.specs.Readings.{base_item_by, under_way_by}
use Rattle.std.proofs.Common.{[], sym, ◌++◌, ◌∙◌, ◌∷◌}
use Rattle.std.proofs.lemmas.List.{map_more}

pub loop-base-preserved : goal.loop-base-preserved
loop-base-preserved c = λ s stands each.
    let one = every-at (λ b. In b (under_way_by s)) c.args.bases.now c.loop-base.base-index (record { boot = 0; seq = 0 }) c.loop-base-test.true each in
    c.in_ok-push.ensures.ok
    ∙ (λ i. c.loop-base.invariant s stands each i ++ c.in_ok-base_item.ensures s stands one i ∷ [])
    ∙ sym (map_more (base_item_by s) c.args.bases.now c.loop-base.base-index (record { boot = 0; seq = 0 }) c.loop-base-test.true)
