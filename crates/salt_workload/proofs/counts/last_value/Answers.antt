use Rattle.salt_workload.proofs.Counting.{last-taken}
use Rattle.salt_workload.proofs.counts.last_value.Goals as goal
use Rattle.salt_model.specs.Summary.{last_value}
use Rattle.std.proofs.Common.{[], ap, ◌∙◌, ◌∷◌}
use Rattle.std.specs.Option.{option_copied}

pub loop-event-preserved : goal.loop-event-preserved
loop-event-preserved c =
    last-taken c.args.story.now c.loop-event.event-index c.event-item.result (option_copied c.value_after-found.result) c.loop-event-test.true c.event-item.is
    (c.value_after-found.ensures ∙ ap (λ found. last_value found (c.event-item.result ∷ [])) c.loop-event.invariant)
