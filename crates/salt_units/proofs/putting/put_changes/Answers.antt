use Rattle.law_states.specs.Overlays.{edits_of}
use Rattle.salt_units.proofs.Places.{each-edits}
use Rattle.salt_units.proofs.putting.put_changes.Goals as goal
use Rattle.salt_units.specs.Putting.{put_each}
use Rattle.std.proofs.Common.{ap, reverse, ◌∙◌}
use Rattle.std.proofs.lemmas.List.{reverse-reverse}

pub returns-clause-put : goal.returns-clause-put
returns-clause-put c =
    ap edits_of (c.put_waiting.ensures ∙ ap (put_each (reverse c.in_ok-waiting.waiting.items)) c.in_ok-reserve.ensures.items ∙ ap (λ cs. put_each cs c.args.changes.now.items) (ap reverse c.in_ok-waiting.ensures ∙ reverse-reverse c.args.new))
    ∙ each-edits c.args.new c.args.changes.now.items
