use Rattle.law_states.specs.Overlays.{edits_of}
use Rattle.salt_judge.proofs.readers.put_commit.Goals as goal
use Rattle.salt_judge.specs.ReadAfter.{put_edits}
use Rattle.salt_values.specs.declared.change.Change.{Change}
use Rattle.salt_verdict.specs.Again.{Outcome}
use Rattle.std.proofs.Common.{List, ap, ◌∙◌}

pub returns : goal.returns
returns c =
    let last = c.args.last.now.items in
    c.in_ok-put_changes.ensures
    ∙ ap (λ (cs : List Change). put_edits c.args.unit (edits_of cs) last) (c.as_slice.ensures.value ∙ c.into_vec-changes.ensures.items ∙ c.into_changes.ensures.changes)
    ∙ ap (λ (o : Outcome). put_edits c.args.unit o.edits last) c.in_ok-again.ensures.outcome
