use Rattle.salt_judge.proofs.meetings.take_meetings.Goals as goal
use Rattle.salt_judge.specs.Meetings.{committed_by}
use Rattle.salt_judge.specs.declared.met.Ending.{Ending}
use Rattle.salt_values.specs.declared.id.Id.{Id}
use Rattle.std.proofs.Common.{ap, ◌∙◌}
use Rattle.std.specs.BTreeMap.{BTreeMap}

pub returns : goal.returns
returns c = record {
  taken = c.in_ok-note_touch.ensures.taken;
  met = c.in_ok-note_touch.ensures.met;
  committed = λ u.
      c.in_ok-note_ending.ensures u ∙ ap (λ (endings : BTreeMap Id Ending). committed_by c.args.event.now endings u) c.in_ok-note_touch.ensures.endings;
}
