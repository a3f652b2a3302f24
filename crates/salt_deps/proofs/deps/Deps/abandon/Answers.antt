use Rattle.law_states.specs.DependencyCalls.{HasAbandoned}
use Rattle.law_story.proofs.Ids.{and_left, and_right}
use Rattle.law_story.proofs.Lists.{not-true}
use Rattle.salt_deps.proofs.Calls.{abandoned}
use Rattle.salt_deps.proofs.Settling.{one-unread}
use Rattle.salt_deps.proofs.Showing.{over}
use Rattle.salt_deps.proofs.deps.Deps.abandon.Goals as goal
use Rattle.salt_deps.specs.Group.{reads_in}
use Rattle.salt_values.specs.Id.{has_id}
use Rattle.std.proofs.Common.{not, refl, sym, ◌∙◌}

pub returns : goal.returns
returns c =
    let x = c.self.inside in
    over (HasAbandoned c.args.base) c.args.self.now x.writers.last x.writers.last x.readings c.drop_reader.new.self x.finished.keys x.finished.keys c.self.view_is
    (record {
      writer = λ q. refl;
      reads = abandoned c.args.base (reads_in x.readings) (reads_in c.drop_reader.new.self) c.drop_reader.ensures;
      finished = λ b. (λ h. h, λ h. h);
    })

pub invariant_of-self : goal.invariant_of-self
invariant_of-self c t =
    let x = c.self.inside in
    let was = sym c.is_still_known-self-inside.ensures ∙ t in
    let finished = has_id c.args.base x.finished.keys in
    one-unread (reads_in x.readings) (reads_in c.drop_reader.new.self) x.finished.keys c.args.base c.drop_reader.ensures
    (not-true finished (and_right x.none_due (not finished) was))
    (c.self.invariant (and_left x.none_due (not finished) was))
