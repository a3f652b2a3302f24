use Rattle.salt_scheduler.proofs.ShownDone.{every-in, shown}
use Rattle.salt_scheduler.proofs.scheduler.Scheduler.show_bases.Goals as goal
use Rattle.law_states.specs.Members.{In}
use Rattle.law_states.specs.Readings.{base_item_by, under_way_by}
use Rattle.salt_model.specs.Words.{Every}
use Rattle.std.proofs.Common.{ap, subst, sym, ◌∙◌}
use Rattle.std.specs.Prelude.{map}

pub returns : goal.returns
returns c = λ s r stands serves.
    let same = c.as_slice.ensures.value ∙ c.in_ok-bases.ensures s stands in
    shown s c.args.self.now c.in_ok-items.items (map (base_item_by s) (under_way_by s)) stands
    (c.in_ok-items.ensures s stands (subst (Every (λ b. In b (under_way_by s))) (sym same) (every-in (under_way_by s)))
    ∙ ap (map (base_item_by s)) same)
