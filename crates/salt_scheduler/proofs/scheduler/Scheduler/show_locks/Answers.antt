use Rattle.salt_scheduler.proofs.ShownDone.{shown}
use Rattle.salt_scheduler.proofs.scheduler.Scheduler.show_locks.Goals as goal
use Rattle.law_states.specs.Readings.{locks_by}
use Rattle.salt_values.specs.Id.{in_order}
use Rattle.salt_model.specs.declared.events.Owner.{Owner}
use Rattle.salt_model.specs.declared.shown.Item.{Item}
use Rattle.salt_values.specs.declared.id.Id.{Id}
use Rattle.std.proofs.Common.{ap, ◌++◌, ◌∙◌}
use Rattle.std.specs.List.{flat_map}
use Rattle.std.specs.Prelude.{List, map}

pub returns : goal.returns
returns c = λ s r stands serves.
    shown s c.args.self.now c.in_ok-items.items _ stands
    (c.in_ok-items.ensures s.watch r stands.watch
    ∙ ap (λ (us : List Id). map Item.Lock (flat_map (λ b. locks_by r (Owner.Base b)) s.watch.programs) ++ map Item.Lock (flat_map (λ u. locks_by r (Owner.Unit u)) us))
    (c.as_slice-2.ensures.value ∙ c.in_ok-units.ensures ∙ ap in_order (c.as_slice.ensures.value ∙ c.in_ok-names.ensures s.units stands.books)))
