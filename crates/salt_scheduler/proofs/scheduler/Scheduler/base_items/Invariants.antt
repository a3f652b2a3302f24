use Rattle.salt_scheduler.proofs.scheduler.Scheduler.base_items.Given as goal
use Rattle.salt_scheduler.specs.Standing.{StandsForState}
use Rattle.law_states.specs.Members.{In}
use Rattle.law_states.specs.Readings.{base_item_by, under_way_by}
use Rattle.law_states.specs.States.{State}
use Rattle.salt_model.specs.Words.{Every}
use Rattle.std.proofs.Common.{take, ◌≡◌}
use Rattle.std.specs.Prelude.{map}

abbrev pub invariant-loop-base : goal.invariant-loop-base
invariant-loop-base l =
    (s : State) → StandsForState l.self s → Every (λ b. In b (under_way_by s)) l.bases → l.items ≡ map (base_item_by s) (take l.base-index l.bases)
