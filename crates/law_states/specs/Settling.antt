-- Why settling ends: what is still to come, as a number that falls with each event that is said while serving.
use Rattle.law_states.specs.States.{State}
use Rattle.salt_values.specs.Id.{without}
use Rattle.salt_model.specs.declared.events.Event.{Event}
use Rattle.salt_model.specs.declared.events.Event.TheVariants.{Accepted, Began, Did, Ended, Finished, Waits}
use Rattle.salt_values.specs.declared.id.Id.{Id}
use Rattle.std.specs.Prelude.{List, None, Option, Some, [], length, map, ℕ, ◌*◌, ◌++◌, ◌+◌, ◌∷◌}

-- within a turn events follow in this order; a turn may make one unit more wait, which counts six
abbrev pub stage : Event → ℕ
stage (Began u kind) = 8
stage (Did u st answer) = 5
stage (Ended u end) = 4
stage (Accepted b) = 3
stage (Finished b) = 2
stage e = 1

abbrev pub waiters : State → List Id
waiters s = map (λ w. w.unit) s.watch.waits

-- the waiting units after an event
abbrev pub waiters_after : Event → List Id → List Id
waiters_after (Waits u owners) us = without (u ∷ []) us ++ u ∷ []
waiters_after (Did u st answer) us = without (u ∷ []) us
waiters_after (Ended u end) us = without (u ∷ []) us
waiters_after e us = us

-- by the waiting units, and what comes next
abbrev pub to_come : List Id → Option Event → ℕ
to_come us None = 0
to_come us (Some e) = 6 * length (waiters_after e us) + stage e
