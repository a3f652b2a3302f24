use Rattle.law_states.specs.Watches.{Watch}
use Rattle.salt_conflicts.specs.Watched.{IsWatch}
use Rattle.salt_scheduler.proofs.called.forget_idle.Given as goal
use Rattle.salt_scheduler.specs.Calling.{Forgets}
use Rattle.std.specs.Prelude.{take}

abbrev pub invariant-loop-base : goal.invariant-loop-base
invariant-loop-base l = (w : Watch) → IsWatch l.watch w → Forgets w.programs l.beginning (take l.base-index l.gone) l.initial.called l.called
