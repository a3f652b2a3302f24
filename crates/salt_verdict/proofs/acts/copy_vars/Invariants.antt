use Rattle.salt_verdict.proofs.acts.copy_vars.Given as goal
use Rattle.std.proofs.Common.{take, ◌≡◌}

abbrev pub invariant-loop-binding : goal.invariant-loop-binding
invariant-loop-binding l = l.made ≡ take l.binding-index l.vars
