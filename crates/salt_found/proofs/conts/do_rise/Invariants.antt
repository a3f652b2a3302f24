use Rattle.salt_found.proofs.conts.do_rise.Given as goal
use Rattle.salt_stands.specs.OpenConts.{do_rise}
use Rattle.std.proofs.Common.{drop, ◌≡◌}

abbrev pub invariant-loop-at : goal.invariant-loop-at
invariant-loop-at l = do_rise l.conts ≡ do_rise (drop l.at l.conts)
