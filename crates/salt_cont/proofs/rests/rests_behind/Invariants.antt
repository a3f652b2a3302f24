use Rattle.salt_ast.specs.Paths.{rest_among, rests}
use Rattle.salt_cont.proofs.rests.rests_behind.Given as goal
use Rattle.salt_cont.specs.Rests.{rest_told}
use Rattle.salt_values.specs.declared.limits.TheConstants.{PARTS_MOST}
use Rattle.std.proofs.Common.{Option, drop, length, suc, ℕ, ◌*◌, ◌-◌, ◌≡◌, ◌≤◌}

-- the table has the rests of the parts behind the first so many, each of which adds no more than this
abbrev pub invariant-loop-at : goal.invariant-loop-at
invariant-loop-at l = record {
  from : l.number ≤ l.at;
  sized : length l.rests ≡ PARTS_MOST;
  to : l.at ≤ length l.parts;
  told : (way : Option ℕ) → rest_told l.rests way ≡ rest_among (rests (length l.parts) (suc l.at) (drop l.at l.parts)) way;
  small : (way : Option ℕ) → rest_told l.rests way ≤ (length l.parts - l.at) * 16384;
}

abbrev pub decreases-loop-at : goal.decreases-loop-at
decreases-loop-at l = l.at
