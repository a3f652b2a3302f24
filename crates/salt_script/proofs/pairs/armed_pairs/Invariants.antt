use Rattle.std.proofs.Common.{List, length, ℕ, ◌≡◌}
use Rattle.salt_script.proofs.Reading.{with_front}
use Rattle.salt_script.proofs.pairs.armed_pairs.Given as goal
use Rattle.salt_script.specs.Literals.{HoldsPairs, pairs_at}
use Rattle.salt_ast.specs.Symbols.{symbols_in}

-- some pairs were read, and the others stand behind them
abbrev pub invariant-pairs : goal.invariant-pairs
invariant-pairs l =
    (read : List (ℕ × ℕ)) × HoldsPairs l.arming read ×
    (pairs_at (symbols_in l.fn.tokens) ≡ with_front read (pairs_at (symbols_in l.arming.rest.now))) × (l.arming.armed ≡ l.fn.armed)

abbrev pub decreases-pairs : goal.decreases-pairs
decreases-pairs l = length l.arming.rest.now
