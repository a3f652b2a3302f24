-- Where the lines of a workload stand.
use Rattle.std.specs.Prelude.{ℕ, ◌*◌, ◌+◌, ◌/◌}

-- how many lines the calls 1 to i are, with what follows them
abbrev pub lines_through : ℕ → ℕ
lines_through i = i + i / 8 + 3 * (i / 50)
