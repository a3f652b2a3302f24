-- The calls of disks in memory, and which of them are to fail.
use Rattle.std.specs.List.{list_any}
use Rattle.std.specs.Prelude.{Bool, List, None, Option, Some, [], false, min, nat_le, ℕ, ◌++◌, ◌+◌, ◌-◌, ◌==◌, ◌^◌, ◌||◌, ◌∷◌}

pub record CallPlan : Type 0 where
  pub made : ℕ
  -- the calls that are to fail, by their number from 1
  pub failing : List ℕ
  -- the first of those of which each is to fail
  pub failing_from : Option ℕ

-- One more. A u64 that counts stays at its last value.
abbrev pub one_more : ℕ → ℕ
one_more count = min (count + 1) (2 ^ 64 - 1)

abbrev pub is_from : Option ℕ → ℕ → Bool
is_from None call = false
is_from (Some from) call = nat_le from call

-- the next call is one of those that are to fail
abbrev pub fails_next : CallPlan → Bool
fails_next calls = is_from calls.failing_from (one_more calls.made) || list_any (λ call. call == one_more calls.made) calls.failing

abbrev pub after_call : CallPlan → CallPlan
after_call calls = record { made = one_more calls.made; failing = calls.failing; failing_from = calls.failing_from }

-- that call is to fail too
abbrev pub with_failing : CallPlan → ℕ → CallPlan
with_failing calls call = record { made = calls.made; failing = calls.failing ++ call ∷ []; failing_from = calls.failing_from }

-- each call from there on is to fail
abbrev pub with_failing_from : CallPlan → ℕ → CallPlan
with_failing_from calls call = record { made = calls.made; failing = calls.failing; failing_from = Some call }
