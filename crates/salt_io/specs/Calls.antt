-- The calls of a source or a sink in memory: which are to fail, and how many have.
use Rattle.std.specs.Prelude.{ℕ, ◌+◌, ◌-◌, ◌^◌, min, Bool, not, ◌==◌, if◌then◌else◌, List, ◌∷◌, [], ◌++◌}
use Rattle.std.specs.List.{list_any}

pub record CallLog : Type 0 where
  pub made : ℕ
  -- the calls that are to fail, by their number from 1
  pub failing : List ℕ
  pub faults : ℕ

-- One more. A u64 that counts stays at its last value.
abbrev pub one_more : ℕ → ℕ
one_more count = min (count + 1) (2 ^ 64 - 1)

-- the next call is none of those that are to fail
abbrev pub succeeds : CallLog → Bool
succeeds calls = not (list_any (λ call. call == one_more calls.made) calls.failing)

-- after one more call, which succeeded or failed
abbrev pub after_call : CallLog → Bool → CallLog
after_call calls success = record {
  made = one_more calls.made;
  failing = calls.failing;
  faults = if success then calls.faults else one_more calls.faults;
}

-- that call is to fail too
abbrev pub with_failing : CallLog → ℕ → CallLog
with_failing calls call = record { made = calls.made; failing = calls.failing ++ call ∷ []; faults = calls.faults }
