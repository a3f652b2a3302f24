-- Generations of a pair of logs, and which of the two counts.
use Rattle.std.specs.Prelude.{Bool, List, None, Option, Some, [], false, if◌then◌else◌, true, ℕ, ◌+◌, ◌-◌, ◌==◌, ◌^◌, ◌∷◌}

-- after the last number comes 2
abbrev pub next_generation : ℕ → ℕ
next_generation g = if g == 2 ^ 64 - 1 then 2 else g + 1

-- what a device of a pair holds: nothing, a log that is read as A, or bytes that are neither
pub data Content (A : Type 0) : Type 0 where
  Blank : Content A
  IsRead : A → Content A
  Outside : Content A

abbrev pub read_or_outside : {A : Type 0} → Option A → Content A
read_or_outside None = Outside
read_or_outside (Some x) = IsRead x

-- of the entries of a device
abbrev pub content_of : {A : Type 0} → (List (List ℕ) → Option A) → Option (List (List ℕ)) → Content A
content_of read None = Outside
content_of read (Some []) = Blank
content_of read (Some (entry ∷ entries)) = read_or_outside (read (entry ∷ entries))

pub data WhichLog : Type 0 where
  LogA : WhichLog
  LogB : WhichLog

-- what a pair of logs is: both blank, the log that counts and what it says, or the log that the pair's fault counts against
pub data Pair (L : Type 0) : Type 0 where
  BothBlank : Pair L
  Counts : WhichLog → L → Pair L
  Faulty : WhichLog → Pair L

-- of two logs, whether B is the next after A, and A the next after B
abbrev pub chosen : {L : Type 0} → Bool → Bool → L → L → Pair L
chosen true a_follows a b = Counts LogB b
chosen false true a b = Counts LogA a
chosen false false a b = Faulty LogB

abbrev pub follows : ℕ → ℕ → Bool
follows before after = after == next_generation before

abbrev pub later_of : {L : Type 0} → (L → ℕ) → L → L → Pair L
later_of generation a b = chosen (follows (generation a) (generation b)) (follows (generation b) (generation a)) a b

abbrev pub pair_of : {L : Type 0} → (L → ℕ) → Content L → Content L → Pair L
pair_of generation Outside b = Faulty LogA
pair_of generation a Outside = Faulty LogB
pair_of generation Blank Blank = BothBlank
pair_of generation Blank (IsRead b) = Counts LogB b
pair_of generation (IsRead a) Blank = Counts LogA a
pair_of generation (IsRead a) (IsRead b) = later_of generation a b
