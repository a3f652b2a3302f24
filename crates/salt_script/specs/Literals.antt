-- The literals of a call, and the pairs of a line: how they are read from left to right, and what is kept of them.
use Rattle.salt_ast.specs.Limits.{passed_in_list, value_passed}
use Rattle.salt_ast.specs.ProgramLimits.{stop_passed, twist_passed}
use Rattle.salt_ast.specs.Words.{first_in}
use Rattle.salt_ast.specs.declared.limit.LimitName.{LimitName}
use Rattle.salt_ast.specs.declared.limit.LimitName.TheVariants as limit
use Rattle.salt_parse.specs.Settling.{ArePrintable}
use Rattle.salt_script.specs.declared.args.Args.{Args}
use Rattle.salt_script.specs.declared.pairs.Armed.{Armed}
use Rattle.salt_script.specs.declared.pairs.Armed.TheVariants.{Stops, Twists}
use Rattle.salt_script.specs.declared.pairs.Arming.{Arming}
use Rattle.salt_ast.specs.Symbols.{Symbols, int, sign, symbols_in, text}
use Rattle.salt_ast.specs.declared.sign.Sign.TheVariants as mark
use Rattle.salt_values.specs.declared.limits.TheConstants.{PAIRS_MOST}
use Rattle.salt_values.specs.declared.value.Value.{Value}
use Rattle.salt_values.specs.declared.value.Value.TheVariants as value
use Rattle.std.specs.Prelude.{Bool, Err, List, None, Ok, Option, Result, Some, [], false, length, neg_ℤ, option_map, pos, true, ℕ, ℤ, ◌++◌, ◌<◌, ◌∷◌, ◌≡◌}

abbrev pub by_sign : (minus : Bool) → ℕ → ℤ
by_sign false n = pos n
by_sign true n = neg_ℤ (pos n)

abbrev pub literal_at : Symbols → Option (Value × Symbols)
literal_at (int n ∷ ts) = Some (value.Int (pos n), ts)
literal_at (sign mark.Minus ∷ int n ∷ ts) = Some (value.Int (neg_ℤ (pos n)), ts)
literal_at (text t ∷ ts) = Some (value.Text t, ts)
literal_at _ = None

-- where a list of literals is read: before one, between its minus sign and its number, or behind one
pub data Place : Type 0 where
  at_item : Place
  at_number : Place
  behind_item : Place

-- literals with commas between them, up to the parenthesis that ends the row
unfoldable pub items_at : Place → Symbols → Option (List Value)
items_at at_item (int n ∷ ts) = option_map (λ vs. value.Int (pos n) ∷ vs) (items_at behind_item ts)
items_at at_item (text t ∷ ts) = option_map (λ vs. value.Text t ∷ vs) (items_at behind_item ts)
items_at at_item (sign mark.Minus ∷ ts) = items_at at_number ts
items_at at_number (int n ∷ ts) = option_map (λ vs. value.Int (neg_ℤ (pos n)) ∷ vs) (items_at behind_item ts)
items_at behind_item (sign mark.Comma ∷ ts) = items_at at_item ts
items_at behind_item (sign mark.Close ∷ []) = Some []
items_at _ _ = None

-- what stands behind the opening parenthesis of a call
abbrev pub args_at : Symbols → Option (List Value)
args_at (sign mark.Close ∷ []) = Some []
args_at ts = items_at at_item ts

-- a value was kept, or the limit that it passes
abbrev pub IsValueOf : Result Value LimitName → Value → Type 0
IsValueOf (Ok v) w = (v ≡ w) × (value_passed w ≡ None)
IsValueOf (Err l) w = value_passed w ≡ Some l

-- the first limit that what was read passes, and, while it passes none, what was read
pub record HoldsList {A : Type 0} (limit_of : List A → Option LimitName) (passed : Option LimitName) (kept read : List A) : Type 0 where
  pub limit : passed ≡ limit_of read
  pub whole : passed ≡ None → kept ≡ read

abbrev pub HoldsArgs : Args → List Value → Type 0
HoldsArgs args vs = HoldsList (first_in value_passed) args.passed args.row vs

-- the next literal was taken
pub record IsTaken (old new : Args) : Type 0 where
  pub value : Value
  pub read : literal_at (symbols_in old.rest.now) ≡ Some (value, symbols_in new.rest.now)
  pub holds : (vs : List Value) → HoldsArgs old vs → HoldsArgs new (vs ++ value ∷ [])
  pub shrinks : length new.rest.now < length old.rest.now
  pub printable : ArePrintable (symbols_in new.rest.now)

-- what stands behind a comma
abbrev pub comma_at : Symbols → Option Symbols
comma_at (sign mark.Comma ∷ ts) = Some ts
comma_at _ = None

-- these literals, where the parenthesis that ends the row is left alone
abbrev pub closed_at : List Value → Symbols → Option (List Value)
closed_at vs (sign mark.Close ∷ []) = Some vs
closed_at vs _ = None

abbrev pub pair_at : Symbols → Option ((ℕ × ℕ) × Symbols)
pair_at (int n ∷ int m ∷ ts) = Some ((n, m), ts)
pair_at _ = None

-- pairs up to the end of the row
unfoldable pub pairs_at : Symbols → Option (List (ℕ × ℕ))
pairs_at [] = Some []
pairs_at (int n ∷ int m ∷ ts) = option_map (λ pairs. (n, m) ∷ pairs) (pairs_at ts)
pairs_at _ = None

abbrev pub pair_passed : Armed → ℕ × ℕ → Option LimitName
pair_passed Stops = stop_passed
pair_passed Twists = twist_passed

abbrev pub pairs_passed : Armed → List (ℕ × ℕ) → Option LimitName
pairs_passed armed pairs = passed_in_list PAIRS_MOST limit.Pairs (pair_passed armed) pairs

abbrev pub HoldsPairs : Arming → List (ℕ × ℕ) → Type 0
HoldsPairs arming read = HoldsList (pairs_passed arming.armed) arming.passed arming.pairs read

-- the next pair was taken
pub record IsPairTaken (old new : Arming) : Type 0 where
  pub armed : new.armed ≡ old.armed
  pub pair : ℕ × ℕ
  pub read : pair_at (symbols_in old.rest.now) ≡ Some (pair, symbols_in new.rest.now)
  pub holds : (pairs : List (ℕ × ℕ)) → HoldsPairs old pairs → HoldsPairs new (pairs ++ pair ∷ [])

-- these pairs, where nothing is left
abbrev pub ended_at : List (ℕ × ℕ) → Symbols → Option (List (ℕ × ℕ))
ended_at pairs [] = Some pairs
ended_at pairs _ = None
