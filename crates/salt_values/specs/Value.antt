-- Values and their order.
use Rattle.salt_values.specs.Text.{is_text}
use Rattle.salt_values.specs.declared.value.Value.{Value}
use Rattle.salt_values.specs.declared.value.Value.TheVariants.{Int, Null, Text}
use Rattle.std.specs.Cmp.{IsTotalOrder, int_cmp_total, nat_cmp_total, on_total, then_total}
use Rattle.std.specs.Cmp.Lexicographic.{nat_list_cmp_total, slice_cmp}
use Rattle.std.specs.Int.{w64}
use Rattle.std.specs.Ordering.{int_cmp, is_eq, is_gt, is_lt, nat_cmp, on, then_cmp}
use Rattle.std.specs.Prelude.{Bool, FitsSigned, List, [], false, not, pos, true, ℕ, ℤ, ⊤, ◌∷◌, ◌≡◌}
use Rattle.std.specs.declared.cmp.Ordering.{Ordering}

-- a number of 64 bits, a text, or NULL
abbrev pub IsValue : Value → Type 0
IsValue (Int z) = FitsSigned w64 z
IsValue (Text t) = is_text t ≡ true
IsValue Null = ⊤

abbrev pub is_null : Value → Bool
is_null Null = true
is_null v = false

-- a key is never NULL
abbrev pub IsKey : Value → Type 0
IsKey v = IsValue v × (is_null v ≡ false)

-- a number before a text, and NULL last
abbrev pub kind_number : Value → ℕ
kind_number (Int z) = 0
kind_number (Text t) = 1
kind_number Null = 2

abbrev pub int_in : Value → ℤ
int_in (Int z) = z
int_in v = pos 0

abbrev pub text_in : Value → List ℕ
text_in (Text t) = t
text_in v = []

-- numbers by number, texts by their bytes
abbrev pub value_cmp : Value → Value → Ordering
value_cmp = then_cmp (on kind_number nat_cmp) (then_cmp (on int_in int_cmp) (on text_in (slice_cmp nat_cmp)))

pub value_total : IsTotalOrder value_cmp
value_total = then_total (on_total kind_number nat_cmp_total) (then_total (on_total int_in int_cmp_total) (on_total text_in nat_list_cmp_total))

abbrev pub is_same_value : Value → Value → Bool
is_same_value v w = is_eq (value_cmp v w)

abbrev pub is_value_below : Value → Value → Bool
is_value_below v w = is_lt (value_cmp v w)

abbrev pub is_value_at_most : Value → Value → Bool
is_value_at_most v w = not (is_gt (value_cmp v w))

-- a row's key is its first value
abbrev pub key_of : List Value → Value
key_of [] = Int (pos 0)
key_of (key ∷ values) = key
