-- Expressions: what they give, with the first cause met from left to right.
use Rattle.salt_values.specs.declared.limits.TheConstants.{TEXT_MOST}
use Rattle.salt_ast.specs.TokenSpelling.{same_bytes}
use Rattle.salt_ast.specs.declared.trees.Expr.{Binary', Column, Expr, IsNull', Lit, Not', Variable, end_of-Expr, more_of-Expr}
use Rattle.salt_ast.specs.declared.trees.Field.{Field}
use Rattle.salt_ast.specs.declared.trees.Op.TheVariants.{Add, And, AtLeast, AtMost, Equal, Greater, Join, Less, Mul, Or, Sub, Unequal}
use Rattle.salt_ast.specs.declared.trees.Op.{Op}
use Rattle.salt_model.specs.Words.{and_then}
use Rattle.salt_model.specs.declared.events.Cause.TheVariants.{Overflow, TooLong}
use Rattle.salt_model.specs.declared.events.Cause.{Cause}
use Rattle.salt_model.specs.declared.vars.Binding.{Binding}
use Rattle.salt_values.specs.Value.{is_null, is_same_value, is_value_at_most, is_value_below}
use Rattle.salt_values.specs.declared.value.Value.TheVariants.{Int, Null, Text}
use Rattle.salt_values.specs.declared.value.Value.{Value}
use Rattle.std.specs.Prelude.{Bool, Err, List, None, Ok, Option, Result, Some, [], false, if◌then◌else◌}
use Rattle.std.specs.Prelude.{int_le, length, nat_le, negsuc, not, pos, true, ℕ, ℤ, ◌&&◌, ◌*ℤ◌, ◌++◌, ◌+ℤ◌, ◌-ℤ◌, ◌∷◌, ◌||◌}
use Rattle.std.specs.Option.{option_map_or}

-- the three truth values
pub data Truth : Type 0 where
  Yes : Truth
  No : Truth
  Unknown : Truth

-- what an expression gives: a value, NULL among them, or a truth value
pub data Datum : Type 0 where
  Gives : Value → Datum
  Holds : Truth → Datum

-- the names that an expression sees, with their values
pub record Visible : Type 0 where
  pub columns : List Binding
  pub vars : List Binding

abbrev pub value_named : List ℕ → List Binding → Option Value
value_named n [] = None
value_named n (b ∷ bs) = if same_bytes n b.name then Some b.value else value_named n bs

-- fields with a row's values
abbrev pub named_values : List Field → List Value → List Binding
named_values [] vs = []
named_values (f ∷ fs) [] = []
named_values (f ∷ fs) (v ∷ vs) = record { name = f.name; value = v } ∷ named_values fs vs

-- a checked statement never comes here
abbrev pub mistyped : Result Datum Cause
mistyped = Ok (Gives (Int (pos 0)))

abbrev pub is_int64 : ℤ → Bool
is_int64 z = int_le (negsuc 9223372036854775807) z && int_le z (pos 9223372036854775807)

abbrev pub int_or_overflow : ℤ → Result Datum Cause
int_or_overflow z = if is_int64 z then Ok (Gives (Int z)) else Err Overflow

abbrev pub text_or_too_long : List ℕ → Result Datum Cause
text_or_too_long t = if nat_le (length t) TEXT_MOST then Ok (Gives (Text t)) else Err TooLong

abbrev pub yes_or_no : Bool → Truth
yes_or_no true = Yes
yes_or_no false = No

-- an operation on two values that are not NULL
abbrev pub of_values : Op → Value → Value → Result Datum Cause
of_values Equal v w = Ok (Holds (yes_or_no (is_same_value v w)))
of_values Unequal v w = Ok (Holds (yes_or_no (not (is_same_value v w))))
of_values Less v w = Ok (Holds (yes_or_no (is_value_below v w)))
of_values AtMost v w = Ok (Holds (yes_or_no (is_value_at_most v w)))
of_values Greater v w = Ok (Holds (yes_or_no (is_value_below w v)))
of_values AtLeast v w = Ok (Holds (yes_or_no (is_value_at_most w v)))
of_values Add (Int x) (Int y) = int_or_overflow (x +ℤ y)
of_values Sub (Int x) (Int y) = int_or_overflow (x -ℤ y)
of_values Mul (Int x) (Int y) = int_or_overflow (x *ℤ y)
of_values Join (Text s) (Text t) = text_or_too_long (s ++ t)
of_values op v w = mistyped

-- an operation of which a side is NULL: a comparison is unknown, and the others give NULL
abbrev pub of_null : Op → Result Datum Cause
of_null Add = Ok (Gives Null)
of_null Sub = Ok (Gives Null)
of_null Mul = Ok (Gives Null)
of_null Join = Ok (Gives Null)
of_null And = mistyped
of_null Or = mistyped
of_null op = Ok (Holds Unknown)

abbrev pub with_value : Op → Value → Datum → Result Datum Cause
with_value op v (Gives w) = if is_null v || is_null w then of_null op else of_values op v w
with_value op v (Holds t) = mistyped

-- `and`: false where a side is, true where both are, and else unknown
abbrev pub both : Truth → Truth → Truth
both No t = No
both t No = No
both Yes Yes = Yes
both t u = Unknown

-- `or`: true where a side is, false where both are, and else unknown
abbrev pub one_of : Truth → Truth → Truth
one_of Yes t = Yes
one_of t Yes = Yes
one_of No No = No
one_of t u = Unknown

abbrev pub joined : Op → Truth → Datum → Result Datum Cause
joined And t (Holds u) = Ok (Holds (both t u))
joined Or t (Holds u) = Ok (Holds (one_of t u))
joined op t d = mistyped

-- `and` stops where the left side is false, `or` where it is true
abbrev pub with_truth : Op → Truth → Result Datum Cause → Result Datum Cause
with_truth And No right = Ok (Holds No)
with_truth Or Yes right = Ok (Holds Yes)
with_truth op t right = and_then right (joined op t)

abbrev pub operate : Op → Result Datum Cause → Result Datum Cause → Result Datum Cause
operate op (Err c) right = Err c
operate op (Ok (Holds t)) right = with_truth op t right
operate op (Ok (Gives v)) right = and_then right (with_value op v)

-- `not` of unknown is unknown
abbrev pub opposite : Truth → Truth
opposite Yes = No
opposite No = Yes
opposite Unknown = Unknown

abbrev pub negated : Datum → Result Datum Cause
negated (Holds t) = Ok (Holds (opposite t))
negated (Gives v) = mistyped

-- whether a value is NULL, or, where the test is negated, whether it is not
abbrev pub null_tested : (negated : Bool) → Datum → Result Datum Cause
null_tested false (Gives v) = Ok (Holds (yes_or_no (is_null v)))
null_tested true (Gives v) = Ok (Holds (yes_or_no (not (is_null v))))
null_tested negated (Holds t) = mistyped

abbrev pub known : Option Value → Result Datum Cause
known v = option_map_or (λ w. Ok (Gives w)) v mistyped

-- the value of an expression, or its cause
abbrev pub eval : Visible → Expr → Result Datum Cause
eval s (Lit v) = Ok (Gives v)
eval s (Column n) = known (value_named n s.columns)
eval s (Variable n) = known (value_named n s.vars)
eval s (Not' _ (more_of-Expr e end_of-Expr)) = and_then (eval s e) negated
eval s (IsNull' _ (more_of-Expr e end_of-Expr) is_negated) = and_then (eval s e) (null_tested is_negated)
eval s (Binary' op _ (more_of-Expr a end_of-Expr) _ (more_of-Expr b end_of-Expr)) = operate op (eval s a) (eval s b)

abbrev pub value_in : Datum → Result Value Cause
value_in (Gives v) = Ok v
value_in (Holds t) = Ok (Int (pos 0))

abbrev pub value_of : Visible → Expr → Result Value Cause
value_of s e = and_then (eval s e) value_in

abbrev pub truth_in : Datum → Result Truth Cause
truth_in (Holds t) = Ok t
truth_in (Gives v) = Ok No

abbrev pub truth_of : Visible → Expr → Result Truth Cause
truth_of s e = and_then (eval s e) truth_in

abbrev pub is_yes : Truth → Bool
is_yes Yes = true
is_yes t = false

abbrev pub is_no : Truth → Bool
is_no No = true
is_no t = false

-- whether an expression is true, and neither false nor unknown
abbrev pub holds : Visible → Expr → Result Bool Cause
holds s e = and_then (truth_of s e) (λ t. Ok (is_yes t))

-- a filter that is not there is true
abbrev pub passes : Visible → Option Expr → Result Bool Cause
passes s filter = option_map_or (holds s) filter (Ok true)

-- the values of expressions, from left to right
abbrev pub values_of : Visible → List Expr → Result (List Value) Cause
values_of s [] = Ok []
values_of s (e ∷ es) = and_then (value_of s e) (λ v. and_then (values_of s es) (λ vs. Ok (v ∷ vs)))
