-- Expressions whose names are found: what they give of a row, and which expression they stand for.
use Rattle.salt_ast.specs.declared.trees.Expr.{Expr}
use Rattle.salt_ast.specs.declared.trees.Field.{Field}
use Rattle.salt_ast.specs.declared.trees.Op.{Op}
use Rattle.salt_exprs.specs.declared.resolved.Resolved.{Binary', Column, Given, IsNull', Not', Resolved, Unknown, end_of-Resolved, more_of-Resolved}
use Rattle.salt_model.specs.Eval.{Datum, Gives, Truth, Visible, eval, is_yes, known, mistyped, named_values, negated, null_tested, operate, passes, truth_in, value_in}
use Rattle.salt_model.specs.Words.{and_then}
use Rattle.salt_model.specs.declared.events.Cause.{Cause}
use Rattle.salt_model.specs.declared.vars.Binding.{Binding}
use Rattle.salt_values.specs.declared.value.Value.{Value}
use Rattle.std.specs.Prelude.{Bool, List, None, Ok, Option, Result, Some, slice_get, true, ◌≡◌}

abbrev pub negation : Resolved → Resolved
negation r = Not' tt (more_of-Resolved r end_of-Resolved)

abbrev pub null_test : Resolved → Bool → Resolved
null_test r is_negated = IsNull' tt (more_of-Resolved r end_of-Resolved) is_negated

abbrev pub operation : Op → Resolved → Resolved → Resolved
operation op a b = Binary' op tt (more_of-Resolved a end_of-Resolved) tt (more_of-Resolved b end_of-Resolved)

-- what it gives of a row
abbrev pub eval_resolved : List Value → Resolved → Result Datum Cause
eval_resolved row (Given v) = Ok (Gives v.now)
eval_resolved row (Column n) = known (slice_get row n)
eval_resolved row Unknown = mistyped
eval_resolved row (Not' _ (more_of-Resolved r end_of-Resolved)) = and_then (eval_resolved row r) negated
eval_resolved row (IsNull' _ (more_of-Resolved r end_of-Resolved) is_negated) = and_then (eval_resolved row r) (null_tested is_negated)
eval_resolved row (Binary' op _ (more_of-Resolved a end_of-Resolved) _ (more_of-Resolved b end_of-Resolved)) =
    operate op (eval_resolved row a) (eval_resolved row b)

-- the names that an expression sees in a row of these columns
abbrev pub visible : List Field → List Value → List Binding → Visible
visible columns row vars = record { columns = named_values columns row; vars = vars }

-- of each row it gives what the expression gives
abbrev pub Resolves : Resolved → List Field → List Binding → Expr → Type 0
Resolves r columns vars e = (row : List Value) → eval_resolved row r ≡ eval (visible columns row vars) e

abbrev pub resolved_value : List Value → Resolved → Result Value Cause
resolved_value row r = and_then (eval_resolved row r) value_in

abbrev pub resolved_truth : List Value → Resolved → Result Truth Cause
resolved_truth row r = and_then (eval_resolved row r) truth_in

abbrev pub resolved_holds : List Value → Resolved → Result Bool Cause
resolved_holds row r = and_then (resolved_truth row r) (λ t. Ok (is_yes t))

-- a filter that is not there is true
abbrev pub resolved_passes : List Value → Option Resolved → Result Bool Cause
resolved_passes row None = Ok true
resolved_passes row (Some r) = resolved_holds row r

-- of each row it is what the filter is
abbrev pub ResolvesFilter : Option Resolved → List Field → List Binding → Option Expr → Type 0
ResolvesFilter r columns vars filter = (row : List Value) → resolved_passes row r ≡ passes (visible columns row vars) filter
