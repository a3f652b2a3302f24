-- Rows of a range, gathered one after another.
use Rattle.salt_exprs.specs.declared.error.EvalErr.TheVariants as eval
use Rattle.salt_exprs.specs.declared.error.EvalErr.{EvalErr}
use Rattle.salt_eval.specs.declared.error.StatementErr.TheVariants.{Cause, View}
use Rattle.salt_eval.specs.declared.error.StatementErr.{StatementErr}
use Rattle.salt_eval.specs.declared.view.ViewErr.TheVariants.{Fault, Memory}
use Rattle.salt_exprs.specs.Operands as exprs
use Rattle.salt_io.specs.Streams.{Rose}
use Rattle.salt_model.specs.Tables.{Tables, row_at}
use Rattle.salt_model.specs.Words.{and_then}
use Rattle.salt_model.specs.declared.events.Cause as cause
use Rattle.salt_model.specs.declared.places.Place.{Place}
use Rattle.salt_ranges.specs.declared.range.KeyRange.{KeyRange}
use Rattle.salt_values.specs.Value.{is_same_value, key_of}
use Rattle.salt_values.specs.declared.value.Value.{Value}
use Rattle.std.specs.Prelude.{Err, IfSome, List, None, Ok, Option, Result, Some, [], if◌then◌else◌, ℕ, ⊤, ◌∷◌, ◌≡◌}

abbrev pub statement_err : EvalErr → StatementErr
statement_err (eval.Cause c) = Cause c
statement_err eval.Memory = View Memory

-- an answer tells what is meant, or its cause; want of memory tells nothing
abbrev pub TellsMeant : {A : Type 0} → Result A cause.Cause → Result A EvalErr → Type 0
TellsMeant meant result = exprs.TellsMeaning exprs.same meant result

-- what takes a row is then what is meant, or its cause is the one that is meant; want of memory tells nothing
abbrev pub TakesRow : {S A : Type 0} → Result S cause.Cause → S → Result A EvalErr → Type 0
TakesRow meant left (Ok x) = meant ≡ Ok left
TakesRow meant left (Err (eval.Cause c)) = meant ≡ Err c
TakesRow meant left (Err eval.Memory) = ⊤

-- the same of what looks at a view; a fault tells nothing either
abbrev pub LeavesMeant : {S A : Type 0} → Result S cause.Cause → S → Result A StatementErr → Type 0
LeavesMeant meant left (Ok x) = meant ≡ Ok left
LeavesMeant meant left (Err (Cause c)) = meant ≡ Err c
LeavesMeant meant left (Err (View e)) = ⊤

-- an answer gives what is meant, or its cause; a fault and want of memory tell nothing
abbrev pub GivesMeant : {A : Type 0} → Result A cause.Cause → Result A StatementErr → Type 0
GivesMeant meant (Ok x) = meant ≡ Ok x
GivesMeant meant (Err (Cause c)) = meant ≡ Err c
GivesMeant meant (Err (View e)) = ⊤

-- a fault where the count rose, and nowhere else
abbrev pub CountsFaultsOf : {A : Type 0} → (before now : ℕ) → Result A StatementErr → Type 0
CountsFaultsOf before now (Ok x) = now ≡ before
CountsFaultsOf before now (Err (Cause c)) = now ≡ before
CountsFaultsOf before now (Err (View Fault)) = Rose before now
CountsFaultsOf before now (Err (View Memory)) = now ≡ before

-- what is made of rows, one after another; the first cause ends it
abbrev pub gathered : {S : Type 0} → (S → List Value → Result S cause.Cause) → S → List (List Value) → Result S cause.Cause
gathered take s [] = Ok s
gathered take s (row ∷ rows) = and_then (take s row) (λ next. gathered take next rows)

-- each row stands at the place of its key
abbrev pub IsKeyed : Tables → Type 0
IsKeyed es = (p : Place) → IfSome (row_at p es) (λ row. key_of row ≡ p.key)

abbrev pub row_list : Option (List Value) → List (List Value)
row_list None = []
row_list (Some row) = row ∷ []

-- the key of a range whose ends are equal
abbrev pub point_of : KeyRange → Option Value
point_of range = point_between range.lo range.hi
  where
    point_between : Option Value → Option Value → Option Value
    point_between (Some lo) (Some hi) = if is_same_value lo hi then Some lo else None
    point_between lo hi = None
