-- What is gathered of a range by a filter is what a SELECT shows.
use Rattle.salt_ast.specs.declared.trees.Expr.{Expr}
use Rattle.salt_ast.specs.declared.trees.TableDef.{TableDef}
use Rattle.salt_ast.specs.declared.trees.What.TheVariants.{All, Columns, Count, Sum}
use Rattle.salt_ast.specs.declared.trees.What.{What}
use Rattle.salt_eval.proofs.Collected.{gathered-collected, rows-at_keys}
use Rattle.salt_eval.proofs.Showing.{best-shown, best_in, columns-shown, count-shown, rows-shown, sum-shown}
use Rattle.salt_eval.specs.Cells.{AreNumbersOf, cell_at, cells_at}
use Rattle.salt_eval.specs.Filtered.{filtered}
use Rattle.salt_eval.specs.Scans.{GivesMeant, IsKeyed, LeavesMeant, gathered}
use Rattle.salt_eval.specs.Selects.{Filters, best_what, shown_of, sum_cell}
use Rattle.salt_eval.specs.Shown.{best_with}
use Rattle.salt_eval.specs.Views.{range_rows, rows_after}
use Rattle.salt_eval.specs.declared.error.StatementErr.TheVariants.{Cause as Failing, View}
use Rattle.salt_eval.specs.declared.error.StatementErr.{StatementErr}
use Rattle.salt_eval.specs.declared.shown.ColumnBest.{ColumnBest}
use Rattle.salt_eval.specs.declared.shown.ColumnRows.{ColumnRows}
use Rattle.salt_eval.specs.declared.shown.ColumnSum.{ColumnSum}
use Rattle.salt_eval.specs.declared.shown.RowCount.{RowCount}
use Rattle.salt_eval.specs.declared.shown.WholeRows.{WholeRows}
use Rattle.salt_exprs.specs.Names.{IsNumberOf}
use Rattle.salt_model.specs.Statements.{collect, column_of, on_match, seen, shown, total, values_in}
use Rattle.salt_model.specs.Tables.{Tables}
use Rattle.salt_model.specs.Words.{and_then}
use Rattle.salt_model.specs.declared.events.Answer.TheVariants.{Cell, Rows}
use Rattle.salt_model.specs.declared.events.Answer.{Answer}
use Rattle.salt_model.specs.declared.events.Cause.{Cause}
use Rattle.salt_model.specs.declared.vars.Binding.{Binding}
use Rattle.salt_ranges.specs.declared.range.KeyRange.{KeyRange}
use Rattle.salt_values.specs.Value.{int_in}
use Rattle.salt_values.specs.declared.value.Value.TheVariants.{Int}
use Rattle.salt_values.specs.declared.value.Value.{Value}
use Rattle.std.proofs.Common.{ap, arith, subst, sym, ◌∙◌}
use Rattle.std.proofs.lemmas.Int.{ints}
use Rattle.std.specs.Prelude.{Bool, Err, List, None, Ok, Option, Result, Some, [], false, fold, length, map, pos, refl, true, ℕ, ℤ, ⊤, ◌++◌, ◌+ℤ◌, ◌∷◌, ◌≡◌}

-- what is shown, or done, is what is gathered, finished
pub record ShownBy {S A : Type 0} (meant : Result A Cause) (got : Result S Cause) (finish : S → Result A Cause) : Type 0 where
  pub is : meant ≡ and_then got finish

pub when_ok : {S A : Type 0} {meant : Result A Cause} {got : Result S Cause} {finish : S → Result A Cause} → ShownBy meant got finish → (left : S) → got ≡ Ok left → meant ≡ finish left
when_ok {finish = finish} by left h = by.is ∙ ap (λ r. and_then r finish) h

failed : {S A : Type 0} (meant : Result A Cause) (got : Result S Cause) (finish : S → Result A Cause) (left : S) (e : StatementErr) → meant ≡ and_then got finish → LeavesMeant {A = Unit {0}} got left (Err e) → GivesMeant {A = A} meant (Err e)
failed meant got finish left (Failing c) is h = is ∙ ap (λ r. and_then r finish) h
failed meant got finish left (View v) is h = tt

pub when_err : {S A : Type 0} {meant : Result A Cause} {got : Result S Cause} {finish : S → Result A Cause} → ShownBy meant got finish → (left : S) (e d : StatementErr) (r : Result A StatementErr) → LeavesMeant {A = Unit {0}} got left (Err e) → r ≡ Err d → d ≡ e → GivesMeant meant r
when_err {A = A} {meant = meant} {got = got} {finish = finish} by left e d r h is same = subst (λ (x : Result A StatementErr). GivesMeant meant x) (sym (is ∙ ap Err same)) (failed meant got finish left e by.is h)

pub when_fails : {A : Type 0} {meant : Result A Cause} → (c : Cause) → meant ≡ Err c → (d : StatementErr) (r : Result A StatementErr) → r ≡ Err d → d ≡ Failing c → GivesMeant meant r
when_fails {A = A} {meant = meant} c h d r is same = subst (λ (x : Result A StatementErr). GivesMeant meant x) (sym (is ∙ ap Err same)) h

-- what is asked for first fails, and so does what is done with it
pub then-fails : {A B : Type 0} (meant : Result B Cause) (first : Result A Cause) (f : A → Result B Cause) (e d : StatementErr) (r : Result B StatementErr) → meant ≡ and_then first f → GivesMeant {A = A} first (Err e) → r ≡ Err d → d ≡ e → GivesMeant meant r
then-fails {B = B} meant first f (Failing c) d r is h got same = subst (λ (x : Result B StatementErr). GivesMeant meant x) (sym (got ∙ ap Err same)) (is ∙ ap (λ x. and_then x f) h)
then-fails {B = B} meant first f (View v) d r is h got same = subst (λ (x : Result B StatementErr). GivesMeant meant x) (sym (got ∙ ap Err same)) tt

zero-plus : (a : ℤ) → a ≡ pos 0 +ℤ a
zero-plus a = omega (arith, ints)

pub then-then : {A B C E : Type 0} (r : Result A E) (f : A → B) (g : B → Result C E) → and_then (and_then r (λ x. Ok (f x))) g ≡ and_then r (λ x. g (f x))
then-then (Ok x) f g = refl
then-then (Err c) f g = refl

then-alike : {A B E : Type 0} (r : Result A E) (f g : A → Result B E) → ((x : A) → f x ≡ g x) → and_then r f ≡ and_then r g
then-alike (Ok x) f g h = h x
then-alike (Err c) f g h = refl

module _ (t : ℕ) (range : KeyRange) (def : TableDef) (vars : List Binding) (by : Option Expr) (passes : List Value → Result Bool Cause) (es : Tables) (keys : IsKeyed es) (fits : Filters passes def vars by) where
  module _ {S : Type 0} (what : What) (add : S → List Value → S) (first : S) (finish : S → Result Answer Cause) (shows : (found : List (List Value)) → shown def what found ≡ finish (fold add first found)) where
    shown-gathered : shown_of t range def vars by what es ≡ and_then (gathered (filtered passes (λ s row. Ok (add s row))) first (range_rows t range es)) finish
    shown-gathered =
        then-alike (collect (on_match def vars by seen) (rows_after t range None es)) (shown def what) (λ found. finish (fold add first found)) shows
        ∙ sym (then-then (collect (on_match def vars by seen) (rows_after t range None es)) (λ found. fold add first found) finish)
        ∙ ap (λ r. and_then r finish)
        (sym (gathered-collected t def vars by seen passes (λ s row. Ok (add s row)) add (λ s. ⊤) (λ s b h. tt) fits (λ s e h at. refl) first (rows_after t range None es) tt (rows-at_keys t range es keys)))

  pub whole-gathered : (rows : List (List Value)) → rows ≡ [] → ShownBy (shown_of t range def vars by All es) (gathered (filtered passes (λ (s : WholeRows) row. Ok (record { rows = s.rows ++ row ∷ [] }))) (record { rows = rows }) (range_rows t range es)) (λ s. Ok (Rows s.rows))
  whole-gathered rows none = record { is = shown-gathered {S = WholeRows} All (λ s row. record { rows = s.rows ++ row ∷ [] }) (record { rows = rows }) (λ s. Ok (Rows s.rows)) (λ found. ap (λ (before : List (List Value)). Ok (Rows (before ++ found))) (sym none) ∙ ap (λ (s : WholeRows). Ok (Rows s.rows)) (sym (rows-shown rows found))) }

  pub columns-gathered : (names : List (List ℕ)) (numbers : List (Option ℕ)) → AreNumbersOf def.columns names numbers → (rows : List (List Value)) → rows ≡ []
      → ShownBy (shown_of t range def vars by (Columns names) es) (gathered (filtered passes (λ (s : ColumnRows) row. Ok (record { numbers = s.numbers; rows = s.rows ++ cells_at row s.numbers ∷ [] }))) (record { numbers = numbers; rows = rows }) (range_rows t range es)) (λ s. Ok (Rows s.rows))
  columns-gathered names numbers are rows none = record {
    is =
        shown-gathered {S = ColumnRows} (Columns names) (λ s row. record { numbers = s.numbers; rows = s.rows ++ cells_at row s.numbers ∷ [] }) (record { numbers = numbers; rows = rows }) (λ s. Ok (Rows s.rows))
        (λ found. ap (λ (before : List (List Value)). Ok (Rows (before ++ map (λ row. map (λ c. column_of def c row) names) found))) (sym none) ∙ ap (λ (s : ColumnRows). Ok (Rows s.rows)) (sym (columns-shown def names numbers are rows found)));
  }

  pub count-gathered : ShownBy (shown_of t range def vars by Count es) (gathered (filtered passes (λ (s : RowCount) row. Ok (record { count = s.count +ℤ pos 1 }))) (record { count = pos 0 }) (range_rows t range es)) (λ s. Ok (Cell (Some (Int s.count))))
  count-gathered = record {
    is =
        shown-gathered {S = RowCount} Count (λ s row. record { count = s.count +ℤ pos 1 }) (record { count = pos 0 }) (λ s. Ok (Cell (Some (Int s.count))))
        (λ found. ap (λ z. Ok (Cell (Some (Int z)))) (zero-plus (pos (length found))) ∙ ap (λ (s : RowCount). Ok (Cell (Some (Int s.count)))) (sym (count-shown (pos 0) found)));
  }

  pub sum-gathered : (c : List ℕ) (number : Option ℕ) → IsNumberOf def.columns c number
      → ShownBy (shown_of t range def vars by (Sum c) es) (gathered (filtered passes (λ (s : ColumnSum) row. Ok (record { number = s.number; sum = s.sum +ℤ int_in (cell_at row s.number) }))) (record { number = number; sum = pos 0 }) (range_rows t range es)) (λ s. sum_cell s.sum)
  sum-gathered c number is = record {
    is =
        shown-gathered {S = ColumnSum} (Sum c) (λ s row. record { number = s.number; sum = s.sum +ℤ int_in (cell_at row s.number) }) (record { number = number; sum = pos 0 }) (λ s. sum_cell s.sum)
        (λ found. ap sum_cell (zero-plus (total (values_in def c found))) ∙ ap (λ (s : ColumnSum). sum_cell s.sum) (sym (sum-shown def c number is (pos 0) found)));
  }

  pub best-gathered : (m : Bool) (c : List ℕ) (number : Option ℕ) → IsNumberOf def.columns c number
      → ShownBy (shown_of t range def vars by (best_what m c) es) (gathered (filtered passes (λ (s : ColumnBest) row. Ok (record { number = s.number; is_greatest = s.is_greatest; best = best_with s.is_greatest s.best (cell_at row s.number) }))) (record { number = number; is_greatest = m; best = None }) (range_rows t range es)) (λ s. Ok (Cell s.best))
  best-gathered m c number is = record {
    is =
        shown-gathered {S = ColumnBest} (best_what m c) (λ s row. record { number = s.number; is_greatest = s.is_greatest; best = best_with s.is_greatest s.best (cell_at row s.number) }) (record { number = number; is_greatest = m; best = None }) (λ s. Ok (Cell s.best))
        (λ found. told m found ∙ ap (λ (s : ColumnBest). Ok (Cell s.best)) (sym (best-shown def c number is m found)));
  }
    where
      told : (m : Bool) (found : List (List Value)) → shown def (best_what m c) found ≡ Ok (Cell (best_in m (values_in def c found)))
      told true found = refl
      told false found = refl
