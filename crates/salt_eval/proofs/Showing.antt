-- What a SELECT gathers is what it shows.
use Rattle.salt_ast.specs.declared.trees.TableDef.{TableDef}
use Rattle.salt_eval.specs.Cells.{AreNumbersOf, cell_at, cells_at}
use Rattle.salt_eval.specs.Shown.{best_with, better_of, is_better}
use Rattle.salt_eval.specs.declared.shown.ColumnBest.{ColumnBest}
use Rattle.salt_eval.specs.declared.shown.ColumnRows.{ColumnRows}
use Rattle.salt_eval.specs.declared.shown.ColumnSum.{ColumnSum}
use Rattle.salt_eval.specs.declared.shown.RowCount.{RowCount}
use Rattle.salt_eval.specs.declared.shown.WholeRows.{WholeRows}
use Rattle.salt_exprs.specs.Names.{IsNumberOf}
use Rattle.salt_model.specs.Statements.{column_of, least, most_value, total, values_in}
use Rattle.salt_values.specs.Value.{int_in, is_null, is_value_below, value_cmp, value_total}
use Rattle.salt_values.specs.declared.value.Value.TheVariants.{Int, Null, Text}
use Rattle.salt_values.specs.declared.value.Value.{Value}
use Rattle.std.proofs.Common.{append-nil, append_assoc, ap, arith, sym, ◌∙◌}
use Rattle.std.proofs.lemmas.Int.{ints}
use Rattle.std.proofs.lemmas.Cmp.{upto}
use Rattle.std.specs.Ordering.{is_gt, is_lt, ordering_reverse}
use Rattle.std.specs.Prelude.{Bool, List, None, Option, Some, [], cond, false, fold, length, map, not, pos, refl, suc, true, unwrap_or, ℕ, ℤ, ◌++◌, ◌+ℤ◌, ◌∷◌, ◌≡◌}
use Rattle.std.specs.declared.cmp.Ordering.TheVariants.{Equal, Greater, Less}
use Rattle.std.specs.declared.cmp.Ordering.{Ordering}

pub rows-shown : (rows found : List (List Value)) → fold (λ (s : WholeRows) (row : List Value). record { rows = s.rows ++ row ∷ [] }) (record { rows = rows }) found ≡ record { rows = rows ++ found }
rows-shown rows [] = λ i. record { rows = sym (append-nil rows) i }
rows-shown rows (row ∷ found) = rows-shown (rows ++ row ∷ []) found ∙ λ i. record { rows = append_assoc rows (row ∷ []) found i }

pub columns-shown : (def : TableDef) (names : List (List ℕ)) (numbers : List (Option ℕ)) → AreNumbersOf def.columns names numbers → (rows found : List (List Value))
    → fold (λ (s : ColumnRows) (row : List Value). record { numbers = s.numbers; rows = s.rows ++ cells_at row s.numbers ∷ [] }) (record { numbers = numbers; rows = rows }) found
    ≡ record { numbers = numbers; rows = rows ++ map (λ row. map (λ c. column_of def c row) names) found }
columns-shown def names numbers are rows [] = λ i. record { numbers = numbers; rows = sym (append-nil rows) i }
columns-shown def names numbers are rows (row ∷ found) =
    columns-shown def names numbers are (rows ++ cells_at row numbers ∷ []) found
    ∙ λ i. record { numbers = numbers; rows = (ap (λ r. (rows ++ r ∷ []) ++ map (λ row. map (λ c. column_of def c row) names) found) (are row) ∙ append_assoc rows (map (λ c. column_of def c row) names ∷ []) (map (λ row. map (λ c. column_of def c row) names) found)) i }

plus-assoc : (a b c : ℤ) → (a +ℤ b) +ℤ c ≡ a +ℤ (b +ℤ c)
plus-assoc a b c = omega (arith, ints)

plus-zero : (a : ℤ) → a ≡ a +ℤ pos 0
plus-zero a = omega (arith, ints)

one-more : (n : ℕ) → pos 1 +ℤ pos n ≡ pos (suc n)
one-more n = omega (arith, ints)

pub count-shown : (count : ℤ) (found : List (List Value)) → fold (λ (s : RowCount) (row : List Value). record { count = s.count +ℤ pos 1 }) (record { count = count }) found ≡ record { count = count +ℤ pos (length found) }
count-shown count [] = λ i. record { count = plus-zero count i }
count-shown count (row ∷ found) = count-shown (count +ℤ pos 1) found ∙ λ i. record { count = (plus-assoc count (pos 1) (pos (length found)) ∙ ap (λ z. count +ℤ z) (one-more (length found))) i }

pub cell-named : (def : TableDef) (c : List ℕ) (number : Option ℕ) → IsNumberOf def.columns c number → (row : List Value) → cell_at row number ≡ column_of def c row
cell-named def c number is row = ap (λ o. unwrap_or o (Int (pos 0))) (sym (is row))

total-more : (v : Value) (vs : List Value) → total (cond (not (is_null v)) (v ∷ vs) vs) ≡ int_in v +ℤ total vs
total-more (Int z) vs = refl
total-more (Text t) vs = refl
total-more Null vs = omega (arith, ints)

pub sum-shown : (def : TableDef) (c : List ℕ) (number : Option ℕ) → IsNumberOf def.columns c number → (sum : ℤ) (found : List (List Value))
    → fold (λ (s : ColumnSum) (row : List Value). record { number = s.number; sum = s.sum +ℤ int_in (cell_at row s.number) }) (record { number = number; sum = sum }) found ≡ record { number = number; sum = sum +ℤ total (values_in def c found) }
sum-shown def c number is sum [] = λ i. record { number = number; sum = plus-zero sum i }
sum-shown def c number is sum (row ∷ found) =
    sum-shown def c number is (sum +ℤ int_in (cell_at row number)) found
    ∙ λ i. record {
      number = number;
      sum = (ap (λ v. (sum +ℤ int_in v) +ℤ total (values_in def c found)) (cell-named def c number is row)
          ∙ plus-assoc sum (int_in (column_of def c row)) (total (values_in def c found))
          ∙ ap (λ z. sum +ℤ z) (sym (total-more (column_of def c row) (values_in def c found)))) i;
    }

lt_flipped : (v w : Value) → is_lt (value_cmp v w) ≡ is_gt (value_cmp w v)
lt_flipped v w = ap is_lt (value_total.antisymm v w) ∙ by (value_cmp w v)
  where
    by : (o : Ordering) → is_lt (ordering_reverse o) ≡ is_gt o
    by Less = refl
    by Equal = refl
    by Greater = refl

less : (o : Ordering) → is_lt o ≡ true → o ≡ Less
less Less h = refl
less Equal h = absurd cc
less Greater h = absurd cc

below-trans : (u v w : Value) → is_value_below u v ≡ true → is_value_below v w ≡ true → is_value_below u w ≡ true
below-trans u v w a b = ap is_lt (value_total.trans u v w (less _ a) (less _ b))

not_below-trans : (u v w : Value) → is_value_below u v ≡ false → is_value_below v w ≡ false → is_value_below u w ≡ false
not_below-trans u v w a b = lt_flipped u w ∙ upto value_total w v u (sym (lt_flipped v w) ∙ b) (sym (lt_flipped u v) ∙ a)

better-trans : (m : Bool) (u v w : Value) → is_better m u v ≡ true → is_better m v w ≡ true → is_better m u w ≡ true
better-trans true u v w a b = below-trans w v u b a
better-trans false u v w a b = below-trans u v w a b

not_better-trans : (m : Bool) (u v w : Value) → is_better m u v ≡ false → is_better m v w ≡ false → is_better m u w ≡ false
not_better-trans true u v w a b = not_below-trans w v u b a
not_better-trans false u v w a b = not_below-trans u v w a b

-- the one that is there, or the value where none is better
pick : Bool → Option Value → Value → Value
pick m None w = w
pick m (Some v) w = cond (is_better m v w) v w

pick-pick : (m : Bool) (o : Option Value) (v w : Value) → pick m o (pick m (Some v) w) ≡ pick m (Some (pick m o v)) w
unfolding pick
pick-pick m None v w = refl
pick-pick m (Some u) v w = by (is_better m v w) (is_better m u v) refl refl
  where
    by : (b c : Bool) → is_better m v w ≡ b → is_better m u v ≡ c → cond (is_better m u (cond b v w)) u (cond b v w) ≡ cond (is_better m (cond c u v) w) (cond c u v) w
    by true true b c = rw (c, better-trans m u v w c b) refl
    by true false b c = rw (c, b) refl
    by false true b c = refl
    by false false b c = rw (b, not_better-trans m u v w c b) refl

module _ (m : Bool) (best : List Value → Option Value) (none : best [] ≡ None) (more : (v : Value) (vs : List Value) → best (v ∷ vs) ≡ Some (pick m (best vs) v)) where
  folded-from : (w : Value) (vs : List Value) → fold (better_of m) (Some w) vs ≡ Some (pick m (best vs) w)
  unfolding pick
  folded-from w [] = ap (λ o. Some (pick m o w)) (sym none)
  folded-from w (v ∷ vs) = folded-from (cond (is_better m v w) v w) vs ∙ ap Some (pick-pick m (best vs) v w ∙ ap (λ o. pick m o w) (sym (more v vs)))

  folded : (vs : List Value) → fold (better_of m) None vs ≡ best vs
  folded [] = sym none
  folded (v ∷ vs) = folded-from v vs ∙ sym (more v vs)

least-more : (v : Value) (vs : List Value) → least (v ∷ vs) ≡ Some (pick false (least vs) v)
unfolding pick
least-more v vs = by (least vs)
  where
    by : (o : Option Value) → elim o [ None ↦ Some v | Some w ↦ Some (cond (is_value_below w v) w v) ] ≡ Some (pick false o v)
    by None = refl
    by (Some w) = refl

most-more : (v : Value) (vs : List Value) → most_value (v ∷ vs) ≡ Some (pick true (most_value vs) v)
unfolding pick
most-more v vs = by (most_value vs)
  where
    by : (o : Option Value) → elim o [ None ↦ Some v | Some w ↦ Some (cond (is_value_below v w) w v) ] ≡ Some (pick true o v)
    by None = refl
    by (Some w) = refl

abbrev pub best_in : Bool → List Value → Option Value
best_in true vs = most_value vs
best_in false vs = least vs

best-folded : (m : Bool) (vs : List Value) → fold (better_of m) None vs ≡ best_in m vs
best-folded true vs = folded true most_value refl most-more vs
best-folded false vs = folded false least refl least-more vs

best-shown-from : (def : TableDef) (c : List ℕ) (number : Option ℕ) → IsNumberOf def.columns c number → (m : Bool) (o : Option Value) (found : List (List Value))
    → fold (λ (s : ColumnBest) (row : List Value). record { number = s.number; is_greatest = s.is_greatest; best = best_with s.is_greatest s.best (cell_at row s.number) }) (record { number = number; is_greatest = m; best = o }) found
    ≡ record { number = number; is_greatest = m; best = fold (better_of m) o (values_in def c found) }
best-shown-from def c number is m o [] = refl
best-shown-from def c number is m o (row ∷ found) =
    best-shown-from def c number is m (best_with m o (cell_at row number)) found
    ∙ λ i. record { number = number; is_greatest = m; best = (ap (λ v. fold (better_of m) (best_with m o v) (values_in def c found)) (cell-named def c number is row) ∙ by (is_null (column_of def c row))) i }
  where
    v : Value
    v = column_of def c row

    by : (b : Bool) → fold (better_of m) (cond b o (better_of m o v)) (values_in def c found) ≡ fold (better_of m) o (cond (not b) (v ∷ values_in def c found) (values_in def c found))
    by true = refl
    by false = refl

pub best-shown : (def : TableDef) (c : List ℕ) (number : Option ℕ) → IsNumberOf def.columns c number → (m : Bool) (found : List (List Value))
    → fold (λ (s : ColumnBest) (row : List Value). record { number = s.number; is_greatest = s.is_greatest; best = best_with s.is_greatest s.best (cell_at row s.number) }) (record { number = number; is_greatest = m; best = None }) found
    ≡ record { number = number; is_greatest = m; best = best_in m (values_in def c found) }
best-shown def c number is m found = best-shown-from def c number is m None found ∙ λ i. record { number = number; is_greatest = m; best = best-folded m (values_in def c found) i }
