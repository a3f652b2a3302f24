-- Rows that are spelled against the columns of a table, and which of them meet it.
use Rattle.salt_ast.specs.declared.trees.Field.{Field}
use Rattle.salt_ast.specs.declared.trees.TableDef.{TableDef}
use Rattle.salt_bytes.specs.Taking.{take_each}
use Rattle.salt_bytes.specs.Values.{take_row, take_value}
use Rattle.salt_eval.specs.Meets.{are_of_columns, is_of_column, meets_table}
use Rattle.salt_loaded.proofs.Fronts.{first_value, values_of}
use Rattle.salt_loaded.specs.Loaded.{IsOfTable, IsRowFront}
use Rattle.salt_loaded.specs.Meets.{all_meet}
use Rattle.salt_model.specs.Tables.{Entry, Tables}
use Rattle.salt_values.specs.declared.value.Value.{Value}
use Rattle.std.proofs.Common.{Bool, List, Some, [], ap, arith, drop, false, get_or, length, refl, subst, suc, sym, take, true, zero, ℕ, ◌+◌, ◌-◌, ◌≡◌, ◌≤◌, ◌∙◌, ◌∷◌}
use Rattle.std.proofs.lemmas.Bool.Decides.{Decides-eqb}
use Rattle.std.specs.List.{list_all}
use Rattle.std.specs.Prelude.{map, nat_eq, slice_get, ◌&&◌}

one : {A : Type 0} {x y : A} → Some x ≡ Some y → x ≡ y
one e = cc

-- COLUMNS

rest_is : (f : Field) (fs : List Field) → take (length (f ∷ fs) - 1) (drop 1 (f ∷ fs)) ≡ fs
rest_is f fs = let n : suc (length fs) - 1 ≡ length fs = omega arith in ap (λ (k : ℕ). take k fs) n ∙ whole fs
  where
    whole : (l : List Field) → take (length l) l ≡ l
    whole [] = refl
    whole (x ∷ l) = ap (λ (m : List Field). x ∷ m) (whole l)

-- what the first column says of the first value, and the other ones of what is spelled behind it, all say of all
pub of_first : (columns : List Field) (column : Field) (bytes behind : List ℕ) (fits answer : Bool) → 1 ≤ length columns → column ≡ get_or columns 0 column
    → ((value : Value) (rest : List ℕ) → take_value true bytes ≡ Some (value, rest) → Some behind ≡ Some rest)
    → ((value : Value) (rest : List ℕ) → take_value true bytes ≡ Some (value, rest) → fits ≡ is_of_column column value) → fits ≡ true
    → ((values : List Value) (rest : List ℕ) → take_each (take_value true) (length (take (length columns - 1) (drop 1 columns))) behind ≡ Some (values, rest) → answer ≡ are_of_columns (take (length columns - 1) (drop 1 columns)) values)
    → (values : List Value) (rest : List ℕ) → take_each (take_value true) (length columns) bytes ≡ Some (values, rest) → answer ≡ are_of_columns columns values
of_first [] column bytes behind fits answer more is leaves first fit others values rest taken = absurd (omega (arith, more))
of_first (f ∷ fs) column bytes behind fits answer more is leaves first fit others values rest taken =
    let a = first_value (length fs) bytes rest values taken in
    let left : behind ≡ a.1 = one (leaves a.0 a.1 a.3) in
    let here : is_of_column f a.0 ≡ true = ap (λ (c : Field). is_of_column c a.0) (sym is) ∙ sym (first a.0 a.1 a.3) ∙ fit in
    subst (λ (l : List Field). (vs : List Value) (r : List ℕ) → take_each (take_value true) (length l) behind ≡ Some (vs, r) → answer ≡ are_of_columns l vs) (rest_is f fs) others
    a.2 rest (ap (take_each (take_value true) (length fs)) left ∙ a.4)
    ∙ ap (λ b. b && are_of_columns fs a.2) (sym here) ∙ ap (are_of_columns (f ∷ fs)) (sym a.5)

-- there are as many values as columns
as_many : (columns : List Field) (row : List Value) → are_of_columns columns row ≡ true → length columns ≡ length row
as_many [] [] fit = refl
as_many [] (v ∷ vs) fit = cc
as_many (f ∷ fs) [] fit = cc
as_many (f ∷ fs) (v ∷ vs) fit = ap suc (as_many fs vs (second (is_of_column f v) fit))
  where
    second : (b : Bool) → (b && are_of_columns fs vs) ≡ true → are_of_columns fs vs ≡ true
    second true h = h
    second false h = cc

so_many : (n : ℕ) (bytes rest : List ℕ) (values : List Value) → take_each (take_value true) n bytes ≡ Some (values, rest) → length values ≡ n
so_many zero bytes rest values taken = ap (λ (p : List Value × List ℕ). length p.0) (sym (one taken))
so_many (suc n) bytes rest values taken =
    let a = first_value n bytes rest values taken in
    ap length a.5 ∙ ap suc (so_many n a.1 rest a.2 a.4)

-- no row of another number of values has these columns
pub other_count : (columns : List Field) (row : List ℕ) → 1 ≤ length row → (get_or row 0 0 ≡ length columns → ⊥) → (r : List Value) (rest : List ℕ) → take_row true row ≡ Some (r, rest)
    → nat_eq (get_or row 0 0) (length columns) ≡ are_of_columns columns r
other_count columns [] more other r rest taken = absurd (omega (arith, more))
other_count columns (count ∷ bytes) more other r rest taken = both (nat_eq count (length columns)) (are_of_columns columns r) refl refl
  where
    both : (a b : Bool) → nat_eq count (length columns) ≡ a → are_of_columns columns r ≡ b → a ≡ b
    both false false same fit = refl
    both true b same fit = absurd (other ((Decides-eqb count (length columns)).0 same))
    both false true same fit = absurd (other (sym (so_many count bytes rest r (values_of count bytes rest r taken).1) ∙ sym (as_many columns r fit)))

-- ROWS

abbrev meets : List TableDef → Entry → Bool
meets schema e = meets_table schema e.0.table e.1

-- the row of a number, before those behind it
meet_from : (schema : List TableDef) (es : List Entry) (i t : ℕ) (row : List Value) → IsOfTable (slice_get es i) t → slice_get (map (λ (e : Entry). e.1) es) i ≡ Some row
    → list_all (meets schema) (drop i es) ≡ (meets_table schema t row && list_all (meets schema) (drop (suc i) es))
meet_from schema [] i t row of_table is = cc
meet_from schema (e ∷ es) zero t row of_table is =
    ap (λ (r : List Value). meets_table schema e.0.table r && list_all (meets schema) es) (one is)
    ∙ ap (λ (n : ℕ). meets_table schema n row && list_all (meets schema) es) of_table
meet_from schema (e ∷ es) (suc i) t row of_table is = meet_from schema es i t row of_table is

module _ (schema : List TableDef) (es : Tables) (i t : ℕ) (bytes : List ℕ) (front : IsRowFront es i bytes) (of_table : (k : ℕ) → IsOfTable (slice_get es.list k) t) (answer : Bool)
    (judged : (row : List Value) (rest : List ℕ) → take_row true bytes ≡ Some (row, rest) → answer ≡ meets_table schema t row) (so_far : list_all (meets schema) (drop i es.list) ≡ all_meet schema es) where
  answered : list_all (meets schema) (drop i es.list) ≡ (answer && list_all (meets schema) (drop (suc i) es.list))
  answered = meet_from schema es.list i t front.0 (of_table i) front.2 ∙ ap (λ b. b && list_all (meets schema) (drop (suc i) es.list)) (sym (judged front.0 front.1 front.3))

  pub one_more : answer ≡ true → list_all (meets schema) (drop (i + 1) es.list) ≡ all_meet schema es
  one_more met =
      let next : i + 1 ≡ suc i = omega arith in
      ap (λ k. list_all (meets schema) (drop k es.list)) next ∙ sym (answered ∙ ap (λ b. b && list_all (meets schema) (drop (suc i) es.list)) met) ∙ so_far

  pub one_fails : answer ≡ false → false ≡ all_meet schema es
  one_fails fails = sym (answered ∙ ap (λ b. b && list_all (meets schema) (drop (suc i) es.list)) fails) ∙ so_far
