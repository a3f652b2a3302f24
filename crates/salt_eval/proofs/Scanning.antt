-- A view asked for one row after another shows the rows of a range.
use Rattle.salt_eval.proofs.InOrder.{less_is, parted}
use Rattle.salt_eval.proofs.Nexts.{and_true, both_true, same_table}
use Rattle.salt_eval.specs.Scans.{IsKeyed, gathered}
use Rattle.salt_eval.specs.Views.{is_behind, is_next, next_row, rows_after}
use Rattle.salt_model.specs.Tables.{Entry, Tables, place, place_cmp, place_total}
use Rattle.salt_model.specs.Words.{and_then, first_of_list}
use Rattle.salt_model.specs.declared.events.Cause.{Cause}
use Rattle.salt_model.specs.declared.places.Place.{Place}
use Rattle.salt_ranges.specs.Ranges.{has_key}
use Rattle.salt_ranges.specs.declared.range.KeyRange.{KeyRange}
use Rattle.salt_values.specs.Value.{value_cmp, value_total, key_of}
use Rattle.salt_values.specs.declared.value.Value.{Value}
use Rattle.std.proofs.Common.{ap, arith, subst, sym, ◌∙◌}
use Rattle.std.proofs.lemmas.Bool.{eqb-true}
use Rattle.std.proofs.lemmas.Cmp.{tied_itself}
use Rattle.std.specs.FinMap.Entries.{below_all, find, is_sorted, where_key}
use Rattle.std.specs.Ordering.{eq_by_cmp, is_eq, is_lt, ordering_reverse}
use Rattle.std.specs.Prelude.{Bool, Err, IfSome, List, None, Ok, Option, Result, Some, [], cond, false, length, option_map, refl, true, ℕ, ◌&&◌, ◌==◌, ◌<◌, ◌∷◌, ◌≡◌}
use Rattle.std.specs.declared.cmp.Ordering.TheVariants.{Equal, Greater, Less}
use Rattle.std.specs.declared.cmp.Ordering.{Ordering}
use lib.Dec.{T}

and_false : (b : Bool) → (b && false) ≡ false
and_false true = refl
and_false false = refl

-- entries in order, of which the first that passes a test is e
module _ (p : Place → Bool) where
  passing : List Entry → List Entry
  passing es = where_key place_cmp p es

  rises : (x : Place) (es : List Entry) → T (below_all place_cmp x es) → (e : Entry) (rest : List Entry) → where_key place_cmp p es ≡ e ∷ rest → place_cmp x e.0 ≡ Less
  rises x [] h e rest is = absurd cc
  rises x (f ∷ es) h e rest is = by (p f.0) (rises x es (parted _ _ h).1 e rest) is
    where
      by : (b : Bool) → (where_key place_cmp p es ≡ e ∷ rest → place_cmp x e.0 ≡ Less) → cond b (f ∷ where_key place_cmp p es) (where_key place_cmp p es) ≡ e ∷ rest → place_cmp x e.0 ≡ Less
      by true more is = let same : f ≡ e = cc in ap (λ (g : Entry). place_cmp x g.0) (sym same) ∙ less_is _ (parted _ _ h).0
      by false more is = more is

  -- it is found at its place
  pub first-found : (es : List Entry) → T (is_sorted place_cmp es) → (e : Entry) (rest : List Entry) → where_key place_cmp p es ≡ e ∷ rest → find place_cmp e.0 es ≡ Some e.1
  first-found [] h e rest is = absurd cc
  first-found (f ∷ es) h e rest is = by (p f.0) (first-found es (parted _ _ h).1 e rest) is
    where
      by : (b : Bool) → (where_key place_cmp p es ≡ e ∷ rest → find place_cmp e.0 es ≡ Some e.1) → cond b (f ∷ where_key place_cmp p es) (where_key place_cmp p es) ≡ e ∷ rest → cond (eq_by_cmp place_cmp e.0 f.0) (Some f.1) (find place_cmp e.0 es) ≡ Some e.1
      by true more is =
          let same : f ≡ e = cc in
          let tied : place_cmp e.0 f.0 ≡ Equal = ap (λ (g : Entry). place_cmp g.0 f.0) (sym same) ∙ tied_itself place_total f.0 in
          ap (λ o. cond (is_eq o) (Some f.1) (find place_cmp e.0 es)) tied ∙ ap (λ (g : Entry). Some g.1) same
      by false more is =
          let above : place_cmp e.0 f.0 ≡ Greater = place_total.antisymm e.0 f.0 ∙ ap ordering_reverse (rises f.0 es (parted _ _ h).0 e rest is) in
          ap (λ o. cond (is_eq o) (Some f.1) (find place_cmp e.0 es)) above ∙ more is

  -- it passes
  pub first-passes : (es : List Entry) (e : Entry) (rest : List Entry) → where_key place_cmp p es ≡ e ∷ rest → p e.0 ≡ true
  first-passes [] e rest is = absurd cc
  first-passes (f ∷ es) e rest is = by (p f.0) refl (first-passes es e rest) is
    where
      by : (b : Bool) → p f.0 ≡ b → (where_key place_cmp p es ≡ e ∷ rest → p e.0 ≡ true) → cond b (f ∷ where_key place_cmp p es) (where_key place_cmp p es) ≡ e ∷ rest → p e.0 ≡ true
      by true passes more is = let same : f ≡ e = cc in ap (λ (g : Entry). p g.0) (sym same) ∙ passes
      by false passes more is = more is

  module _ (q : Place → Bool) where
    alike : (x : Place) → ((y : Place) → q y ≡ (p y && is_lt (place_cmp x y))) → (es : List Entry) → T (below_all place_cmp x es) → where_key place_cmp q es ≡ where_key place_cmp p es
    alike x is [] h = refl
    alike x is (f ∷ es) h =
        let less : place_cmp x f.0 ≡ Less = less_is _ (parted _ _ h).0 in
        let here : q f.0 ≡ p f.0 = is f.0 ∙ ap (λ o. p f.0 && is_lt o) less ∙ and_true _ in
        ap (λ b. cond b (f ∷ where_key place_cmp q es) (where_key place_cmp q es)) here ∙ ap (λ more. cond (p f.0) (f ∷ more) more) (alike x is es (parted _ _ h).1)

    -- those that pass behind it are the rest
    pub passing-behind : (es : List Entry) → T (is_sorted place_cmp es) → (e : Entry) (rest : List Entry) → ((y : Place) → q y ≡ (p y && is_lt (place_cmp e.0 y))) → where_key place_cmp p es ≡ e ∷ rest → where_key place_cmp q es ≡ rest
    passing-behind [] h e rest narrower is = absurd cc
    passing-behind (f ∷ es) h e rest narrower is = by (p f.0) refl (passing-behind es (parted _ _ h).1 e rest narrower) is
      where
        by : (b : Bool) → p f.0 ≡ b → (where_key place_cmp p es ≡ e ∷ rest → where_key place_cmp q es ≡ rest) → cond b (f ∷ where_key place_cmp p es) (where_key place_cmp p es) ≡ e ∷ rest → cond (q f.0) (f ∷ where_key place_cmp q es) (where_key place_cmp q es) ≡ rest
        by true passes later is =
            let same : f ≡ e = cc in
            let more : where_key place_cmp p es ≡ rest = cc in
            let tied : place_cmp e.0 f.0 ≡ Equal = ap (λ (g : Entry). place_cmp g.0 f.0) (sym same) ∙ tied_itself place_total f.0 in
            let out : q f.0 ≡ false = narrower f.0 ∙ ap (λ o. p f.0 && is_lt o) tied ∙ and_false (p f.0) in
            let before : T (below_all place_cmp e.0 es) = subst (λ (g : Entry). T (below_all place_cmp g.0 es)) same (parted _ _ h).0 in
            ap (λ b. cond b (f ∷ where_key place_cmp q es) (where_key place_cmp q es)) out ∙ alike e.0 narrower es before ∙ more
        by false passes later is =
            let out : q f.0 ≡ false = narrower f.0 ∙ ap (λ b. b && is_lt (place_cmp e.0 f.0)) passes in
            ap (λ b. cond b (f ∷ where_key place_cmp q es) (where_key place_cmp q es)) out ∙ later is

-- behind a key that itself is behind another
pub behind : (after : Option Value) (k l : Value) → is_behind after k ≡ true → is_lt (value_cmp k l) ≡ true → is_behind after l ≡ true
behind None k l h less = refl
behind (Some after) k l h less = ap is_lt (value_total.trans after k l (is_less _ h) (is_less _ less))
  where
    is_less : (o : Ordering) → is_lt o ≡ true → o ≡ Less
    is_less Less h = refl
    is_less Equal h = absurd cc
    is_less Greater h = absurd cc

pub next-behind : (t : ℕ) (range : KeyRange) (after : Option Value) (k : Value) → is_behind after k ≡ true → (x : Place) → is_next t range (Some k) x ≡ (is_next t range after x && is_lt (place_cmp (place t k) x))
next-behind t range after k h x = by (t == x.table) refl (is_lt (value_cmp k x.key)) refl
  where
    by : (b : Bool) → (t == x.table) ≡ b → (c : Bool) → is_lt (value_cmp k x.key) ≡ c → ((b && has_key range x.key) && is_lt (value_cmp k x.key)) ≡ (((b && has_key range x.key) && is_behind after x.key) && is_lt (place_cmp (place t k) x))
    by false e c less = refl
    by true e true less = rw (same_table t k x e, less, behind after k x.key h less) (sym (and_true (has_key range x.key && true)))
    by true e false less = rw (same_table t k x e, less) (and_false (has_key range x.key) ∙ sym (and_false (has_key range x.key && is_behind after x.key)))

module _ (t : ℕ) (range : KeyRange) (after : Option Value) (es : Tables) where
  -- the next row, and those behind its key
  pub rows_after-next : (row : List Value) → Some row ≡ next_row t range after es → IsKeyed es → rows_after t range after es ≡ (place t (key_of row), row) ∷ rows_after t range (Some (key_of row)) es
  rows_after-next row is keyed = by (rows_after t range after es) refl is
    where
      by : (l : List Entry) → rows_after t range after es ≡ l → Some row ≡ option_map (λ (e : Entry). e.1) (first_of_list l) → l ≡ (place t (key_of row), row) ∷ rows_after t range (Some (key_of row)) es
      by [] all is = absurd cc
      by (e ∷ rest) all is =
          let same : row ≡ e.1 = cc in
          let found : find place_cmp e.0 es.list ≡ Some e.1 = first-found (is_next t range after) es.list es.sorted e rest all in
          let key : key_of e.1 ≡ e.0.key = subst (λ o. IfSome o (λ r. key_of r ≡ e.0.key)) found (keyed e.0) in
          let passes = first-passes (is_next t range after) es.list e rest all in
          let p = both_true ((t == e.0.table) && has_key range e.0.key) (is_behind after e.0.key) passes in
          let q = both_true (t == e.0.table) (has_key range e.0.key) p.0 in
          let table : t ≡ e.0.table = eqb-true t e.0.table q.0 in
          let at : e.0 ≡ place t (key_of row) = λ i. record { table = sym table i; key = (sym key ∙ ap key_of (sym same)) i } in
          let behind_it : is_behind after (key_of row) ≡ true = subst (λ (x : Place). is_behind after x.key ≡ true) at p.1 in
          let more : where_key place_cmp (is_next t range (Some (key_of row))) es.list ≡ rest =
          passing-behind (is_next t range after) (is_next t range (Some (key_of row))) es.list es.sorted e rest
          (λ y. subst (λ (x : Place). is_next t range (Some (key_of row)) y ≡ (is_next t range after y && is_lt (place_cmp x y))) (sym at) (next-behind t range after (key_of row) behind_it y)) all in
          λ i. (at i, sym same i) ∷ sym more i

  -- no row is next
  pub rows_after-none : None ≡ next_row t range after es → rows_after t range after es ≡ []
  rows_after-none is = by (rows_after t range after es) is
    where
      by : (l : List Entry) → None ≡ option_map (λ (e : Entry). e.1) (first_of_list l) → l ≡ []
      by [] is = refl
      by (e ∷ rest) is = absurd cc

-- with a row, what is gathered of the rows behind it is what is gathered of all
pub gathered-next : {S : Type 0} (take : S → List Value → Result S Cause) (s left : S) (row : List Value) (rows all : List (List Value)) → all ≡ row ∷ rows → take s row ≡ Ok left → gathered take left rows ≡ gathered take s all
gathered-next take s left row rows all is takes = sym (ap (gathered take s) is ∙ ap (λ r. and_then r (λ next. gathered take next rows)) takes)

-- a row that gives a cause ends it
pub gathered-cause : {S : Type 0} (take : S → List Value → Result S Cause) (s : S) (row : List Value) (rows all : List (List Value)) (c : Cause) → all ≡ row ∷ rows → take s row ≡ Err c → gathered take s all ≡ Err c
gathered-cause take s row rows all c is fails = ap (gathered take s) is ∙ ap (λ r. and_then r (λ next. gathered take next rows)) fails

pub fewer : (row : List Value) (rows all : List (List Value)) → all ≡ row ∷ rows → length rows < length all
fewer row rows all is = let e = ap (λ (l : List (List Value)). length l) is in omega arith
