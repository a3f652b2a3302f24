-- Rows that are copied one after another, and rows that are compared so.
use Rattle.salt_eval.proofs.InOrder.{in_order, less_is, parted}
use Rattle.salt_model.specs.Tables.{Entry, place, place_cmp, place_total}
use Rattle.salt_model.specs.declared.places.Place.{Place}
use Rattle.salt_stands.proofs.Places.{equal_is, place_same}
use Rattle.salt_values.specs.Value.{value_cmp, value_total}
use Rattle.salt_values.specs.declared.value.Value.{Value}
use Rattle.std.proofs.Common.{List, Some, [], ap, drop, length, refl, subst, sym, take, true, ℕ, ◌++◌, ◌≡◌, ◌∙◌, ◌∷◌}
use Rattle.std.proofs.lemmas.Cmp.{tied_itself}
use Rattle.std.specs.BTreeMap.{insert_entry}
use Rattle.std.specs.Cmp.Lexicographic.{pointwise, pointwise_decides}
use Rattle.std.specs.FinMap.Entries.{below_all, is_sorted}
use Rattle.std.specs.List.Sorted.{IsStrictlySortedBy}
use Rattle.std.specs.Map.{keys_of}
use Rattle.std.specs.Ordering.{eq_by_cmp, is_eq, match_ordering, ordering_reverse}
use Rattle.std.specs.Prelude.{Bool, false, not, slice_get, suc, zero}
use Rattle.std.specs.declared.cmp.Ordering.TheVariants.{Greater, Less}
use lib.Dec.{T}

-- IN ORDER

below_in : (x : Place) (es : List Entry) (p : Place) (row : List Value) (rest : List Entry) → T (below_all place_cmp x (es ++ (p, row) ∷ rest)) → place_cmp x p ≡ Less
below_in x [] p row rest h = less_is _ (parted _ _ h).0
below_in x (e ∷ es) p row rest h = below_in x es p row rest (parted _ _ h).1

-- one that is behind all others is put last
pub put_last : (p : Place) (row : List Value) (es rest : List Entry) → T (is_sorted place_cmp (es ++ (p, row) ∷ rest)) → insert_entry place_cmp es p row ≡ es ++ (p, row) ∷ []
put_last p row [] rest h = refl
put_last p row (e ∷ es) rest h =
    let more = parted _ _ h in
    let above : place_cmp p e.0 ≡ Greater = place_total.antisymm p e.0 ∙ ap ordering_reverse (below_in e.0 es p row rest more.0) in
    ap (λ o. match_ordering o ((p, row) ∷ e ∷ es) ((e.0, row) ∷ es) (e ∷ insert_entry place_cmp es p row)) above ∙ ap (λ l. e ∷ l) (put_last p row es rest more.1)

module _ {E : Type 0} where
  split_at : (es : List E) (n : ℕ) (y : E) → slice_get es n ≡ Some y → es ≡ take n es ++ y ∷ drop (suc n) es
  split_at [] n y e = cc
  split_at (x ∷ xs) zero y e = let same : x ≡ y = cc e in ap (λ z. z ∷ xs) same
  split_at (x ∷ xs) (suc n) y e = ap (λ l. x ∷ l) (split_at xs n y e)

  take_next : (es : List E) (n : ℕ) (y : E) → slice_get es n ≡ Some y → take (suc n) es ≡ take n es ++ y ∷ []
  take_next [] n y e = cc
  take_next (x ∷ xs) zero y e = let same : x ≡ y = cc e in ap (λ z. z ∷ []) same
  take_next (x ∷ xs) (suc n) y e = ap (λ l. x ∷ l) (take_next xs n y e)

-- A COPY with one more
pub copied_next : (es made : List Entry) (n : ℕ) (p : Place) (row : List Value) → IsStrictlySortedBy place_cmp (keys_of es) → slice_get es n ≡ Some (p, row) → made ≡ take n es → insert_entry place_cmp made p row ≡ take (suc n) es
copied_next es made n p row ordered at so_far =
    ap (λ l. insert_entry place_cmp l p row) so_far
    ∙ put_last p row (take n es) (drop (suc n) es) (subst (λ (l : List Entry). T (is_sorted place_cmp l)) (split_at es n (p, row) at) (in_order place_cmp es ordered))
    ∙ sym (take_next es n (p, row) at)

-- ROWS with the same values

value_decides : (v w : Value) → (eq_by_cmp value_cmp v w ≡ true → v ≡ w) × (v ≡ w → eq_by_cmp value_cmp v w ≡ true)
value_decides v w = (
  λ e. ap (λ (p : Place). p.key) (place_same (place 0 v) (place 0 w) (equal_is (value_cmp v w) e)),
  λ e. ap (λ u. is_eq (value_cmp v u)) (sym e) ∙ ap is_eq (tied_itself value_total v),
)

pub row_decides : (a b : List Value) → (pointwise (eq_by_cmp value_cmp) a b ≡ true → a ≡ b) × (a ≡ b → pointwise (eq_by_cmp value_cmp) a b ≡ true)
row_decides = pointwise_decides value_decides

pub place_decides : (p q : Place) → (eq_by_cmp place_cmp p q ≡ true → p ≡ q) × (p ≡ q → eq_by_cmp place_cmp p q ≡ true)
place_decides p q = (
  λ e. place_same p q (equal_is (place_cmp p q) e),
  λ e. ap (λ u. is_eq (place_cmp p u)) (sym e) ∙ ap is_eq (tied_itself place_total p),
)

pub not_false : (b : Bool) → not b ≡ false → b ≡ true
not_false true e = refl
not_false false e = cc

-- THE OTHERS are the first n of these, and what is left
module _ {E : Type 0} where
  -- nothing is left, and there is one more
  pub no_more : (es : List E) (n : ℕ) (y : E) → slice_get es n ≡ Some y → es ≡ take n es ++ [] → ⊥
  no_more [] n y e same = cc
  no_more (x ∷ xs) zero y e same = cc
  no_more (x ∷ xs) (suc n) y e same = no_more xs n y e (cc same)

  pub next_same : (es : List E) (n : ℕ) (x y : E) (left : List E) → slice_get es n ≡ Some y → es ≡ take n es ++ x ∷ left → x ≡ y
  next_same [] n x y left e same = cc
  next_same (z ∷ zs) zero x y left e same = cc
  next_same (z ∷ zs) (suc n) x y left e same = next_same zs n x y left e (cc same)

  none_left : (es left : List E) → es ≡ es ++ left → left ≡ []
  none_left [] left e = sym e
  none_left (x ∷ xs) left e = none_left xs left (cc e)

  all_taken : (es : List E) → take (length es) es ≡ es
  all_taken [] = refl
  all_taken (x ∷ xs) = ap (λ l. x ∷ l) (all_taken xs)

  pub left_next : (es others : List E) (n : ℕ) (x y : E) (left now : List E) → slice_get es n ≡ Some y → others ≡ take n es ++ left → left ≡ x ∷ now → x ≡ y → others ≡ take (suc n) es ++ now
  left_next es others n x y left now at so_far is same =
      so_far ∙ ap (λ l. take n es ++ l) (is ∙ ap (λ z. z ∷ now) same) ∙ sym (append_assoc' (take n es) y now) ∙ ap (λ l. l ++ now) (sym (take_next es n y at))
    where
      append_assoc' : (xs : List E) (z : E) (ys : List E) → (xs ++ z ∷ []) ++ ys ≡ xs ++ z ∷ ys
      append_assoc' [] z ys = refl
      append_assoc' (w ∷ ws) z ys = ap (λ l. w ∷ l) (append_assoc' ws z ys)

  -- at the end they are the same where nothing is left
  pub all_same : (es others : List E) (n : ℕ) (left : List E) → n ≡ length es → others ≡ take n es ++ left → (left ≡ [] → es ≡ others) × (es ≡ others → left ≡ [])
  all_same es others n left all so_far = (
    λ none. sym (whole ∙ ap (λ l. es ++ l) none ∙ append_nil es),
    λ same. none_left es left (same ∙ whole),
  )
    where
      whole : others ≡ es ++ left
      whole = so_far ∙ ap (λ m. take m es ++ left) all ∙ ap (λ l. l ++ left) (all_taken es)

      append_nil : (xs : List E) → xs ++ [] ≡ xs
      append_nil [] = refl
      append_nil (w ∷ ws) = ap (λ l. w ∷ l) (append_nil ws)
