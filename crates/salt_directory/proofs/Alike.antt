-- Rows that are found among others.
use Rattle.salt_bytes.specs.Page.{TableRow}
use Rattle.salt_checkpoint.proofs.Moved.{apart_gone, are_apart, are_away, found_put, place_of}
use Rattle.salt_checkpoint.specs.Rows.{found_row, is_row_at}
use Rattle.salt_model.specs.Tables.{place_cmp, place_total}
use Rattle.salt_model.specs.declared.places.Place.{Place}
use Rattle.salt_stands.proofs.Booleans.{join, left, right}
use Rattle.salt_stands.specs.Partition.{is_at_other}
use Rattle.salt_stands.specs.Tables.{change_of_row}
use Rattle.std.proofs.Common.{Bool, List, None, Some, [], ap, cond, false, is_some, not, refl, sym, true, ◌++◌, ◌≡◌, ◌∙◌, ◌∷◌}
use Rattle.std.proofs.lemmas.Cmp.{tied_itself}
use Rattle.std.specs.Cmp.{eq_by_cmp_equiv}
use Rattle.std.specs.Ordering.{is_eq}
use Rattle.salt_values.specs.declared.value.Value.{Value}

pub turned : (a b : Place) → is_eq (place_cmp a b) ≡ is_eq (place_cmp b a)
turned a b = (eq_by_cmp_equiv place_total).symm a b

pub own_place : (q : Place) → is_eq (place_cmp q q) ≡ true
own_place q = ap is_eq (tied_itself place_total q)

-- PARTS OF A LIST

pub away_front : (q : Place) (xs ys : List TableRow) → are_away q (xs ++ ys) ≡ true → are_away q xs ≡ true
away_front q [] ys h = refl
away_front q (x ∷ xs) ys h =
    join (is_at_other q (change_of_row x)) (are_away q xs) (left (is_at_other q (change_of_row x)) (are_away q (xs ++ ys)) h)
    (away_front q xs ys (right (is_at_other q (change_of_row x)) (are_away q (xs ++ ys)) h))

pub away_behind : (q : Place) (xs ys : List TableRow) → are_away q (xs ++ ys) ≡ true → are_away q ys ≡ true
away_behind q [] ys h = h
away_behind q (x ∷ xs) ys h = away_behind q xs ys (right (is_at_other q (change_of_row x)) (are_away q (xs ++ ys)) h)

pub away_both : (q : Place) (xs ys : List TableRow) → are_away q xs ≡ true → are_away q ys ≡ true → are_away q (xs ++ ys) ≡ true
away_both q [] ys h k = k
away_both q (x ∷ xs) ys h k =
    join (is_at_other q (change_of_row x)) (are_away q (xs ++ ys)) (left (is_at_other q (change_of_row x)) (are_away q xs) h)
    (away_both q xs ys (right (is_at_other q (change_of_row x)) (are_away q xs) h) k)

pub apart_front : (xs ys : List TableRow) → are_apart (xs ++ ys) ≡ true → are_apart xs ≡ true
apart_front [] ys h = refl
apart_front (x ∷ xs) ys h =
    join (are_away (place_of x) xs) (are_apart xs) (away_front (place_of x) xs ys (left (are_away (place_of x) (xs ++ ys)) (are_apart (xs ++ ys)) h))
    (apart_front xs ys (right (are_away (place_of x) (xs ++ ys)) (are_apart (xs ++ ys)) h))

pub apart_behind : (xs ys : List TableRow) → are_apart (xs ++ ys) ≡ true → are_apart ys ≡ true
apart_behind [] ys h = h
apart_behind (x ∷ xs) ys h = apart_behind xs ys (right (are_away (place_of x) (xs ++ ys)) (are_apart (xs ++ ys)) h)

-- FOUND

-- no two at one place: a row is found at its own
pub found_there : (xs ys : List TableRow) (r : TableRow) → are_apart (xs ++ r ∷ ys) ≡ true → found_row (place_of r) (xs ++ r ∷ ys) ≡ Some r.row
found_there xs ys r apart =
    found_put (place_of r) xs ys r (apart_gone xs ys r apart).1
    ∙ ap (λ b. cond b (Some r.row) (found_row (place_of r) (xs ++ ys))) (own_place (place_of r))

-- what stands in front is found first
pub found_first : (p : Place) (xs ys : List TableRow) (row : List Value) → found_row p xs ≡ Some row → found_row p (xs ++ ys) ≡ Some row
found_first p [] ys row is = cc
found_first p (x ∷ xs) ys row is = by (is_row_at p x) (λ h. found_first p xs ys row h) is
  where
    by : (b : Bool) → (found_row p xs ≡ Some row → found_row p (xs ++ ys) ≡ Some row) → cond b (Some x.row) (found_row p xs) ≡ Some row → cond b (Some x.row) (found_row p (xs ++ ys)) ≡ Some row
    by true on h = h
    by false on h = on h

pub found_front : (p : Place) (xs ys : List TableRow) → is_some (found_row p xs) ≡ true → is_some (found_row p (xs ++ ys)) ≡ true
found_front p [] ys some = cc
found_front p (x ∷ xs) ys some = by (is_row_at p x) (λ h. found_front p xs ys h) some
  where
    by : (b : Bool) → (is_some (found_row p xs) ≡ true → is_some (found_row p (xs ++ ys)) ≡ true) → is_some (cond b (Some x.row) (found_row p xs)) ≡ true → is_some (cond b (Some x.row) (found_row p (xs ++ ys))) ≡ true
    by true on h = refl
    by false on h = on h

-- what is found in a part is found in the whole
pub found_behind : (p : Place) (xs ys : List TableRow) → is_some (found_row p ys) ≡ true → is_some (found_row p (xs ++ ys)) ≡ true
found_behind p [] ys some = some
found_behind p (x ∷ xs) ys some = by (is_row_at p x) (found_behind p xs ys some)
  where
    by : (b : Bool) → is_some (found_row p (xs ++ ys)) ≡ true → is_some (cond b (Some x.row) (found_row p (xs ++ ys))) ≡ true
    by true h = refl
    by false h = h

pub found_at : (p : Place) (xs ys : List TableRow) (r : TableRow) → is_row_at p r ≡ true → is_some (found_row p (xs ++ r ∷ ys)) ≡ true
found_at p xs ys r at = found_behind p xs (r ∷ ys) (ap (λ b. is_some (cond b (Some r.row) (found_row p ys))) at)

-- none of these stands where none is found
pub away_none : (q : Place) (xs : List TableRow) → found_row q xs ≡ None → are_away q xs ≡ true
away_none q [] none = refl
away_none q (x ∷ xs) none = by (is_row_at q x) refl (λ h. away_none q xs h) none
  where
    by : (b : Bool) → is_row_at q x ≡ b → (found_row q xs ≡ None → are_away q xs ≡ true) → cond b (Some x.row) (found_row q xs) ≡ None → are_away q (x ∷ xs) ≡ true
    by true is on h = cc
    by false is on h = join (is_at_other q (change_of_row x)) (are_away q xs) (ap not is) (on h)

-- a row that is gone is no other one's
pub found_still : (p : Place) (xs ys : List TableRow) (r : TableRow) → is_row_at p r ≡ false → is_some (found_row p (xs ++ r ∷ ys)) ≡ true → is_some (found_row p (xs ++ ys)) ≡ true
found_still p [] ys r other some = ap (λ b. is_some (cond b (Some r.row) (found_row p ys))) (sym other) ∙ some
found_still p (x ∷ xs) ys r other some = by (is_row_at p x) (λ h. found_still p xs ys r other h) some
  where
    by : (b : Bool) → (is_some (found_row p (xs ++ r ∷ ys)) ≡ true → is_some (found_row p (xs ++ ys)) ≡ true) → is_some (cond b (Some x.row) (found_row p (xs ++ r ∷ ys))) ≡ true → is_some (cond b (Some x.row) (found_row p (xs ++ ys))) ≡ true
    by true on h = refl
    by false on h = on h

-- a row more hides none
pub found_beside : (p : Place) (xs ys : List TableRow) (r : TableRow) → is_some (found_row p (xs ++ ys)) ≡ true → is_some (found_row p (xs ++ r ∷ ys)) ≡ true
found_beside p [] ys r some = by (is_row_at p r)
  where
    by : (b : Bool) → is_some (cond b (Some r.row) (found_row p ys)) ≡ true
    by true = refl
    by false = some
found_beside p (x ∷ xs) ys r some = by (is_row_at p x) (λ h. found_beside p xs ys r h) some
  where
    by : (b : Bool) → (is_some (found_row p (xs ++ ys)) ≡ true → is_some (found_row p (xs ++ r ∷ ys)) ≡ true) → is_some (cond b (Some x.row) (found_row p (xs ++ ys))) ≡ true → is_some (cond b (Some x.row) (found_row p (xs ++ r ∷ ys))) ≡ true
    by true on h = refl
    by false on h = on h
