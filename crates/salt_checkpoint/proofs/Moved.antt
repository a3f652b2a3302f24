-- A row is put among others, or taken away from them, wherever it stands.
use Rattle.salt_checkpoint.specs.Rows.{found_row, is_row_at}
use Rattle.salt_bytes.specs.Page.{TableRow}
use Rattle.salt_model.specs.Tables.{changed_at, place_cmp, place_total}
use Rattle.salt_model.specs.declared.places.Place.{Place}
use Rattle.salt_stands.proofs.Booleans.{join, left, right}
use Rattle.salt_stands.proofs.Places.{equal_is, place_same}
use Rattle.salt_stands.specs.Partition.{are_distinct, is_at_other}
use Rattle.salt_stands.specs.Tables.{change_of_row}
use Rattle.std.proofs.Common.{Bool, List, None, Some, [], ap, false, refl, subst, sym, true, ◌++◌, ◌≡◌, ◌∙◌, ◌∷◌}
use Rattle.std.specs.Cmp.{eq_by_cmp_equiv}
use Rattle.std.specs.List.{list_all}
use Rattle.std.specs.Ordering.{is_eq}
use Rattle.std.specs.Prelude.{cond, map, not}

abbrev pub place_of : TableRow → Place
place_of r = changed_at (change_of_row r)

-- none of these stands at the place
abbrev pub are_away : Place → List TableRow → Bool
are_away q rs = list_all (is_at_other q) (map change_of_row rs)

abbrev pub are_apart : List TableRow → Bool
are_apart rs = are_distinct (map change_of_row rs)

flipped : (b : Bool) → not b ≡ true → b ≡ false
flipped true h = cc
flipped false h = refl

same_place : (q : Place) (r : TableRow) → is_row_at q r ≡ true → q ≡ place_of r
same_place q r e = place_same q (place_of r) (equal_is (place_cmp q (place_of r)) e)

pub found_away : (q : Place) (rs : List TableRow) → are_away q rs ≡ true → found_row q rs ≡ None
found_away q [] away = refl
found_away q (r ∷ rs) away =
    ap (λ b. cond b (Some r.row) (found_row q rs)) (flipped (is_row_at q r) (left (is_at_other q (change_of_row r)) (are_away q rs) away))
    ∙ found_away q rs (right (is_at_other q (change_of_row r)) (are_away q rs) away)

-- with one more among them
pub found_put : (q : Place) (xs ys : List TableRow) (r : TableRow) → are_away (place_of r) (xs ++ ys) ≡ true → found_row q (xs ++ r ∷ ys) ≡ cond (is_row_at q r) (Some r.row) (found_row q (xs ++ ys))
found_put q [] ys r away = refl
found_put q (x ∷ xs) ys r away =
    ap (λ o. cond (is_row_at q x) (Some x.row) o) (found_put q xs ys r (right (is_at_other (place_of r) (change_of_row x)) (are_away (place_of r) (xs ++ ys)) away))
    ∙ by (is_row_at q x) (is_row_at q r) refl refl
  where
    other : is_eq (place_cmp (place_of r) (place_of x)) ≡ false
    other = flipped (is_eq (place_cmp (place_of r) (place_of x))) (left (is_at_other (place_of r) (change_of_row x)) (are_away (place_of r) (xs ++ ys)) away)

    both : is_row_at q x ≡ true → is_row_at q r ≡ true → ⊥
    both a b = clash (subst (λ p. is_eq (place_cmp p (place_of x)) ≡ true) (same_place q r b) a) other
      where
        clash : {c : Bool} → c ≡ true → c ≡ false → ⊥
        clash x y = cc

    by : (a b : Bool) → is_row_at q x ≡ a → is_row_at q r ≡ b → cond a (Some x.row) (cond b (Some r.row) (found_row q (xs ++ ys))) ≡ cond b (Some r.row) (cond a (Some x.row) (found_row q (xs ++ ys)))
    by true true e f = absurd (both e f)
    by true false e f = refl
    by false true e f = refl
    by false false e f = refl

-- and without it
pub found_gone : (q : Place) (xs ys : List TableRow) (r : TableRow) → are_away (place_of r) (xs ++ ys) ≡ true → found_row q (xs ++ ys) ≡ cond (is_row_at q r) None (found_row q (xs ++ r ∷ ys))
found_gone q xs ys r away = by (is_row_at q r) refl ∙ ap (λ o. cond (is_row_at q r) None o) (sym (found_put q xs ys r away))
  where
    by : (b : Bool) → is_row_at q r ≡ b → found_row q (xs ++ ys) ≡ cond b None (cond b (Some r.row) (found_row q (xs ++ ys)))
    by true e = found_away q (xs ++ ys) (subst (λ p. are_away p (xs ++ ys) ≡ true) (sym (same_place q r e)) away)
    by false e = refl

turned : (a b : Place) → is_eq (place_cmp a b) ≡ is_eq (place_cmp b a)
turned a b = (eq_by_cmp_equiv place_total).symm a b

pub apart_put : (xs ys : List TableRow) (r : TableRow) → are_apart (xs ++ ys) ≡ true → are_away (place_of r) (xs ++ ys) ≡ true → are_apart (xs ++ r ∷ ys) ≡ true
apart_put [] ys r apart away = join (are_away (place_of r) ys) (are_apart ys) away apart
apart_put (x ∷ xs) ys r apart away =
    join (are_away (place_of x) (xs ++ r ∷ ys)) (are_apart (xs ++ r ∷ ys))
    (with_one xs (left (are_away (place_of x) (xs ++ ys)) (are_apart (xs ++ ys)) apart))
    (apart_put xs ys r (right (are_away (place_of x) (xs ++ ys)) (are_apart (xs ++ ys)) apart) (right (is_at_other (place_of r) (change_of_row x)) (are_away (place_of r) (xs ++ ys)) away))
  where
    own : is_at_other (place_of x) (change_of_row r) ≡ true
    own = ap not (turned (place_of x) (place_of r)) ∙ left (is_at_other (place_of r) (change_of_row x)) (are_away (place_of r) (xs ++ ys)) away

    with_one : (zs : List TableRow) → are_away (place_of x) (zs ++ ys) ≡ true → are_away (place_of x) (zs ++ r ∷ ys) ≡ true
    with_one [] h = join (is_at_other (place_of x) (change_of_row r)) (are_away (place_of x) ys) own h
    with_one (z ∷ zs) h = join (is_at_other (place_of x) (change_of_row z)) (are_away (place_of x) (zs ++ r ∷ ys))
        (left (is_at_other (place_of x) (change_of_row z)) (are_away (place_of x) (zs ++ ys)) h)
        (with_one zs (right (is_at_other (place_of x) (change_of_row z)) (are_away (place_of x) (zs ++ ys)) h))

-- where no two stand at one place, each is away from the others
pub apart_gone : (xs ys : List TableRow) (r : TableRow) → are_apart (xs ++ r ∷ ys) ≡ true → (are_apart (xs ++ ys) ≡ true) × (are_away (place_of r) (xs ++ ys) ≡ true)
apart_gone [] ys r apart = (right (are_away (place_of r) ys) (are_apart ys) apart, left (are_away (place_of r) ys) (are_apart ys) apart)
apart_gone (x ∷ xs) ys r apart = by (apart_gone xs ys r (right (are_away (place_of x) (xs ++ r ∷ ys)) (are_apart (xs ++ r ∷ ys)) apart))
  where
    all : are_away (place_of x) (xs ++ r ∷ ys) ≡ true
    all = left (are_away (place_of x) (xs ++ r ∷ ys)) (are_apart (xs ++ r ∷ ys)) apart

    split : (zs : List TableRow) → are_away (place_of x) (zs ++ r ∷ ys) ≡ true → (are_away (place_of x) (zs ++ ys) ≡ true) × (is_at_other (place_of x) (change_of_row r) ≡ true)
    split [] h = (right (is_at_other (place_of x) (change_of_row r)) (are_away (place_of x) ys) h, left (is_at_other (place_of x) (change_of_row r)) (are_away (place_of x) ys) h)
    split (z ∷ zs) h =
        let rest = split zs (right (is_at_other (place_of x) (change_of_row z)) (are_away (place_of x) (zs ++ r ∷ ys)) h) in
        (join (is_at_other (place_of x) (change_of_row z)) (are_away (place_of x) (zs ++ ys)) (left (is_at_other (place_of x) (change_of_row z)) (are_away (place_of x) (zs ++ r ∷ ys)) h) rest.0, rest.1)

    by : (are_apart (xs ++ ys) ≡ true) × (are_away (place_of r) (xs ++ ys) ≡ true) → (are_apart (x ∷ xs ++ ys) ≡ true) × (are_away (place_of r) (x ∷ xs ++ ys) ≡ true)
    by h =
        let own = split xs all in (
          join (are_away (place_of x) (xs ++ ys)) (are_apart (xs ++ ys)) own.0 h.0,
          join (is_at_other (place_of r) (change_of_row x)) (are_away (place_of r) (xs ++ ys)) (ap not (turned (place_of r) (place_of x)) ∙ own.1) h.1,
        )
