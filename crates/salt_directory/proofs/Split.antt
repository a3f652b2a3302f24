-- The rows of one page among those of all, and one row among those of a page.
use Rattle.salt_bytes.specs.Page.{TableRow}
use Rattle.salt_directory.specs.Pages.{all_rows}
use Rattle.std.proofs.Common.{List, Some, [], ap, append_assoc, arith, drop, get_or, length, refl, set, suc, sym, take, zero, ℕ, ◌++◌, ◌<◌, ◌≡◌, ◌∙◌, ◌∷◌}
use Rattle.std.proofs.lemmas.List.{append-nil, set-get_or}
use Rattle.std.specs.Prelude.{slice_get}

-- what stands before a page's rows, and behind them, whatever they are
pub record Split (pages : List (List TableRow)) (page : ℕ) : Type 0 where
  pub before : List TableRow
  pub behind : List TableRow
  pub is : (rows : List TableRow) → all_rows (set pages page rows) ≡ before ++ (rows ++ behind)

pub split : (pages : List (List TableRow)) (page : ℕ) → page < length pages → Split pages page
split [] page low = absurd (omega (arith, low))
split (rows ∷ pages) zero low = record { before = []; behind = all_rows pages; is = λ own. refl }
split (rows ∷ pages) (suc page) low =
    let rest = split pages page (omega (arith, low)) in
    record {
      before = rows ++ rest.before;
      behind = rest.behind;
      is = λ own. ap (λ (l : List TableRow). rows ++ l) (rest.is own) ∙ sym (append_assoc rows rest.before (own ++ rest.behind));
    }

pub own_rows : (pages : List (List TableRow)) (page : ℕ) (s : Split pages page) → all_rows pages ≡ s.before ++ (get_or pages page [] ++ s.behind)
own_rows pages page s = ap all_rows (sym (set-get_or pages page [])) ∙ s.is (get_or pages page [])

-- an empty page more
pub rows_push : (pages : List (List TableRow)) (rows : List TableRow) → all_rows (pages ++ rows ∷ []) ≡ all_rows pages ++ rows
rows_push [] rows = append-nil rows
rows_push (own ∷ pages) rows = ap (λ (l : List TableRow). own ++ l) (rows_push pages rows) ∙ sym (append_assoc own (all_rows pages) rows)

-- a list around one of its elements
pub parted : {A : Type 0} (xs : List A) (i : ℕ) (x : A) → slice_get xs i ≡ Some x → xs ≡ take i xs ++ x ∷ drop (suc i) xs
parted [] i x is = cc
parted (y ∷ xs) zero x is = ap (λ z. z ∷ xs) same
  where
    same : y ≡ x
    same = cc
parted (y ∷ xs) (suc i) x is = ap (λ l. y ∷ l) (parted xs i x is)

pub set_parted : {A : Type 0} (xs : List A) (i : ℕ) (x y : A) → slice_get xs i ≡ Some x → set xs i y ≡ take i xs ++ y ∷ drop (suc i) xs
set_parted [] i x y is = cc
set_parted (z ∷ xs) zero x y is = refl
set_parted (z ∷ xs) (suc i) x y is = ap (λ l. z ∷ l) (set_parted xs i x y is)
