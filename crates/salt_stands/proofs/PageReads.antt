-- Pages are read by their own bytes alone.
use Rattle.salt_bytes.proofs.Pages.{takes_page}
use Rattle.salt_bytes.specs.Formats.{has_nulls}
use Rattle.salt_bytes.specs.Page.{TableRow, page_length, page_place, rows_in_page, spell_page, take_page}
use Rattle.salt_bytes.specs.Spellable.{IsSpellablePage}
use Rattle.salt_bytes.specs.Taking.{give, go_on, take_bytes}
use Rattle.salt_stands.specs.Partition.{page_at, rows_from}
use Rattle.salt_stands.specs.Pieces.{PartView, ReadsSamePages}
use Rattle.std.proofs.Common.{Bool, List, None, Option, Some, [], ap, drop, refl, suc, take, zero, ℕ, ◌++◌, ◌≡◌, ◌∙◌, ◌∷◌}
use Rattle.std.specs.Prelude.{option_map, option_and_then}

abbrev first_taken : Option (List ℕ × List ℕ) → Option (List ℕ)
first_taken o = option_map (λ taken. taken.0) o

-- what is taken depends on the first n bytes alone
taken_same : (n : ℕ) (a b : List ℕ) → take n a ≡ take n b → first_taken (take_bytes n a) ≡ first_taken (take_bytes n b)
taken_same zero a b e = refl
taken_same (suc n) [] [] e = refl
taken_same (suc n) [] (y ∷ ys) e = cc
taken_same (suc n) (x ∷ xs) [] e = cc
taken_same (suc n) (x ∷ xs) (y ∷ ys) e = by (take_bytes n xs) (take_bytes n ys) (taken_same n xs ys tails)
  where
    heads : x ≡ y
    heads = cc

    tails : take n xs ≡ take n ys
    tails = cc

    by : (o p : Option (List ℕ × List ℕ)) → first_taken o ≡ first_taken p → first_taken (go_on (λ taken. give (x ∷ taken)) o) ≡ first_taken (go_on (λ taken. give (y ∷ taken)) p)
    by None None h = refl
    by None (Some q) h = cc
    by (Some p) None h = cc
    by (Some p) (Some q) h = ap Some (λ i. heads i ∷ same i)
      where
        same : p.0 ≡ q.0
        same = cc

abbrev page_of : Option (List ℕ × List ℕ) → Bool → Option (List TableRow)
page_of o nulls = option_map (λ taken. taken.0) (go_on (λ bytes rest. option_map (λ (rs : List TableRow). (rs, rest)) (rows_in_page nulls bytes)) o)

page_same : (nulls : Bool) (o p : Option (List ℕ × List ℕ)) → first_taken o ≡ first_taken p → page_of o nulls ≡ page_of p nulls
page_same nulls None None h = refl
page_same nulls None (Some q) h = cc
page_same nulls (Some p) None h = cc
page_same nulls (Some p) (Some q) h = rows (rows_in_page nulls p.0) ∙ ap (λ bytes. option_map (λ (taken : List TableRow × List ℕ). taken.0) (option_map (λ (rs : List TableRow). (rs, q.1)) (rows_in_page nulls bytes))) same
  where
    same : p.0 ≡ q.0
    same = cc

    rows : (x : Option (List TableRow)) → option_map (λ (taken : List TableRow × List ℕ). taken.0) (option_map (λ (rs : List TableRow). (rs, p.1)) x) ≡ option_map (λ (taken : List TableRow × List ℕ). taken.0) (option_map (λ (rs : List TableRow). (rs, q.1)) x)
    rows None = refl
    rows (Some x) = refl

-- the bytes of one page
abbrev pub page_bytes : List ℕ → (page side : ℕ) → List ℕ
page_bytes bytes page side = take page_length (drop (page_place page side) bytes)

pub page_at_same : (nulls : Bool) (old new : List ℕ) (page side : ℕ) → page_bytes new page side ≡ page_bytes old page side → page_at nulls new page side ≡ page_at nulls old page side
page_at_same nulls old new page side e =
    page_same nulls (take_bytes page_length (drop (page_place page side) new)) (take_bytes page_length (drop (page_place page side) old)) (taken_same page_length (drop (page_place page side) new) (drop (page_place page side) old) e)

-- each page from this one on, on its side, has the same bytes
pub data SamePages (old new : List ℕ) : ℕ → List ℕ → Type 0 where
  no_page : {page : ℕ} → SamePages old new page []
  one_page : {page side : ℕ} {sides : List ℕ} → page_bytes new page side ≡ page_bytes old page side → SamePages old new (suc page) sides → SamePages old new page (side ∷ sides)

rows_same : (nulls : Bool) (old new : List ℕ) (page : ℕ) (sides : List ℕ) → SamePages old new page sides → rows_from nulls new page sides ≡ rows_from nulls old page sides
rows_same nulls old new page [] no_page = refl
rows_same nulls old new page (side ∷ sides) (one_page e more) =
    ap (λ o. option_and_then (λ rows. option_map (λ more. rows ++ more) (rows_from nulls new (suc page) sides)) o) (page_at_same nulls old new page side e)
    ∙ ap (λ o. option_and_then (λ rows. option_map (λ more. rows ++ more) o) (page_at nulls old page side)) (rows_same nulls old new (suc page) sides more)

-- the pages that a header names have the same bytes: they are read as before
pub reads_same_pages : (v : PartView) (old new : List ℕ) → SamePages old new 0 v.log.header.sides → ReadsSamePages v old new
reads_same_pages v old new same = rows_same (has_nulls v.log.header.format) old new 0 v.log.header.sides same

-- a page that was written at its place is read there
pub page_written : (nulls : Bool) (bytes rest : List ℕ) (page side : ℕ) (rows : List TableRow) → IsSpellablePage nulls rows → drop (page_place page side) bytes ≡ spell_page rows ++ rest → page_at nulls bytes page side ≡ Some rows
page_written nulls bytes rest page side rows good e = ap (λ b. option_map (λ (taken : List TableRow × List ℕ). taken.0) (take_page nulls b)) e ∙ ap (option_map (λ (taken : List TableRow × List ℕ). taken.0)) ((takes_page nulls rows good).taken rest)
