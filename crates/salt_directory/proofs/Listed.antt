-- The rows of pages are listed, page by page.
use Rattle.salt_bytes.specs.Page.{TableRow}
use Rattle.salt_checkpoint.proofs.Moved.{apart_gone, are_apart, are_away, found_away, place_of}
use Rattle.salt_checkpoint.specs.Rows.{found_row}
use Rattle.salt_model.specs.Tables.{Tables, place_cmp, put_row, with_changes}
use Rattle.salt_model.specs.declared.places.Place.{Place}
use Rattle.salt_directory.proofs.Changed.{none_at, page_more, put_rows, row_on_page}
use Rattle.salt_directory.proofs.Keys.{page_alike, page_put}
use Rattle.salt_directory.proofs.PageAt.{rows_first, rows_none, twins_stay}
use Rattle.salt_directory.proofs.Split.{rows_push}
use Rattle.salt_directory.specs.Directories.{HasPagesBelow}
use Rattle.salt_directory.specs.Listing.{AreNoPages, AreUnsound, HaveTwins, IsDirectory, tables_on}
use Rattle.salt_directory.specs.Pages.{AreRowsOf, all_rows, page_of}
use Rattle.salt_stands.specs.Partition.{page_at, rows_from}
use Rattle.std.proofs.Common.{Bool, List, None, Option, Some, [], ap, append_assoc, arith, cond, drop, false, get_or, inl, inr, is_some, length, refl, set, subst, sym, take, true, ℕ, ◌&&◌, ◌+◌, ◌++◌, ◌<◌, ◌≡◌, ◌≤◌, ◌∙◌, ◌∷◌}
use Rattle.std.proofs.lemmas.List.Folds.{list_all-append, list_all_at}
use Rattle.std.proofs.lemmas.List.{append-nil, get_or_push, length_push, set_at, take-append-drop, take_all, take_more}
use Rattle.std.proofs.lemmas.Option.{get_or_from_slice_get, slice_get_within}
use Rattle.std.specs.BTreeMap.{insert_entry}
use Rattle.std.specs.List.{list_all}
use Rattle.std.specs.Ordering.{is_eq}
use Rattle.std.specs.Prelude.{slice_get}

pub as_directory : (directory : List (Place × ℕ)) (pages : List (List TableRow)) (t : Tables) → AreRowsOf directory pages t → IsDirectory directory pages
as_directory directory pages t are = subst (λ (u : Tables). AreRowsOf directory pages u) (sym are.tables) are

pub no_directory : IsDirectory [] []
unfolding with_changes
no_directory = record { apart = refl; tables = refl; keys = refl; placed = λ q page is. cc }

pub empty_page : (directory : List (Place × ℕ)) (pages : List (List TableRow)) → IsDirectory directory pages → HasPagesBelow directory (length pages) → IsDirectory directory (pages ++ [] ∷ [])
empty_page directory pages are below = as_directory directory (pages ++ [] ∷ []) (tables_on pages) (page_more directory pages (tables_on pages) are below)

module _ (directory : List (Place × ℕ)) (pages : List (List TableRow)) (rows : List TableRow) (are : IsDirectory directory (pages ++ rows ∷ [])) (r : TableRow) where
  last : get_or (pages ++ rows ∷ []) (length pages) [] ≡ rows
  last = get_or_push pages rows [] (length pages) refl

  -- one row more on the last page
  pub listed : page_of directory (place_of r) ≡ None → IsDirectory (insert_entry place_cmp directory (place_of r) (length pages)) (pages ++ (rows ++ r ∷ []) ∷ [])
  listed lacks =
      let none = none_at directory (pages ++ rows ∷ []) (tables_on (pages ++ rows ∷ [])) are (place_of r) lacks in
      let put = put_rows directory (pages ++ rows ∷ []) (tables_on (pages ++ rows ∷ [])) are (length pages) (omega (arith, length_push pages rows)) r none in
      let same : set (pages ++ rows ∷ []) (length pages) (get_or (pages ++ rows ∷ []) (length pages) [] ++ r ∷ []) ≡ pages ++ (rows ++ r ∷ []) ∷ [] =
      ap (λ (l : List TableRow). set (pages ++ rows ∷ []) (length pages) (l ++ r ∷ [])) last ∙ set_at pages rows [] (rows ++ r ∷ []) (length pages) refl in
      subst (IsDirectory (insert_entry place_cmp directory (place_of r) (length pages))) same
      (as_directory (insert_entry place_cmp directory (place_of r) (length pages)) (set (pages ++ rows ∷ []) (length pages) (get_or (pages ++ rows ∷ []) (length pages) [] ++ r ∷ [])) (put_row (place_of r) r.row (tables_on (pages ++ rows ∷ []))) put)

  -- its place is taken
  pub taken : is_some (page_of directory (place_of r)) ≡ true → are_apart ((all_rows pages ++ rows) ++ r ∷ []) ≡ false
  taken there = by (are_apart ((all_rows pages ++ rows) ++ r ∷ [])) refl
    where
      found : is_some (found_row (place_of r) (all_rows pages ++ rows)) ≡ true
      found =
          ap (λ (l : List TableRow). is_some (found_row (place_of r) l)) (sym (rows_push pages rows))
          ∙ ap is_some (sym (row_on_page directory (pages ++ rows ∷ []) (tables_on (pages ++ rows ∷ [])) are (place_of r)))
          ∙ sym (page_alike (place_of r) directory (tables_on (pages ++ rows ∷ [])).list are.keys) ∙ there

      by : (b : Bool) → are_apart ((all_rows pages ++ rows) ++ r ∷ []) ≡ b → are_apart ((all_rows pages ++ rows) ++ r ∷ []) ≡ false
      by false e = e
      by true e =
          let away : are_away (place_of r) ((all_rows pages ++ rows) ++ []) ≡ true = (apart_gone (all_rows pages ++ rows) [] r e).1 in
          let none : found_row (place_of r) ((all_rows pages ++ rows) ++ []) ≡ None = found_away (place_of r) ((all_rows pages ++ rows) ++ []) away in
          absurd (clash (sym found ∙ ap (λ (l : List TableRow). is_some (found_row (place_of r) l)) (sym (append-nil (all_rows pages ++ rows))) ∙ ap is_some none))
        where
          clash : true ≡ false → ⊥
          clash h = cc

-- twins on a page are twins behind its other rows, too
pub page_twins : (pages : List (List TableRow)) (rows : List TableRow) (i : ℕ) (r : TableRow) → i < length rows → r ≡ get_or rows i r → are_apart ((all_rows pages ++ take i rows) ++ r ∷ []) ≡ false → HaveTwins (all_rows (pages ++ rows ∷ []))
page_twins pages rows i r low is twins =
    let front : take (i + 1) rows ≡ take i rows ++ r ∷ [] = take_more rows i r low ∙ ap (λ (s : TableRow). take i rows ++ s ∷ []) (sym is) in
    let whole : ((all_rows pages ++ take i rows) ++ r ∷ []) ++ drop (i + 1) rows ≡ all_rows (pages ++ rows ∷ []) =
    ap (λ (l : List TableRow). l ++ drop (i + 1) rows) (append_assoc (all_rows pages) (take i rows) (r ∷ []) ∙ ap (λ (l : List TableRow). all_rows pages ++ l) (sym front))
    ∙ append_assoc (all_rows pages) (take (i + 1) rows) (drop (i + 1) rows)
    ∙ ap (λ (l : List TableRow). all_rows pages ++ l) (take-append-drop (i + 1) rows)
    ∙ sym (rows_push pages rows) in
    subst (λ (l : List TableRow). are_apart l ≡ false) whole (twins_stay ((all_rows pages ++ take i rows) ++ r ∷ []) (drop (i + 1) rows) twins)

-- NO PAGES
module _ (nulls : Bool) (bytes sides : List ℕ) where
  pub none_there : (k : ℕ) → k < length sides → page_at nulls bytes k (get_or sides k 0) ≡ None → AreNoPages nulls bytes sides
  none_there k low none = inl (rows_none nulls bytes 0 sides k low (subst (λ n. page_at nulls bytes n (get_or sides k 0) ≡ None) (from_zero k) none))
    where
      from_zero : (i : ℕ) → i ≡ 0 + i
      from_zero i = omega arith

  pub twins_there : (pages : List (List TableRow)) → length pages ≤ length sides → ((i : ℕ) → i < length pages → page_at nulls bytes i (get_or sides i 0) ≡ Some (get_or pages i [])) → HaveTwins (all_rows pages) → AreNoPages nulls bytes sides
  twins_there pages few each twins = by (rows_from nulls bytes 0 sides) refl
    where
      from_zero : (i : ℕ) → i ≡ 0 + i
      from_zero i = omega arith

      by : (o : Option (List TableRow)) → rows_from nulls bytes 0 sides ≡ o → AreNoPages nulls bytes sides
      by None is = inl is
      by (Some rows) is =
          let first = rows_first nulls bytes 0 sides pages rows few (λ i low. subst (λ n. page_at nulls bytes n (get_or sides i 0) ≡ Some (get_or pages i [])) (from_zero i) (each i low)) is in
          inr (rows, is, subst (λ (l : List TableRow). are_apart l ≡ false) (sym first.1) (twins_stay (all_rows pages) first.0 twins))

-- SOUND ROWS
module _ (sound : TableRow → Bool) (nulls : Bool) (bytes sides : List ℕ) where
  from_first : (k : ℕ) → k ≡ 0 + k
  from_first k = omega arith

  pub unsound_there : (pages : List (List TableRow)) → length pages ≤ length sides → ((i : ℕ) → i < length pages → page_at nulls bytes i (get_or sides i 0) ≡ Some (get_or pages i [])) → list_all sound (all_rows pages) ≡ false → AreUnsound sound nulls bytes sides
  unsound_there pages few each unsound = by (rows_from nulls bytes 0 sides) refl
    where
      by : (o : Option (List TableRow)) → rows_from nulls bytes 0 sides ≡ o → AreUnsound sound nulls bytes sides
      by None is = inl is
      by (Some rows) is =
          let first = rows_first nulls bytes 0 sides pages rows few (λ i low. subst (λ n. page_at nulls bytes n (get_or sides i 0) ≡ Some (get_or pages i [])) (from_first i) (each i low)) is in
          inr (rows, is, ap (list_all sound) first.1 ∙ list_all-append sound (all_rows pages) first.0 ∙ (λ j. unsound j && list_all sound first.0))

-- ROW BY ROW

-- the first i rows of the page that stands behind the others are sound and listed
pub record ListedSoFar (is_sound : TableRow → Bool) (before now : List (Place × ℕ)) (number : ℕ) (rows : List TableRow) (i : ℕ) : Type 0 where
  pub is : (pages : List (List TableRow)) → number ≡ length pages → IsDirectory before (pages ++ [] ∷ []) → IsDirectory now (pages ++ take i rows ∷ [])
  pub below : HasPagesBelow before number → HasPagesBelow now (number + 1)
  pub sound : list_all is_sound (take i rows) ≡ true

pub none_listed : (sound : TableRow → Bool) (before : List (Place × ℕ)) (number : ℕ) (rows : List TableRow) → ListedSoFar sound before before number rows 0
none_listed sound before number rows = record { is = λ pages last are. are; below = λ low q page found. omega (arith, low q page found); sound = refl }

module _ (sound : TableRow → Bool) (before now : List (Place × ℕ)) (number : ℕ) (rows : List TableRow) (i : ℕ) (so : ListedSoFar sound before now number rows i) (r : TableRow) (at : slice_get rows i ≡ Some r) where
  within : i < length rows
  within = slice_get_within rows i r at

  own : r ≡ get_or rows i r
  own = sym (get_or_from_slice_get rows i r r at)

  front : take (i + 1) rows ≡ take i rows ++ r ∷ []
  front = take_more rows i r within ∙ ap (λ (s : TableRow). take i rows ++ s ∷ []) (sym own)

  pub one_listed : (new : List (Place × ℕ)) → new ≡ insert_entry place_cmp now (place_of r) number → page_of now (place_of r) ≡ None → sound r ≡ true → ListedSoFar sound before new number rows (i + 1)
  one_listed new made lacks fits = record { is = is; below = below; sound = ap (list_all sound) front ∙ list_all-append sound (take i rows) (r ∷ []) ∙ (λ j. so.sound j && (fits j && true)) }
    where
      is : (pages : List (List TableRow)) → number ≡ length pages → IsDirectory before (pages ++ [] ∷ []) → IsDirectory new (pages ++ take (i + 1) rows ∷ [])
      is pages last are =
          subst (λ (l : List TableRow). IsDirectory new (pages ++ l ∷ [])) (sym front)
          (subst (λ (D : List (Place × ℕ)). IsDirectory D (pages ++ (take i rows ++ r ∷ []) ∷ [])) (sym (made ∙ ap (insert_entry place_cmp now (place_of r)) last))
          (listed now pages (take i rows) (so.is pages last are) r lacks))

      below : HasPagesBelow before number → HasPagesBelow new (number + 1)
      below low q page found = by (is_eq (place_cmp q (place_of r))) (sym (page_put q (place_of r) number now) ∙ ap (λ (D : List (Place × ℕ)). page_of D q) (sym made) ∙ found)
        where
          by : (b : Bool) → cond b (Some number) (page_of now q) ≡ Some page → page < number + 1
          by true h = let same : number ≡ page = cc in omega (arith, same)
          by false h = so.below low q page h

  pub twin_listed : is_some (page_of now (place_of r)) ≡ true → (pages : List (List TableRow)) → number ≡ length pages → IsDirectory before (pages ++ [] ∷ []) → HaveTwins (all_rows (pages ++ rows ∷ []))
  twin_listed there pages last are = page_twins pages rows i r within own (taken now pages (take i rows) (so.is pages last are) r there)

  pub unsound_listed : sound r ≡ false → list_all sound rows ≡ false
  unsound_listed bad = list_all_at sound rows i r within (ap sound (sym own) ∙ bad)

pub all_listed : (sound : TableRow → Bool) (before now : List (Place × ℕ)) (number : ℕ) (rows : List TableRow) (i : ℕ) → ListedSoFar sound before now number rows i → length rows ≤ i
    → (pages : List (List TableRow)) → number ≡ length pages → IsDirectory before (pages ++ [] ∷ []) → IsDirectory now (pages ++ rows ∷ [])
all_listed sound before now number rows i so end pages last are = subst (λ (l : List TableRow). IsDirectory now (pages ++ l ∷ [])) (take_all i rows end) (so.is pages last are)

pub all_sound : (sound : TableRow → Bool) (before now : List (Place × ℕ)) (number : ℕ) (rows : List TableRow) (i : ℕ) → ListedSoFar sound before now number rows i → length rows ≤ i → list_all sound rows ≡ true
all_sound sound before now number rows i so end = ap (list_all sound) (sym (take_all i rows end)) ∙ so.sound
