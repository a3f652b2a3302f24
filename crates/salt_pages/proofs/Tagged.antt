-- Tags: that of a key where it is spelled, those that a page keeps, and which rows a search goes past.
use Rattle.memchr.specs.Find.{NoneBefore, Nowhere, Passes, is_byte}
use Rattle.salt_bytes.proofs.Only.{only_value}
use Rattle.salt_bytes.specs.Page.{TableRow}
use Rattle.salt_bytes.specs.Spellable.{AreBytes, IsSpellableValue}
use Rattle.salt_bytes.specs.Taking.{give, go_on, take_each, then_take}
use Rattle.salt_bytes.specs.Values.{is_row_length, spell_value, take_value}
use Rattle.salt_pages.proofs.Found.{IsPast, past_all}
use Rattle.salt_pages.proofs.Inserted.{row_of}
use Rattle.salt_pages.proofs.Spelled.{as_many, own_rows, read_back}
use Rattle.salt_pages.proofs.Taken.{drop_to_end}
use Rattle.salt_pages.specs.Pages.{IsFound, IsRowOf, IsSpelled, IsSpelledSo, page_rows}
use Rattle.salt_pages.specs.Tags.{IsTagged, row_tag, tag_of, tags_of}
use Rattle.salt_values.specs.Value.{key_of}
use Rattle.salt_values.specs.declared.value.Value.TheVariants.{Int, Null, Text}
use Rattle.salt_values.specs.declared.value.Value.{Value}
use Rattle.std.proofs.Common.{Bool, List, None, Some, [], ap, arith, drop, get_or, inl, inr, length, length-append, length-drop, refl, subst, suc, sym, take, true, zero, ℕ, ◌+◌, ◌++◌, ◌-◌, ◌<◌, ◌≡◌, ◌≤◌, ◌∙◌, ◌∷◌, ◌⊎◌}
use Rattle.std.proofs.lemmas.List.{get_or-drop, get_or_append_left, map-append}
use Rattle.std.specs.List.{remove}
use Rattle.std.specs.Prelude.{nat_eq, slice_get}

-- A KEY'S TAG

pub some_bytes : (v : Value) → 1 ≤ length (spell_value v)
some_bytes (Int z) = omega arith
some_bytes (Text t) = omega arith
some_bytes Null = omega arith

-- of the key that is taken of these bytes
module _ (nulls : Bool) (bytes : List ℕ) (small : AreBytes bytes) (v : Value) (behind : List ℕ) (taken : take_value nulls bytes ≡ Some (v, behind)) where
  spelled : bytes ≡ spell_value v ++ behind
  spelled = (only_value nulls).only bytes small v behind taken

  pub shorter : length behind + 1 ≤ length bytes
  shorter = omega (arith, ap length spelled, length-append (spell_value v) behind, some_bytes v)

  pub last : get_or bytes (length bytes - length behind - 1) 0 ≡ tag_of v
  last =
      let place : length bytes - length behind - 1 ≡ length (spell_value v) - 1 = omega (arith, ap length spelled, length-append (spell_value v) behind) in
      (λ i. get_or (spelled i) (place i) 0) ∙ get_or_append_left (spell_value v) behind 0 (length (spell_value v) - 1) (omega (arith, some_bytes v))

  -- and behind it the others of its row
  pub row_taken : (count : ℕ) (vs : List Value) (rest : List ℕ) → 1 ≤ count → take_each (take_value nulls) (count - 1) behind ≡ Some (vs, rest) → take_each (take_value nulls) count bytes ≡ Some (v ∷ vs, rest)
  row_taken zero vs rest some others = absurd (omega (arith, some))
  row_taken (suc n) vs rest some others =
      let same : suc n - 1 ≡ n = omega arith in
      ap (go_on (λ x. then_take (take_each (take_value nulls) n) (λ xs. give (x ∷ xs)))) taken ∙ ap (go_on (λ xs. give (v ∷ xs))) (ap (λ k. take_each (take_value nulls) k behind) (sym same) ∙ others)

-- THE TAGS OF ROWS

pub tag_at_row : (rows : List TableRow) (i : ℕ) (r : TableRow) → slice_get rows i ≡ Some r → get_or (tags_of rows) i 0 ≡ row_tag r
tag_at_row [] i r e = cc
tag_at_row (x ∷ rows) zero r e = ap row_tag same
  where
    same : x ≡ r
    same = cc
tag_at_row (x ∷ rows) (suc i) r e = tag_at_row rows i r e

pub as_many_tags : (rows : List TableRow) → length (tags_of rows) ≡ length rows
as_many_tags [] = refl
as_many_tags (r ∷ rows) = ap suc (as_many_tags rows)

pub tags_removed : (rows : List TableRow) (i : ℕ) → remove (tags_of rows) i ≡ tags_of (remove rows i)
tags_removed [] zero = refl
tags_removed [] (suc i) = refl
tags_removed (r ∷ rows) zero = refl
tags_removed (r ∷ rows) (suc i) = ap (λ (l : List ℕ). row_tag r ∷ l) (tags_removed rows i)

-- a page whose bytes spell these rows
pub tagged_so : (bytes places tags : List ℕ) (free : ℕ) (rows : List TableRow) → IsSpelled bytes places free rows → tags ≡ tags_of rows → IsTagged bytes places tags free
tagged_so bytes places tags free rows h is = record { spelled = own_rows bytes places free rows h; tagged = is ∙ ap tags_of (sym (read_back bytes places free rows h)) }

many_tags : (bytes places tags : List ℕ) → IsSpelledSo bytes places → tags ≡ tags_of (page_rows bytes) → length tags ≡ length places
many_tags bytes places tags h is = ap length is ∙ as_many_tags (page_rows bytes) ∙ sym (as_many bytes places h.free (page_rows bytes) h.is)

-- A SEARCH

own_number : (a : ℕ) → nat_eq a a ≡ true
own_number a = grind (arith)

-- no byte before the one that is found is this tag
pub passed_over : (tag : ℕ) (tags hay : List ℕ) (from ahead : ℕ) → hay ≡ drop from tags → Nowhere (Passes (is_byte tag) hay) 0 ahead → (j : ℕ) → from ≤ j → j < from + ahead → get_or tags j 0 ≡ tag → ⊥
passed_over tag tags hay from ahead is none j low high same =
    let place : from + (j - from) ≡ j = omega (arith, low) in
    let there : get_or hay (j - from) 0 ≡ tag = ap (λ (l : List ℕ). get_or l (j - from) 0) is ∙ get_or-drop from tags (j - from) 0 ∙ ap (λ (n : ℕ). get_or tags n 0) place ∙ same in
    none (j - from) (omega arith) (omega (arith, low, high)) (subst (λ (n : ℕ). nat_eq n tag ≡ true) (sym there) (own_number tag))

below_or_from : (from j : ℕ) → (j < from) ⊎ (from ≤ j)
below_or_from from j = grind arith

-- a row whose tag is not the key's last byte is no row with this key
pub past_over : (table : ℕ) (key : List ℕ) (rows : List TableRow) (tags : List ℕ) (from to : ℕ) → tags ≡ tags_of rows → ((j : ℕ) → from ≤ j → j < to → get_or tags j 0 ≡ get_or key (length key - 1) 0 → ⊥) → IsPast table key rows from → IsPast table key rows to
past_over table key rows tags from to are none past = record { past = λ k fits is j r low e of'. by k fits is j r low e of' (below_or_from from j) }
  where
    by : (k : Value) → IsSpellableValue true k → key ≡ spell_value k → (j : ℕ) (r : TableRow) → j < to → slice_get rows j ≡ Some r → IsRowOf table k r → (j < from) ⊎ (from ≤ j) → ⊥
    by k fits is j r low e of' (inl before) = past.past k fits is j r before e of'
    by k fits is j r low e of' (inr behind) = none j behind low (ap (λ (l : List ℕ). get_or l j 0) are ∙ tag_at_row rows j r e ∙ ap tag_of of'.1 ∙ ap (λ (l : List ℕ). get_or l (length l - 1) 0) (sym is))

module _ (bytes places tags : List ℕ) (h : IsSpelledSo bytes places) (are : tags ≡ tags_of (page_rows bytes)) (from : ℕ) (within : from ≤ length tags) where
  -- the tags that are left
  abbrev left : List ℕ
  left = take (length tags - from) (drop from tags)

  whole : left ≡ drop from tags
  whole = drop_to_end from tags within

  size : from + length left ≡ length places
  size = omega (arith, within, ap length whole, length-drop from tags, many_tags bytes places tags h are)

  module _ (table : ℕ) (key : List ℕ) (past : IsPast table key (page_rows bytes) from) where
    abbrev tag : ℕ
    tag = get_or key (length key - 1) 0

    gone_past : (ahead : ℕ) → Nowhere (Passes (is_byte tag) left) 0 ahead → IsPast table key (page_rows bytes) (from + ahead)
    gone_past ahead none = past_over table key (page_rows bytes) tags from (from + ahead) are (passed_over tag tags left from ahead whole none) past

    module _ (ahead : ℕ) (first : NoneBefore (Passes (is_byte tag) left) 0 (length left) ahead) where
      pub in_places : from + ahead < length places
      in_places = omega (arith, size, first.high)

      pub within_next : from + ahead + 1 ≤ length tags
      within_next = omega (arith, in_places, many_tags bytes places tags h are)

      pub past_so_far : IsPast table key (page_rows bytes) (from + ahead)
      past_so_far = gone_past ahead first.before

    pub nowhere : Nowhere (Passes (is_byte tag) left) 0 (length left) → (k : Value) → IsSpellableValue true k → key ≡ spell_value k → IsFound table k (page_rows bytes) None
    nowhere none = past_all table key bytes places (from + length left) h (omega (arith, size)) (gone_past (length left) none)

-- A ROW MORE

pub some_values : (row : List Value) → is_row_length (length row) ≡ true → 1 ≤ length row
some_values [] some = cc
some_values (v ∷ row) some = omega arith

pub first_value : (row : List Value) (d : Value) → 1 ≤ length row → get_or row 0 d ≡ key_of row
first_value [] d some = absurd (omega (arith, some))
first_value (v ∷ row) d some = refl

pub tags_more : (rows : List TableRow) (r : TableRow) (tags more : List ℕ) (tag : ℕ) → tag ≡ row_tag r → tags ≡ tags_of rows → more ≡ tags ++ tag ∷ [] → more ≡ tags_of (rows ++ r ∷ [])
tags_more rows r tags more tag says are put = put ∙ (λ i. are i ++ says i ∷ []) ∙ sym (map-append row_tag rows (r ∷ []))

-- the tag of the row that is put behind the others, as its first value says it
pub tags_push : (rows : List TableRow) (table : ℕ) (row seen : List Value) (d : Value) (tags more : List ℕ) (tag : ℕ) → is_row_length (length row) ≡ true → seen ≡ row → tag ≡ tag_of (get_or seen 0 d) → tags ≡ tags_of rows → more ≡ tags ++ tag ∷ []
    → more ≡ tags_of (rows ++ row_of table row ∷ [])
tags_push rows table row seen d tags more tag some same says are put =
    let here : tag ≡ tag_of (key_of row) = says ∙ ap (λ (l : List Value). tag_of (get_or l 0 d)) same ∙ ap tag_of (first_value row d (some_values row some)) in
    tags_more rows (row_of table row) tags more tag here are put
