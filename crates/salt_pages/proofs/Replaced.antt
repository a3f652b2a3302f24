-- A page with a row in the place of one that takes as many bytes.
use Rattle.salt_bytes.specs.Numbers.{spell_16}
use Rattle.salt_bytes.specs.Page.{TableRow, page_front, page_length, spell_table_row}
use Rattle.salt_bytes.specs.Spellable.{Every, IsSpellableRow, IsSpellableTableRow}
use Rattle.salt_bytes.specs.Values.{is_row_length, spell_values}
use Rattle.salt_pages.proofs.Inserted.{each_spellable, row_of}
use Rattle.salt_pages.proofs.Removed.{Split, at_split, end_is, place_is, s}
use Rattle.salt_pages.proofs.Spelled.{place_within, some_at}
use Rattle.salt_pages.proofs.Tagged.{first_value, some_values}
use Rattle.salt_pages.specs.Filling.{filled}
use Rattle.salt_pages.specs.Pages.{IsSpelled, places_from}
use Rattle.salt_pages.specs.Tags.{row_tag, tag_of, tags_of}
use Rattle.salt_values.specs.Value.{IsValue, key_of}
use Rattle.salt_values.specs.declared.value.Value.{Value}
use Rattle.std.proofs.Common.{List, Some, [], ap, append_assoc, arith, drop, false, get_or, length, length-append, set, subst, sym, true, ℕ, ◌+◌, ◌++◌, ◌-◌, ◌<◌, ◌==◌, ◌≡◌, ◌≤◌, ◌∙◌, ◌∷◌}
use Rattle.std.proofs.Math.Seq.{set-append_seam}
use Rattle.std.proofs.lemmas.List.{drop_at, map-set, take_at}
use Rattle.std.proofs.lemmas.List.Concat.{flat_map-append}
use Rattle.std.specs.List.{flat_map}
use Rattle.std.specs.Prelude.{replicate, slice_get}

-- what stands in the place of as many bytes
put_between : (front old new back : List ℕ) (at : ℕ) → length front ≡ at → length new ≡ length old → filled (front ++ (old ++ back)) at new ≡ front ++ (new ++ back)
unfolding filled
put_between front old new back at is same =
    let whole : front ++ (old ++ back) ≡ (front ++ old) ++ back = sym (append_assoc front old back) in
    let behind : drop (at + length new) (front ++ (old ++ back)) ≡ back = ap (drop (at + length new)) whole ∙ drop_at (front ++ old) back (at + length new) (omega (arith, is, same, length-append front old)) in
    (λ i. (take_at front (old ++ back) at is i ++ new) ++ behind i) ∙ append_assoc front new back

same_places : (at : ℕ) (a : List TableRow) (x y : TableRow) (b : List TableRow) → length (spell_table_row y) ≡ length (spell_table_row x) → places_from at (a ++ x ∷ b) ≡ places_from at (a ++ y ∷ b)
same_places at [] x y b same = ap (λ (n : ℕ). at ∷ places_from (at + n) b) (sym same)
same_places at (z ∷ a) x y b same = ap (λ (l : List ℕ). at ∷ l) (same_places (at + length (spell_table_row z)) a x y b same)

every_between : {A : Type 0} (P : A → Type 0) (a : List A) (x y : A) (b : List A) → P y → Every P (a ++ x ∷ b) → Every P (a ++ y ∷ b)
every_between P [] x y b own h = (own, h.1)
every_between P (z ∷ a) x y b own h = (h.0, every_between P a x y b own h.1)

good_between : {A : Type 0} (P : A → Type 0) (a : List A) (x : A) (b : List A) → Every P (a ++ x ∷ b) → P x
good_between P [] x b h = h.0
good_between P (z ∷ a) x b h = good_between P a x b h.1

-- A ROW AMONG OTHERS
module _ (a b : List TableRow) where
  each : (z : TableRow) → flat_map spell_table_row (a ++ z ∷ b) ≡ flat_map spell_table_row a ++ (spell_table_row z ++ flat_map spell_table_row b)
  each z = flat_map-append spell_table_row a (z ∷ b)

  size : (z : TableRow) → length (flat_map spell_table_row (a ++ z ∷ b)) ≡ length (flat_map spell_table_row a) + (length (spell_table_row z) + length (flat_map spell_table_row b))
  size z = omega (arith, ap length (each z), length-append (flat_map spell_table_row a) (spell_table_row z ++ flat_map spell_table_row b), length-append (spell_table_row z) (flat_map spell_table_row b))

  whole : (n k : ℕ) (z : TableRow) → (spell_16 n ++ flat_map spell_table_row (a ++ z ∷ b)) ++ replicate k 0
      ≡ ((spell_16 n ++ flat_map spell_table_row a) ++ spell_16 z.table) ++ (spell_values z.row ++ (flat_map spell_table_row b ++ replicate k 0))
  whole n k z = ap (λ (l : List ℕ). (spell_16 n ++ l) ++ replicate k 0) (each z) ∙ regroup (spell_16 n) (flat_map spell_table_row a) (spell_16 z.table) (spell_values z.row) (flat_map spell_table_row b) (replicate k 0)
    where
      regroup : (c d e f g h : List ℕ) → (c ++ (d ++ ((e ++ f) ++ g))) ++ h ≡ ((c ++ d) ++ e) ++ (f ++ (g ++ h))
      regroup c d e f g h = simp append_assoc

  module _ (x : TableRow) (row : List Value) (same : length (spell_values row) ≡ length (spell_values x.row)) where
    same_size : length (spell_table_row (row_of x.table row)) ≡ length (spell_table_row x)
    same_size = omega (arith, same)

    count : length (a ++ x ∷ b) ≡ length (a ++ row_of x.table row ∷ b)
    count = omega (arith, length-append a (x ∷ b), length-append a (row_of x.table row ∷ b))

    front : length (page_front (a ++ x ∷ b)) ≡ length (page_front (a ++ row_of x.table row ∷ b))
    front = omega (arith, size x, size (row_of x.table row), same_size)

    written : (bytes places : List ℕ) (free : ℕ) → IsSpelled bytes places free (a ++ x ∷ b) → IsSpellableRow true row → (new : List ℕ) (at : ℕ) → at ≡ 2 + length (flat_map spell_table_row a) + 2 → new ≡ filled bytes at (spell_values row)
        → IsSpelled new places free (a ++ row_of x.table row ∷ b)
    written bytes places free h good new at is put =
        let rows = a ++ x ∷ b in
        let n = length rows in
        let k = page_length - length (page_front rows) in
        let fa = flat_map spell_table_row a in
        let start = (spell_16 n ++ fa) ++ spell_16 x.table in
        let back = flat_map spell_table_row b ++ replicate k 0 in
        let place : length start ≡ at = omega (arith, is, length-append (spell_16 n ++ fa) (spell_16 x.table), length-append (spell_16 n) fa) in
        record {
          spelled =
              put ∙ ap (λ (l : List ℕ). filled l at (spell_values row)) (h.spelled ∙ whole n k x) ∙ put_between start (spell_values x.row) (spell_values row) back at place same
              ∙ sym (whole n k (row_of x.table row)) ∙ (λ i. (spell_16 (count i) ++ flat_map spell_table_row (a ++ row_of x.table row ∷ b)) ++ replicate (page_length - front i) 0);
          begins = h.begins ∙ same_places 2 a x (row_of x.table row) b same_size;
          ends = h.ends ∙ front;
          good = record {
            count = omega (arith, h.good.count, count);
            each = every_between (IsSpellableTableRow true) a x (row_of x.table row) b (record { table = (good_between (IsSpellableTableRow true) a x b h.good.each).table; row = good }) h.good.each;
            room = omega (arith, h.good.room, front);
          };
        }

-- A ROW OF A PAGE
module _ (bytes places : List ℕ) (free : ℕ) (rows : List TableRow) (h : IsSpelled bytes places free rows) (i : ℕ) (low : i < length rows) where
  abbrev t : Split rows i
  t = s bytes places free rows h i low

  place : get_or places i 0 ≡ 2 + length (flat_map spell_table_row t.front)
  place = place_is bytes places free rows h i low

  behind : get_or places (i + 1) free ≡ 2 + length (flat_map spell_table_row t.front) + length (spell_table_row t.row)
  behind = end_is bytes places free rows h i low

  module _ (r : TableRow) (e : slice_get rows i ≡ Some r) where
    own : t.row ≡ r
    own = at_split t.front t.row r t.back i t.place (sym (ap (λ (l : List TableRow). slice_get l i) t.is) ∙ e)

    -- how many bytes there are from its place to the one behind it
    pub taken_room : (end : ℕ) → end ≡ get_or places (i + 1) free → end - get_or places i 0 ≡ 2 + length (spell_values r.row)
    taken_room end to = omega (arith, to, place, behind, ap (λ (x : TableRow). length (spell_table_row x)) own)

    pub replaced : (row : List Value) → is_row_length (length row) ≡ true → Every IsValue row → length (spell_values row) ≡ length (spell_values r.row) → (new : List ℕ) → new ≡ filled bytes (get_or places i 0 + 2) (spell_values row)
        → IsSpelled new places free (set rows i (row_of r.table row))
    replaced row some all same new put =
        let is : rows ≡ t.front ++ r ∷ t.back = t.is ∙ ap (λ (x : TableRow). t.front ++ x ∷ t.back) own in
        let made : set rows i (row_of r.table row) ≡ t.front ++ row_of r.table row ∷ t.back =
        (λ j. set (is j) (sym t.place j) (row_of r.table row)) ∙ set-append_seam t.front r t.back (row_of r.table row) in
        subst (IsSpelled new places free) (sym made)
        (written t.front t.back r row same bytes places free (subst (IsSpelled bytes places free) is h) (some, each_spellable row all) new (get_or places i 0 + 2) (omega (arith, place)) put)

  module _ (row : List Value) (room end : ℕ) (is : room ≡ 2 + length (spell_values row)) (to : end ≡ get_or places (i + 1) free) where
    pub as_many_bytes : end - get_or places i 0 ≡ room → (r : TableRow) → slice_get rows i ≡ Some r → length (spell_values row) ≡ length (spell_values r.row)
    as_many_bytes same r e = omega (arith, same, is, taken_room r e end to)

    pub same_room : end - get_or places i 0 ≡ room → (r : TableRow) → slice_get rows i ≡ Some r → true ≡ (length (spell_values r.row) == length (spell_values row))
    same_room same r e = by (length (spell_values r.row)) (length (spell_values row)) (sym (as_many_bytes same r e))
      where
        by : (m n : ℕ) → m ≡ n → true ≡ (m == n)
        by m n h = grind (arith, h)

    pub other_room : (end - get_or places i 0 ≡ room → ⊥) → (r : TableRow) → slice_get rows i ≡ Some r → false ≡ (length (spell_values r.row) == length (spell_values row))
    other_room other r e = by (length (spell_values r.row)) (length (spell_values row)) (λ same. other (taken_room r e end to ∙ ap (λ (n : ℕ). 2 + n) same ∙ sym is))
      where
        by : (m n : ℕ) → (m ≡ n → ⊥) → false ≡ (m == n)
        by m n h = grind (arith, h)

    -- the row fits between them
    pub within_row : end - get_or places i 0 ≡ room → (seen : List ℕ) → seen ≡ bytes → get_or places i 0 + 2 + length (spell_values row) ≤ length seen
    within_row same seen is_seen =
        let r = some_at rows i low in
        omega (arith, ap length is_seen, as_many_bytes same r.0 r.1, place_within bytes places free rows h i r.0 r.1)

-- the same of what was seen of the page and of the row
pub seen_so : (new : List ℕ) (seen places : List ℕ) (free : ℕ) (rows : List TableRow) (i table : ℕ) (given row : List Value) → seen ≡ places → given ≡ row → IsSpelled new seen free (set rows i (row_of table given)) → IsSpelled new places free (set rows i (row_of table row))
seen_so new seen places free rows i table given row same is h =
    subst (λ (p : List ℕ). IsSpelled new p free (set rows i (row_of table row))) same (subst (λ (v : List Value). IsSpelled new seen free (set rows i (row_of table v))) is h)

-- the tag of the row that is written, as its first value says it
pub tags_replaced : (rows : List TableRow) (i table : ℕ) (row seen : List Value) (d : Value) (tags : List ℕ) (tag : ℕ) → is_row_length (length row) ≡ true → seen ≡ row → tag ≡ tag_of (get_or seen 0 d) → tags ≡ tags_of rows
    → set tags i tag ≡ tags_of (set rows i (row_of table row))
tags_replaced rows i table row seen d tags tag some same says are =
    let here : tag ≡ tag_of (key_of row) = says ∙ ap (λ (l : List Value). tag_of (get_or l 0 d)) same ∙ ap tag_of (first_value row d (some_values row some)) in
    (λ j. set (are j) i (here j)) ∙ sym (map-set row_tag rows i (row_of table row))
