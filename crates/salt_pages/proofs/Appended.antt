-- A page with one row more, as it was spelled already.
use Rattle.salt_bytes.proofs.Only.{behind, pair_only}
use Rattle.salt_bytes.proofs.Values.{takes_value}
use Rattle.salt_bytes.specs.Numbers.{spell_16}
use Rattle.salt_bytes.specs.Page.{TableRow, page_length, spell_table_row, take_table_row}
use Rattle.salt_bytes.specs.Spellable.{AreBytes, IsSpellableTableRow}
use Rattle.salt_bytes.specs.Values.{spell_value, take_value}
use Rattle.salt_pages.proofs.Found.{good_key, row_key, row_long}
use Rattle.salt_pages.proofs.Inserted.{inserted}
use Rattle.salt_pages.proofs.Kept.{took_row}
use Rattle.salt_pages.proofs.Tagged.{last, shorter}
use Rattle.salt_pages.proofs.Taken.{drop_to_end}
use Rattle.salt_pages.specs.Filling.{filled}
use Rattle.salt_pages.specs.Pages.{IsSpelled}
use Rattle.salt_pages.specs.Tags.{row_tag, tag_of}
use Rattle.salt_values.specs.Value.{key_of}
use Rattle.salt_values.specs.declared.value.Value.{Value}
use Rattle.std.proofs.Common.{List, None, Option, Some, [], ap, arith, drop, get_or, length, length-append, subst, sym, take, true, ℕ, ◌+◌, ◌++◌, ◌-◌, ◌≡◌, ◌≤◌, ◌∙◌, ◌∷◌}
use Rattle.std.proofs.lemmas.List.{append-nil, take-append-drop}

-- A ROW'S TAG, where its key is spelled behind its table's number and how many values it has

module _ (bytes : List ℕ) (small : AreBytes bytes) (long : 3 ≤ length bytes) where
  abbrev key : List ℕ
  key = take (length bytes - 3) (drop 3 bytes)

  whole : key ≡ drop 3 bytes
  whole = drop_to_end 3 bytes long

  small_key : AreBytes key
  small_key = subst AreBytes (sym whole) (behind (take 3 bytes) (drop 3 bytes) (subst AreBytes (sym (take-append-drop 3 bytes)) small))

  pub key_longer : (v : Value) (back : List ℕ) → take_value true key ≡ Some (v, back) → length back + 1 ≤ length key
  key_longer v back taken = shorter true key small_key v back taken

  module _ (r : TableRow) (taken : take_table_row true bytes ≡ Some (r, [])) where
    good : IsSpellableTableRow true r
    good = (took_row true bytes small r [] taken).good

    tail : (t : List ℕ) × (key ≡ spell_value (key_of r.row) ++ t)
    tail =
        let t = row_key r [] good in
        (t.0, whole ∙ ap (drop 3) (took_row true bytes small r [] taken).spelled ∙ t.1)

    there : take_value true key ≡ Some (key_of r.row, tail.0)
    there = ap (take_value true) tail.1 ∙ (takes_value true (key_of r.row) (good_key r.row good.row)).taken tail.0

    pub key_there : (v : Value) (back : List ℕ) → take_value true key ≡ Some (v, back) → v ≡ key_of r.row
    key_there v back found = (pair_only v (key_of r.row) back tail.0 (sym found ∙ there)).0

    pub tag_there : (v : Value) (back : List ℕ) → take_value true key ≡ Some (v, back) → get_or key (length key - length back - 1) 0 ≡ row_tag r
    tag_there v back found = last true key small_key v back found ∙ ap tag_of (key_there v back found)

    pub no_tag : take_value true key ≡ None → 0 ≡ row_tag r
    no_tag none = absurd (never (sym none ∙ there))
      where
        never : ◌≡◌ {A = Option (Value × List ℕ)} None (Some (key_of r.row, tail.0)) → ⊥
        never e = cc

-- THE ROW BEHIND THE OTHERS

module _ (bytes : List ℕ) (small : AreBytes bytes) (r : TableRow) (taken : take_table_row true bytes ≡ Some (r, [])) where
  is : bytes ≡ spell_table_row r
  is = (took_row true bytes small r [] taken).spelled ∙ append-nil (spell_table_row r)

  pub some_room : 3 ≤ length bytes
  some_room = omega (arith, ap length is, row_long r)

  pub appended : (old places : List ℕ) (free : ℕ) (rows : List TableRow) → IsSpelled old places free rows → length bytes ≤ page_length - free → (new more : List ℕ) (count : ℕ)
      → count ≡ length more → new ≡ filled (filled old free bytes) 0 (spell_16 count) → more ≡ places ++ free ∷ [] → IsSpelled new more (free + length bytes) (rows ++ r ∷ [])
  appended old places free rows h fits new more count number put placed =
      let size : free + length (spell_table_row r) ≡ free + length bytes = omega (arith, ap length is) in
      subst (λ (n : ℕ). IsSpelled new more n (rows ++ r ∷ [])) size
      (inserted old places free rows h r (omega (arith, fits, size, h.ends, h.good.room)) new more count (took_row true bytes small r [] taken).good (omega (arith, number, ap length placed, length-append places (free ∷ [])))
      (put ∙ ap (λ (l : List ℕ). filled (filled old free l) 0 (spell_16 count)) is) placed)
