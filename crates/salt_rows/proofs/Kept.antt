-- What is kept of pages in memory goes on over calls.
use Rattle.salt_bytes.specs.Page.{TableRow, page_length, page_place}
use Rattle.salt_bytes.specs.Spellable.{Every}
use Rattle.salt_model.specs.declared.places.Place.{Place}
use Rattle.salt_pool.proofs.Near.{behind_each, behind_later}
use Rattle.salt_pool.proofs.Seen.{every_put, is_dirty_put}
use Rattle.salt_pool.specs.Dirtied.{is_dirty, put_dirty}
use Rattle.salt_pool.specs.Flushing.{length_behind, place_of}
use Rattle.salt_pool.specs.Pools.{IsPool, flushed, with_dirty, with_frame}
use Rattle.salt_pool.specs.declared.places.Dirty.{Dirty}
use Rattle.salt_rows.proofs.Pool.{every_both, frame_other, the_dirty}
use Rattle.salt_rows.proofs.Standing.{false_other, neither, sides_push, sides_set, spare_low, spare_push, spare_set}
use Rattle.salt_directory.specs.Directories.{HasPagesBelow}
use Rattle.salt_rows.specs.Sides.{spare_side}
use Rattle.salt_rows.specs.Frames.{Frames}
use Rattle.salt_rows.specs.Stores.{AreKept, IsSpare}
use Rattle.std.proofs.Common.{Bool, List, None, Option, Some, [], ap, arith, cond, false, get_or, length, nat_eq, refl, set, subst, sym, true, ℕ, ◌+◌, ◌++◌, ◌-◌, ◌<◌, ◌≡◌, ◌≤◌, ◌∙◌, ◌∷◌}
use Rattle.std.proofs.lemmas.Bool.Decides.{nat_tests}
use Rattle.std.proofs.lemmas.List.{get_or-set_other, get_or-set_same, get_or_append_left, get_or_push, length-set, length_push}
use Rattle.std.specs.Map.{lookup}
use Rattle.std.specs.Prelude.{nat_lt}

none_some : (rows : List TableRow) → None ≡ Some rows → ⊥
none_some rows e = cc

-- no frame is of a page beyond, where one of a page below came
beyond_framed : (x : Frames) (n page : ℕ) (rows : List TableRow) → IsPool x → page < n → ((q : ℕ) → n ≤ q → lookup (nat_eq q) x.frames.entries ≡ None) → (q : ℕ) → n ≤ q → lookup (nat_eq q) (with_frame x page rows).frames.entries ≡ None
beyond_framed x n page rows pool low beyond q high = by (lookup (nat_eq q) (with_frame x page rows).frames.entries) refl
  where
    by : (o : Option (List TableRow)) → lookup (nat_eq q) (with_frame x page rows).frames.entries ≡ o → lookup (nat_eq q) (with_frame x page rows).frames.entries ≡ None
    by None e = e
    by (Some own) e = absurd (none_some own (sym (beyond q high) ∙ frame_other x page rows q own pool (λ same. omega (arith, same, high, low)) e))

module _ (x : Frames) (named sides space : List ℕ) (directory : List (Place × ℕ)) (is : AreKept x named sides space directory) where
  -- a page got a frame
  pub kept_framed : (page : ℕ) (rows : List TableRow) → page < length sides → IsPool (with_frame x page rows) → AreKept (with_frame x page rows) named sides space directory
  kept_framed page rows low pool = record {
    is_pool = pool;
    codec = is.codec;
    named_low = is.named_low;
    sides_low = is.sides_low;
    listed = is.listed;
    counted = is.counted;
    spare = is.spare;
    beyond = beyond_framed x (length sides) page rows is.is_pool low is.beyond;
    pointed = is.pointed;
    named_end = is.named_end;
    side_end = is.side_end;
  }

  -- a page is to be written
  pub kept_marked : (page free : ℕ) → page < length sides → IsPool (with_dirty x (record { page = page; side = spare_side named page }))
      → AreKept (with_dirty x (record { page = page; side = spare_side named page })) named (set sides page (spare_side named page)) (set space page free) directory
  kept_marked page free low pool = record {
    is_pool = pool;
    codec = is.codec;
    named_low = is.named_low;
    sides_low = sides_set sides page (spare_side named page) is.sides_low (spare_low named page);
    listed = omega (arith, is.listed, length-set sides page (spare_side named page));
    counted = omega (arith, is.counted, length-set space page free, length-set sides page (spare_side named page));
    spare = every_put (IsSpare named (set sides page (spare_side named page))) (record { page = page; side = spare_side named page }) x.dirty.items own (spare_set named sides page x.dirty.items low is.spare);
    beyond = λ q high. is.beyond q (omega (arith, high, length-set sides page (spare_side named page)));
    pointed = λ q p found. omega (arith, is.pointed q p found, length-set sides page (spare_side named page));
    named_end = is.named_end;
    side_end = side_end;
  }
    where
      own : IsSpare named (set sides page (spare_side named page)) (record { page = page; side = spare_side named page })
      own = (omega (arith, low, length-set sides page (spare_side named page)), refl, get_or-set_same sides page (spare_side named page) 0 low)

      side_end : (q : ℕ) → q < length (set sides page (spare_side named page)) → is_dirty (put_dirty (record { page = page; side = spare_side named page }) x.dirty.items) q ≡ false → page_place q (get_or (set sides page (spare_side named page)) q 0) + page_length ≤ x.len
      side_end q within clean =
          let parts = neither (nat_eq page q) (is_dirty x.dirty.items q) (sym (is_dirty_put (record { page = page; side = spare_side named page }) x.dirty.items q) ∙ clean) in
          let other : q ≡ page → ⊥ = λ same. false_other page q parts.0 (sym same) in
          subst (λ s. page_place q s + page_length ≤ x.len) (sym (get_or-set_other sides page q (spare_side named page) 0 other)) (is.side_end q (omega (arith, within, length-set sides page (spare_side named page))) parts.1)

  -- a new page
  pub kept_fresh : (rows : List TableRow) (free : ℕ) → IsPool (with_dirty (with_frame x (length sides) rows) (record { page = length sides; side = 0 }))
      → AreKept (with_dirty (with_frame x (length sides) rows) (record { page = length sides; side = 0 })) named (sides ++ 0 ∷ []) (space ++ free ∷ []) directory
  kept_fresh rows free pool = record {
    is_pool = pool;
    codec = is.codec;
    named_low = is.named_low;
    sides_low = sides_push sides 0 is.sides_low (omega arith);
    listed = omega (arith, is.listed, length_push sides 0);
    counted = omega (arith, is.counted, length_push space free, length_push sides 0);
    spare = every_put (IsSpare named (sides ++ 0 ∷ [])) (record { page = length sides; side = 0 }) x.dirty.items own (spare_push named sides 0 x.dirty.items is.spare);
    beyond = λ q high. beyond_framed x (length sides + 1) (length sides) rows is.is_pool (omega arith) (λ p above. is.beyond p (omega (arith, above))) q (omega (arith, high, length_push sides 0));
    pointed = λ q p found. omega (arith, is.pointed q p found, length_push sides 0);
    named_end = is.named_end;
    side_end = side_end;
  }
    where
      unlisted : 0 ≡ spare_side named (length sides)
      unlisted = sym (ap (λ b. cond b (1 - get_or named (length sides) 0) 0) not_below)
        where
          not_below : nat_lt (length sides) (length named) ≡ false
          not_below = let listed = is.listed in grind (arith, nat_tests, listed)

      own : IsSpare named (sides ++ 0 ∷ []) (record { page = length sides; side = 0 })
      own = (omega (arith, length_push sides 0), unlisted, get_or_push sides 0 0 (length sides) refl)

      side_end : (q : ℕ) → q < length (sides ++ 0 ∷ []) → is_dirty (put_dirty (record { page = length sides; side = 0 }) x.dirty.items) q ≡ false → page_place q (get_or (sides ++ 0 ∷ []) q 0) + page_length ≤ x.len
      side_end q within clean =
          let parts = neither (nat_eq (length sides) q) (is_dirty x.dirty.items q) (sym (is_dirty_put (record { page = length sides; side = 0 }) x.dirty.items q) ∙ clean) in
          let other : q ≡ length sides → ⊥ = λ same. false_other (length sides) q parts.0 (sym same) in
          let low : q < length sides = omega (arith, within, length_push sides 0, other) in
          subst (λ s. page_place q s + page_length ≤ x.len) (sym (get_or_append_left sides (0 ∷ []) 0 q low)) (is.side_end q low parts.1)

  -- all are written
  pub kept_flushed : IsPool (flushed x) → AreKept (flushed x) named sides space directory
  kept_flushed pool = record {
    is_pool = pool;
    codec = is.codec;
    named_low = is.named_low;
    sides_low = is.sides_low;
    listed = is.listed;
    counted = is.counted;
    spare = tt;
    beyond = is.beyond;
    pointed = is.pointed;
    named_end = λ page low. omega (arith, is.named_end page low, behind_later x.len x.dirty.items);
    side_end = λ q low clean. by q low (is_dirty x.dirty.items q) refl;
  }
    where
      by : (q : ℕ) → q < length sides → (b : Bool) → is_dirty x.dirty.items q ≡ b → page_place q (get_or sides q 0) + page_length ≤ length_behind x.len x.dirty.items
      by q low false clean = omega (arith, is.side_end q low clean, behind_later x.len x.dirty.items)
      by q low true dirty =
          let all = every_both (IsSpare named sides) (λ d. place_of d + page_length ≤ length_behind x.len x.dirty.items) x.dirty.items is.spare (behind_each x.len x.dirty.items) in
          let the = the_dirty (λ d. IsSpare named sides d × (place_of d + page_length ≤ length_behind x.len x.dirty.items)) x.dirty.items q all dirty in
          let side : get_or sides q 0 ≡ the.0.side = ap (λ n. get_or sides n 0) (sym the.1) ∙ the.2.0.2 in
          let at : page_place q (get_or sides q 0) ≡ place_of the.0 = λ i. page_place (sym the.1 i) (side i) in
          omega (arith, at, the.2.1)

-- a page more is pointed to
pub pointed_more : (directory : List (Place × ℕ)) (n m : ℕ) → n ≤ m → HasPagesBelow directory n → HasPagesBelow directory m
pointed_more directory n m less below q page found = omega (arith, below q page found, less)

-- where the directory alone has changed
pub kept_directory : (x : Frames) (named sides space : List ℕ) (before directory : List (Place × ℕ)) → AreKept x named sides space before → HasPagesBelow directory (length sides) → AreKept x named sides space directory
kept_directory x named sides space before directory is below = record {
  is_pool = is.is_pool;
  codec = is.codec;
  named_low = is.named_low;
  sides_low = is.sides_low;
  listed = is.listed;
  counted = is.counted;
  spare = is.spare;
  beyond = is.beyond;
  pointed = below;
  named_end = is.named_end;
  side_end = is.side_end;
}

-- a header names the sides now, where nothing is to be written
pub kept_named : (x : Frames) (named sides space : List ℕ) (directory : List (Place × ℕ)) → AreKept x named sides space directory → x.dirty.items ≡ [] → AreKept x sides sides space directory
kept_named x named sides space directory is clean = record {
  is_pool = is.is_pool;
  codec = is.codec;
  named_low = is.sides_low;
  sides_low = is.sides_low;
  listed = omega arith;
  counted = is.counted;
  spare = subst (Every (IsSpare sides sides)) (sym clean) tt;
  beyond = is.beyond;
  pointed = is.pointed;
  named_end = λ page low. is.side_end page low (ap (λ (ds : List Dirty). is_dirty ds page) clean);
  side_end = is.side_end;
}
