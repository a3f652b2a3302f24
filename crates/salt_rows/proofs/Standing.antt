-- The pages of a store behind a page that got a frame, one that is marked, a new one, and a flush.
use Rattle.salt_bytes.specs.Page.{TableRow, rows_in_page, spell_page}
use Rattle.salt_bytes.specs.Spellable.{Every}
use Rattle.salt_checkpoint.specs.Sides.{side_bytes}
use Rattle.salt_pool.proofs.Seen.{frame_own, goes_clean, is_dirty_put}
use Rattle.salt_pool.specs.Dirtied.{is_dirty, put_dirty}
use Rattle.salt_pool.specs.Flushing.{AreOnSides, AreSpelledBack, IsSpelledBack, SameSides, bytes_in, bytes_of}
use Rattle.salt_pool.specs.Pools.{IsPool, with_frame}
use Rattle.salt_pool.specs.declared.places.Dirty.{Dirty}
use Rattle.salt_directory.proofs.PageAt.{page_end, page_is, page_same}
use Rattle.salt_rows.proofs.Pool.{every_both, frame_other, the_dirty}
use Rattle.salt_rows.specs.Frames.{Frames}
use Rattle.salt_rows.specs.Sides.{ArePages, spare_side}
use Rattle.salt_rows.specs.Stores.{IsSide, IsSpare}
use Rattle.salt_stands.specs.Partition.{page_at}
use Rattle.std.proofs.Common.{Bool, List, None, Option, Some, [], ap, arith, cond, false, get_or, inl, inr, is_some, length, nat_eq, refl, set, subst, suc, sym, true, zero, ℕ, ◌++◌, ◌-◌, ◌||◌, ◌<◌, ◌≡◌, ◌≤◌, ◌⊎◌, ◌∙◌, ◌∷◌}
use Rattle.std.proofs.lemmas.Bool.{cases_eq}
use Rattle.std.proofs.lemmas.Bool.Decides.{Decides-eqb}
use Rattle.std.proofs.lemmas.List.{get_or-set_other, get_or-set_same, get_or_append_left, get_or_push, length-set, length_push}
use Rattle.std.specs.Map.{lookup}
use Rattle.std.specs.Prelude.{nat_lt}

some_same : {A : Type 0} (x y : A) → Some x ≡ Some y → x ≡ y
some_same x y e = cc

pub other_false : (a b : ℕ) → (a ≡ b → ⊥) → nat_eq a b ≡ false
other_false a b apart = by (nat_eq a b) refl
  where
    by : (c : Bool) → nat_eq a b ≡ c → nat_eq a b ≡ false
    by true e = absurd (apart ((Decides-eqb a b).0 e))
    by false e = e

pub false_other : (a b : ℕ) → nat_eq a b ≡ false → a ≡ b → ⊥
false_other a b e same = clash (sym ((Decides-eqb a b).1 same) ∙ e)
  where
    clash : true ≡ false → ⊥
    clash e = cc

pub neither : (a b : Bool) → (a || b) ≡ false → (a ≡ false) × (b ≡ false)
neither true b h = cc
neither false b h = (refl, h)

-- SIDES

pub side_low : (sides : List ℕ) (page : ℕ) → Every IsSide sides → get_or sides page 0 ≤ 1
side_low [] page are = omega arith
side_low (s ∷ sides) zero are = are.0
side_low (s ∷ sides) (suc page) are = side_low sides page are.1

pub sides_set : (sides : List ℕ) (page side : ℕ) → Every IsSide sides → side ≤ 1 → Every IsSide (set sides page side)
sides_set [] page side are low = tt
sides_set (s ∷ sides) zero side are low = (low, are.1)
sides_set (s ∷ sides) (suc page) side are low = (are.0, sides_set sides page side are.1 low)

pub sides_push : (sides : List ℕ) (side : ℕ) → Every IsSide sides → side ≤ 1 → Every IsSide (sides ++ side ∷ [])
sides_push [] side are low = (low, tt)
sides_push (s ∷ sides) side are low = (are.0, sides_push sides side are.1 low)

pub spare_low : (named : List ℕ) (page : ℕ) → spare_side named page ≤ 1
spare_low named page = by (nat_lt page (length named))
  where
    by : (b : Bool) → cond b (1 - get_or named page 0) 0 ≤ 1
    by true = omega arith
    by false = omega arith

-- the pages to be written are spare still, where one more is
pub spare_set : (named sides : List ℕ) (page : ℕ) (ds : List Dirty) → page < length sides → Every (IsSpare named sides) ds → Every (IsSpare named (set sides page (spare_side named page))) ds
spare_set named sides page [] low are = tt
spare_set named sides page (d ∷ ds) low are = ((omega (arith, are.0.0, length-set sides page (spare_side named page)), are.0.1, by (cases_eq d.page page)), spare_set named sides page ds low are.1)
  where
    by : (d.page ≡ page) ⊎ (d.page ≡ page → ⊥) → get_or (set sides page (spare_side named page)) d.page 0 ≡ d.side
    by (inl same) = ap (λ q. get_or (set sides page (spare_side named page)) q 0) same ∙ get_or-set_same sides page (spare_side named page) 0 low ∙ ap (spare_side named) (sym same) ∙ sym are.0.1
    by (inr other) = get_or-set_other sides page d.page (spare_side named page) 0 other ∙ are.0.2

pub spare_push : (named sides : List ℕ) (side : ℕ) (ds : List Dirty) → Every (IsSpare named sides) ds → Every (IsSpare named (sides ++ side ∷ [])) ds
spare_push named sides side [] are = tt
spare_push named sides side (d ∷ ds) are = ((omega (arith, are.0.0, length_push sides side), are.0.1, get_or_append_left sides (side ∷ []) 0 d.page are.0.0 ∙ are.0.2), spare_push named sides side ds are.1)

-- PAGES

module _ (bytes : List ℕ) (x : Frames) (pool : IsPool x) (ds : List Dirty) (sides : List ℕ) (pages : List (List TableRow)) (are : ArePages bytes x.frames.entries ds sides pages) where
  -- a page got a frame, with its rows
  pub pages_framed : (page : ℕ) (rows : List TableRow) → rows ≡ get_or pages page [] → ArePages bytes (with_frame x page rows).frames.entries ds sides pages
  pages_framed page rows own = record { count = are.count; framed = framed; stand = are.stand }
    where
      framed : (q : ℕ) (shown : List TableRow) → q < length sides → lookup (nat_eq q) (with_frame x page rows).frames.entries ≡ Some shown → shown ≡ get_or pages q []
      framed q shown low is = by (cases_eq q page)
        where
          by : (q ≡ page) ⊎ (q ≡ page → ⊥) → shown ≡ get_or pages q []
          by (inl same) = some_same shown rows (sym is ∙ ap (λ n. lookup (nat_eq n) (with_frame x page rows).frames.entries) same ∙ frame_own x page rows) ∙ own ∙ ap (λ n. get_or pages n []) (sym same)
          by (inr other) = are.framed q shown low (frame_other x page rows q shown pool other is)

  -- it has other rows, and is to be written
  pub pages_marked : (page side : ℕ) (rows : List TableRow) → page < length sides → ArePages bytes (with_frame x page rows).frames.entries (put_dirty (record { page = page; side = side }) ds) (set sides page side) (set pages page rows)
  pages_marked page side rows within = record {
    count = length-set pages page rows ∙ are.count ∙ sym (length-set sides page side);
    framed = framed;
    stand = stand;
  }
    where
      here : page < length pages
      here = omega (arith, within, are.count)

      framed : (q : ℕ) (shown : List TableRow) → q < length (set sides page side) → lookup (nat_eq q) (with_frame x page rows).frames.entries ≡ Some shown → shown ≡ get_or (set pages page rows) q []
      framed q shown low is = by (cases_eq q page)
        where
          by : (q ≡ page) ⊎ (q ≡ page → ⊥) → shown ≡ get_or (set pages page rows) q []
          by (inl same) =
              some_same shown rows (sym is ∙ ap (λ n. lookup (nat_eq n) (with_frame x page rows).frames.entries) same ∙ frame_own x page rows)
              ∙ sym (get_or-set_same pages page rows [] here) ∙ ap (λ n. get_or (set pages page rows) n []) (sym same)
          by (inr other) = are.framed q shown (omega (arith, low, length-set sides page side)) (frame_other x page rows q shown pool other is) ∙ sym (get_or-set_other pages page q rows [] other)

      stand : (q : ℕ) → q < length (set sides page side) → is_dirty (put_dirty (record { page = page; side = side }) ds) q ≡ false → page_at true bytes q (get_or (set sides page side) q 0) ≡ Some (get_or (set pages page rows) q [])
      stand q low clean =
          let parts = neither (nat_eq page q) (is_dirty ds q) (sym (is_dirty_put (record { page = page; side = side }) ds q) ∙ clean) in
          let other : q ≡ page → ⊥ = λ same. false_other page q parts.0 (sym same) in
          ap (λ s. page_at true bytes q s) (get_or-set_other sides page q side 0 other)
          ∙ are.stand q (omega (arith, low, length-set sides page side)) parts.1
          ∙ ap (λ (rs : List TableRow). Some rs) (sym (get_or-set_other pages page q rows [] other))

  -- a new page
  pub pages_fresh : (side : ℕ) (rows : List TableRow) → ArePages bytes (with_frame x (length sides) rows).frames.entries (put_dirty (record { page = length sides; side = side }) ds) (sides ++ side ∷ []) (pages ++ rows ∷ [])
  pages_fresh side rows = record {
    count = omega (arith, length_push pages rows, length_push sides side, are.count);
    framed = framed;
    stand = stand;
  }
    where
      last : get_or (pages ++ rows ∷ []) (length sides) [] ≡ rows
      last = get_or_push pages rows [] (length sides) are.count

      earlier : (q : ℕ) → q < length (sides ++ side ∷ []) → (q ≡ length sides → ⊥) → q < length sides
      earlier q low other = omega (arith, low, length_push sides side, other)

      framed : (q : ℕ) (shown : List TableRow) → q < length (sides ++ side ∷ []) → lookup (nat_eq q) (with_frame x (length sides) rows).frames.entries ≡ Some shown → shown ≡ get_or (pages ++ rows ∷ []) q []
      framed q shown low is = by (cases_eq q (length sides))
        where
          by : (q ≡ length sides) ⊎ (q ≡ length sides → ⊥) → shown ≡ get_or (pages ++ rows ∷ []) q []
          by (inl same) =
              some_same shown rows (sym is ∙ ap (λ n. lookup (nat_eq n) (with_frame x (length sides) rows).frames.entries) same ∙ frame_own x (length sides) rows)
              ∙ sym last ∙ ap (λ n. get_or (pages ++ rows ∷ []) n []) (sym same)
          by (inr other) =
              let within = earlier q low other in
              are.framed q shown within (frame_other x (length sides) rows q shown pool other is) ∙ sym (get_or_append_left pages (rows ∷ []) [] q (omega (arith, within, are.count)))

      stand : (q : ℕ) → q < length (sides ++ side ∷ []) → is_dirty (put_dirty (record { page = length sides; side = side }) ds) q ≡ false → page_at true bytes q (get_or (sides ++ side ∷ []) q 0) ≡ Some (get_or (pages ++ rows ∷ []) q [])
      stand q low clean =
          let parts = neither (nat_eq (length sides) q) (is_dirty ds q) (sym (is_dirty_put (record { page = length sides; side = side }) ds q) ∙ clean) in
          let within = earlier q low (λ same. false_other (length sides) q parts.0 (sym same)) in
          ap (λ s. page_at true bytes q s) (get_or_append_left sides (side ∷ []) 0 q within)
          ∙ are.stand q within parts.1
          ∙ ap (λ (rs : List TableRow). Some rs) (sym (get_or_append_left pages (rows ∷ []) [] q (omega (arith, within, are.count))))

  -- all are written
  pub pages_flushed : (named : List ℕ) (new : List ℕ) → Every IsSide sides → Every (IsSpare named sides) ds → SameSides (length bytes) ds bytes new → AreOnSides spell_page x.frames.entries ds new
      → AreSpelledBack spell_page (rows_in_page true) x.frames.entries ds → ((q : ℕ) → is_dirty ds q ≡ true → is_some (lookup (nat_eq q) x.frames.entries) ≡ true) → ArePages new x.frames.entries [] sides pages
  pages_flushed named new low spare same on back has = record { count = are.count; framed = are.framed; stand = λ q within clean. by q within (is_dirty ds q) refl }
    where
      written : (q : ℕ) → q < length sides → (d : Dirty) → d.page ≡ q → IsSpare named sides d → side_bytes new d.page d.side ≡ bytes_in spell_page x.frames.entries d.page
          → IsSpelledBack spell_page (rows_in_page true) (lookup (nat_eq d.page) x.frames.entries) → (o : Option (List TableRow)) → lookup (nat_eq q) x.frames.entries ≡ o → is_some o ≡ true → page_at true new q (get_or sides q 0) ≡ Some (get_or pages q [])
      written q within d at spared stands spelled None is some = cc
      written q within d at spared stands spelled (Some own) is some =
          let framed : lookup (nat_eq d.page) x.frames.entries ≡ Some own = ap (λ n. lookup (nat_eq n) x.frames.entries) at ∙ is in
          let side : get_or sides q 0 ≡ d.side = ap (λ n. get_or sides n 0) (sym at) ∙ spared.2 in
          let both = subst (IsSpelledBack spell_page (rows_in_page true)) framed spelled in
          let there : side_bytes new q (get_or sides q 0) ≡ spell_page own = (λ i. side_bytes new (sym at i) (side i)) ∙ stands ∙ ap (bytes_of spell_page) framed in
          page_is true new q (get_or sides q 0) (ap (λ (l : List ℕ). length l) there ∙ both.0)
          ∙ ap (rows_in_page true) there ∙ both.1 ∙ ap (λ (rs : List TableRow). Some rs) (are.framed q own within is)

      by : (q : ℕ) → q < length sides → (b : Bool) → is_dirty ds q ≡ b → page_at true new q (get_or sides q 0) ≡ Some (get_or pages q [])
      by q within false is =
          let side = get_or sides q 0 in
          let before = are.stand q within is in
          page_same true bytes new q side (same.each q side (side_low sides q low) (page_end true bytes q side (get_or pages q []) before) (goes_clean q side ds is)) ∙ before
      by q within true is =
          let all = every_both (IsSpare named sides) (λ d. (side_bytes new d.page d.side ≡ bytes_in spell_page x.frames.entries d.page) × IsSpelledBack spell_page (rows_in_page true) (lookup (nat_eq d.page) x.frames.entries)) ds spare
          (every_both (λ d. side_bytes new d.page d.side ≡ bytes_in spell_page x.frames.entries d.page) (λ d. IsSpelledBack spell_page (rows_in_page true) (lookup (nat_eq d.page) x.frames.entries)) ds on back) in
          let the = the_dirty (λ d. IsSpare named sides d × ((side_bytes new d.page d.side ≡ bytes_in spell_page x.frames.entries d.page) × IsSpelledBack spell_page (rows_in_page true) (lookup (nat_eq d.page) x.frames.entries))) ds q all is in
          written q within the.0 the.1 the.2.0 the.2.1.0 the.2.1.1 (lookup (nat_eq q) x.frames.entries) refl (has q is)
