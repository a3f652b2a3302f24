-- Behind a flush each page is read on the side that it was written to; and how many pages rows can take.
use Rattle.salt_checkpoint.proofs.Named.{written_front}
use Rattle.salt_checkpoint.proofs.Torn.{length-written, side_same}
use Rattle.salt_checkpoint.specs.Sides.{LeaveNoGap, all_written, side_bytes}
use Rattle.salt_checkpoint.specs.declared.writes.Write.{Write}
use Rattle.salt_bytes.specs.Page.{TableRow, page_length, page_place, spell_page}
use Rattle.salt_bytes.specs.Spellable.{Every, IsSpellablePage}
use Rattle.salt_disk.specs.Disks.{written}
use Rattle.salt_stands.proofs.PageReads.{page_at_same, page_written}
use Rattle.salt_stands.specs.Partition.{page_at}
use Rattle.std.proofs.Common.{Bool, List, Some, [], ap, append_assoc, arith, drop, length, refl, subst, sym, take, ℕ, ◌*◌, ◌+◌, ◌++◌, ◌<◌, ◌≡◌, ◌≤◌, ◌⊎◌, ◌∙◌, ◌∷◌}
use Rattle.std.proofs.lemmas.List.{drop_at, length-take-le}
use Rattle.std.specs.Prelude.{⊤}

-- n bytes from there on are of another side, or of another page
abbrev pub IsElsewhere : (page side at n : ℕ) → Type 0
IsElsewhere page side at n = (page_place page side + page_length ≤ at) ⊎ (at + n ≤ page_place page side)

abbrev pub AreElsewhere : (page side : ℕ) → List Write → Type 0
AreElsewhere page side [] = ⊤
AreElsewhere page side (w ∷ ws) = IsElsewhere page side w.at (length w.bytes) × AreElsewhere page side ws

all_elsewhere : (page side : ℕ) (ws : List Write) (bytes : List ℕ) → LeaveNoGap (length bytes) ws → AreElsewhere page side ws → side_bytes (all_written ws bytes) page side ≡ side_bytes bytes page side
all_elsewhere page side [] bytes place away = refl
all_elsewhere page side (w ∷ ws) bytes place away =
    let front = written_front bytes w.at w.bytes place.0 in
    all_elsewhere page side ws (written bytes w.at w.bytes) (subst (λ (n : ℕ). LeaveNoGap n ws) (sym (length-written bytes w.at w.bytes place.0)) place.1) away.1
    ∙ side_same page side w.at (length w.bytes) bytes (written bytes w.at w.bytes) away.0 front.0 front.1

all_behind : (us vs : List Write) (bytes : List ℕ) → all_written (us ++ vs) bytes ≡ all_written vs (all_written us bytes)
all_behind [] vs bytes = refl
all_behind (u ∷ us) vs bytes = all_behind us vs (written bytes u.at u.bytes)

module _ (nulls : Bool) (page side : ℕ) (rows : List TableRow) (good : IsSpellablePage nulls rows) where
  written_read : (bytes : List ℕ) → page_place page side ≤ length bytes → page_at nulls (written bytes (page_place page side) (spell_page rows)) page side ≡ Some rows
  written_read bytes place =
      let at = page_place page side in
      let back = drop (at + length (spell_page rows)) bytes in
      page_written nulls (written bytes at (spell_page rows)) back page side rows good
      (ap (λ (l : List ℕ). drop at l) (append_assoc (take at bytes) (spell_page rows) back) ∙ drop_at (take at bytes) (spell_page rows ++ back) at (length-take-le at bytes place))

  -- what stands before its write does not matter, and what comes behind it is elsewhere
  pub flush_reads : (us vs : List Write) (w : Write) (bytes : List ℕ) → w.at ≡ page_place page side → w.bytes ≡ spell_page rows → page_place page side ≤ length (all_written us bytes)
      → LeaveNoGap (length (written (all_written us bytes) w.at w.bytes)) vs → AreElsewhere page side vs → page_at nulls (all_written (us ++ w ∷ vs) bytes) page side ≡ Some rows
  flush_reads us vs w bytes at is place behind away =
      let before = all_written us bytes in
      let now = written before w.at w.bytes in
      ap (λ b. page_at nulls b page side) (all_behind us (w ∷ vs) bytes)
      ∙ page_at_same nulls now (all_written vs now) page side (all_elsewhere page side vs now behind away)
      ∙ (λ i. page_at nulls (written before (at i) (is i)) page side)
      ∙ written_read before place

-- HOW MANY PAGES: where a row that takes at most 4,115 bytes fits on none of them
abbrev pub sum_of : List ℕ → ℕ
sum_of [] = 0
sum_of (n ∷ ns) = n + sum_of ns

pub few_pages : (size : ℕ) → size ≤ 4115 → (used : List ℕ) → Every (λ n. 8190 < n + size) used → 4076 * length used ≤ sum_of used
few_pages size small [] full = omega arith
few_pages size small (n ∷ used) full = omega (arith, small, full.0, few_pages size small used full.1)
