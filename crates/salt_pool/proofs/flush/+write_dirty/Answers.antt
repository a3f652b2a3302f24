use Rattle.salt_disk.proofs.CallAfterCall.{unless_down}
use Rattle.salt_pool.proofs.Left.{full_within, goes_split, keeps_before, keeps_none, keeps_on, left_before, left_on, left_same}
use Rattle.salt_pool.proofs.Writing.{cons_of, goes_above}
use Rattle.salt_pool.proofs.flush.+write_dirty.Goals as goal
use Rattle.salt_checkpoint.specs.Sides.{side_bytes}
use Rattle.salt_pool.specs.Dirtied.{AreSides, IsRisingFrom}
use Rattle.salt_pool.specs.Flushing.{AreFramed, AreNear, AreOnSides, AreSpelledBack, IsLeftBy, KeepsSides, bytes_in, end_of, length_behind, length_with, place_of}
use Rattle.salt_pool.specs.declared.places.Dirty.{Dirty}
use Rattle.salt_disk.specs.Disks.{FullOnly, UnlessDown}
use Rattle.salt_disk.specs.declared.disks.DiskErr.{DiskErr}
use Rattle.std.proofs.Common.{Err, Ok, Result, Some, [], ap, arith, drop, get_or, length, refl, rules, subst, suc, sym, take, ℕ, ◌+◌, ◌-◌, ◌<◌, ◌≡◌, ◌≤◌, ◌∙◌, ◌∷◌}
use Rattle.std.proofs.lemmas.Result.{err_from_is_err_and}
use Rattle.std.specs.Prelude.{IsTrue, OnOk}
use Rattle.std.specs.Result.{result_err}

both : {T : Type 0} (r : Result T DiskErr) (P Q R : Type 0) → (P → Q → R) → OnOk r P → UnlessDown (result_err r) Q → OnOk r R
both (Ok x) P Q R f p q = f p q
both (Err e) P Q R f p q = tt

later : {T : Type 0} (r : Result T DiskErr) (P Q : Type 0) → (P → Q) → OnOk r P → OnOk r Q
later (Ok x) P Q f h = f h
later (Err e) P Q f h = tt

pub write_dirty-requires : goal.write_dirty-requires
write_dirty-requires g t c =
    let ds = c.args.dirty.now in
    let zero : Dirty = record { page = 0; side = 0 } in
    let first = get_or ds 0 zero in
    let rest = take (length ds - 1) (drop 1 ds) in
    let cons : ds ≡ first ∷ rest = cons_of ds zero first c.in-len1-up.len_at_least refl in
    let one = c.in_ok-write_one-in-len1-up.ensures in
    let d1 = g.D.Disks.view c.write_one.new.disks in
    let sides : AreSides (first ∷ rest) = subst AreSides cons c.requires.sides in
    let rising : IsRisingFrom c.requires.rising.0 (first ∷ rest) = subst (IsRisingFrom c.requires.rising.0) cons c.requires.rising.1 in
    let near : AreNear c.args.len.now (first ∷ rest) = subst (AreNear c.args.len.now) cons c.requires.near in
    let framed : AreFramed c.args.frames.now.entries (first ∷ rest) = subst (AreFramed c.args.frames.now.entries) cons c.requires.framed in
    let known_then : c.args.dev < d1.count = omega (arith, c.requires.known, c.write_one.ensures.others.shape.count) in
    let length_then : IsTrue d1.told → c.write_one.new.len ≡ length (d1.bytes c.args.dev) = λ told. one.left.ends (sym c.write_one.ensures.others.shape.told ∙ told) in
    let sides_then : AreSides (take (length ds - 1) (drop 1 ds)) = sides.1 in
    let rising_then : (low : ℕ) × IsRisingFrom low (take (length ds - 1) (drop 1 ds)) = (suc first.page, rising.1) in
    let near_then : AreNear c.write_one.new.len (take (length ds - 1) (drop 1 ds)) = subst (λ n. AreNear n rest) (sym one.length) near.1 in
    let framed_then : AreFramed c.args.frames.now.entries (take (length ds - 1) (drop 1 ds)) = framed.1 in
    search rules

pub returns-in_ok-write_one-in-len1-up-clause-length : goal.returns-in_ok-write_one-in-len1-up-clause-length
returns-in_ok-write_one-in-len1-up-clause-length g t c =
    let ds = c.args.dirty.now in
    let zero : Dirty = record { page = 0; side = 0 } in
    let first = get_or ds 0 zero in
    let rest = take (length ds - 1) (drop 1 ds) in
    let cons : ds ≡ first ∷ rest = cons_of ds zero first c.in-len1-up.len_at_least refl in
    let len = c.args.len.now in
    let between = c.write_one.new.len in
    let now = c.write_dirty.new.len in
    later c.write_dirty.result (now ≡ length_behind between rest) (now ≡ length_behind len ds)
    (λ is. is ∙ ap (λ n. length_behind n rest) c.in_ok-write_one-in-len1-up.ensures.length ∙ ap (λ l. length_behind len l) (sym cons)) c.write_dirty.ensures.length

-- OF IMAGES

pub returns-in-empty-clause-images : goal.returns-in-empty-clause-images
returns-in-empty-clause-images g t c =
    let d0 = g.D.Disks.view c.args.disks.now in
    keeps_none c.args.len.now c.args.dirty.now d0 d0 c.args.dev (λ image left. left)

pub returns-in_err-write_one-in-len1-up-clause-images : goal.returns-in_err-write_one-in-len1-up-clause-images
returns-in_err-write_one-in-len1-up-clause-images g t c =
    let d0 = g.D.Disks.view c.args.disks.now in
    let d1 = g.D.Disks.view c.write_one.new.disks in
    let ds = c.args.dirty.now in
    let zero : Dirty = record { page = 0; side = 0 } in
    let first = get_or ds 0 zero in
    let rest = take (length ds - 1) (drop 1 ds) in
    let cons : ds ≡ first ∷ rest = cons_of ds zero first c.in-len1-up.len_at_least refl in
    let len = c.args.len.now in
    subst (λ l. KeepsSides len l d0 d1 c.args.dev) (sym cons) (keeps_before len (first ∷ []) (first ∷ rest) d0 d1 c.args.dev (λ page side clean. (goes_split first rest page side clean).0) c.write_one.ensures.images)

pub returns-in_ok-write_one-in-len1-up-clause-images : goal.returns-in_ok-write_one-in-len1-up-clause-images
returns-in_ok-write_one-in-len1-up-clause-images g t c =
    let d0 = g.D.Disks.view c.args.disks.now in
    let d1 = g.D.Disks.view c.write_one.new.disks in
    let d2 = g.D.Disks.view c.write_dirty.new.disks in
    let ds = c.args.dirty.now in
    let zero : Dirty = record { page = 0; side = 0 } in
    let first = get_or ds 0 zero in
    let rest = take (length ds - 1) (drop 1 ds) in
    let cons : ds ≡ first ∷ rest = cons_of ds zero first c.in-len1-up.len_at_least refl in
    let len = c.args.len.now in
    subst (λ l. KeepsSides len l d0 d2 c.args.dev) (sym cons) (keeps_on len c.write_one.new.len (first ∷ []) rest (first ∷ rest) d0 d1 d2 c.args.dev c.write_one.ensures.later (goes_split first rest) c.write_one.ensures.images c.write_dirty.ensures.images)

-- OF WHAT A READ GIVES

pub returns-in-empty-clause-left : goal.returns-in-empty-clause-left
returns-in-empty-clause-left g t c =
    let d0 = g.D.Disks.view c.args.disks.now in
    left_same c.args.len.now c.args.dirty.now d0 d0 c.args.dev c.args.len.now c.requires.length refl

pub returns-in_err-write_one-in-len1-up-clause-left : goal.returns-in_err-write_one-in-len1-up-clause-left
returns-in_err-write_one-in-len1-up-clause-left g t c =
    let d0 = g.D.Disks.view c.args.disks.now in
    let d1 = g.D.Disks.view c.write_one.new.disks in
    let dev = c.args.dev in
    let ds = c.args.dirty.now in
    let zero : Dirty = record { page = 0; side = 0 } in
    let first = get_or ds 0 zero in
    let rest = take (length ds - 1) (drop 1 ds) in
    let cons : ds ≡ first ∷ rest = cons_of ds zero first c.in-len1-up.len_at_least refl in
    let len = c.args.len.now in
    let now = c.write_one.new.len in
    let e = c.in_err-write_one-in-len1-up.field-0.0 in
    let p = err_from_is_err_and c.from_residual.result c.from_residual.ensures.1 in
    rw (p.1, p.2) (subst (λ l. UnlessDown (Some e) (IsLeftBy len l d0 d1 dev now)) (sym cons) (unless_down (Some e) (IsLeftBy len (first ∷ []) d0 d1 dev now) (IsLeftBy len (first ∷ rest) d0 d1 dev now)
    (left_before len now (first ∷ []) (first ∷ rest) d0 d1 dev (λ page side clean. (goes_split first rest page side clean).0)) c.in_err-write_one-in-len1-up.ensures.left))

pub returns-in_ok-write_one-in-len1-up-clause-left : goal.returns-in_ok-write_one-in-len1-up-clause-left
returns-in_ok-write_one-in-len1-up-clause-left g t c =
    let d0 = g.D.Disks.view c.args.disks.now in
    let d1 = g.D.Disks.view c.write_one.new.disks in
    let d2 = g.D.Disks.view c.write_dirty.new.disks in
    let dev = c.args.dev in
    let ds = c.args.dirty.now in
    let zero : Dirty = record { page = 0; side = 0 } in
    let first = get_or ds 0 zero in
    let rest = take (length ds - 1) (drop 1 ds) in
    let cons : ds ≡ first ∷ rest = cons_of ds zero first c.in-len1-up.len_at_least refl in
    let len = c.args.len.now in
    let between = c.write_one.new.len in
    let now = c.write_dirty.new.len in
    let answer = result_err c.write_dirty.result in
    subst (λ l. UnlessDown answer (IsLeftBy len l d0 d2 dev now)) (sym cons) (unless_down answer (IsLeftBy between rest d1 d2 dev now) (IsLeftBy len (first ∷ rest) d0 d2 dev now)
    (left_on len between now (first ∷ []) rest (first ∷ rest) d0 d1 d2 dev c.write_one.ensures.later c.write_one.ensures.others.shape.told (goes_split first rest) c.in_ok-write_one-in-len1-up.ensures.left) c.write_dirty.ensures.left)

pub returns-in_ok-write_one-in-len1-up-clause-stand : goal.returns-in_ok-write_one-in-len1-up-clause-stand
returns-in_ok-write_one-in-len1-up-clause-stand g t c =
    let d0 = g.D.Disks.view c.args.disks.now in
    let d1 = g.D.Disks.view c.write_one.new.disks in
    let d2 = g.D.Disks.view c.write_dirty.new.disks in
    let dev = c.args.dev in
    let spelled = g.C.PageCodec.spelled c.args.codec.now in
    let frames = c.args.frames.now.entries in
    let ds = c.args.dirty.now in
    let zero : Dirty = record { page = 0; side = 0 } in
    let first = get_or ds 0 zero in
    let rest = take (length ds - 1) (drop 1 ds) in
    let cons : ds ≡ first ∷ rest = cons_of ds zero first c.in-len1-up.len_at_least refl in
    let between = c.write_one.new.len in
    let now = c.write_dirty.new.len in
    let same : d1.told ≡ d0.told = c.write_one.ensures.others.shape.told in
    let rising : IsRisingFrom c.requires.rising.0 (first ∷ rest) = subst (IsRisingFrom c.requires.rising.0) cons c.requires.rising.1 in
    let low : AreSides (first ∷ rest) = subst AreSides cons c.requires.sides in
    let long : between ≡ length_with c.args.len.now first = c.in_ok-write_one-in-len1-up.ensures.length in
    let kept : IsLeftBy between rest d1 d2 dev now → IsTrue d0.told → side_bytes (d2.bytes dev) first.page first.side ≡ bytes_in spelled frames first.page =
    λ left told. (left.sides (same ∙ told)).each first.page first.side low.0 (omega (arith, long)) (goes_above first.page first.side (suc first.page) rest (omega arith) rising.1) ∙ c.in_ok-write_one-in-len1-up.ensures.stands told in
    subst (λ l. OnOk c.write_dirty.result (IsTrue d0.told → AreOnSides spelled frames l (d2.bytes dev))) (sym cons)
    (both c.write_dirty.result (IsTrue d1.told → AreOnSides spelled frames rest (d2.bytes dev)) (IsLeftBy between rest d1 d2 dev now) (IsTrue d0.told → AreOnSides spelled frames (first ∷ rest) (d2.bytes dev))
    (λ others left told. (kept left told, others (same ∙ told))) c.write_dirty.ensures.stand c.write_dirty.ensures.left)

pub returns-in_ok-write_one-in-len1-up-clause-pages : goal.returns-in_ok-write_one-in-len1-up-clause-pages
returns-in_ok-write_one-in-len1-up-clause-pages g t c =
    let spelled = g.C.PageCodec.spelled c.args.codec.now in
    let spelled_in = g.C.PageCodec.spelled_in c.args.codec.now in
    let frames = c.args.frames.now.entries in
    let ds = c.args.dirty.now in
    let zero : Dirty = record { page = 0; side = 0 } in
    let first = get_or ds 0 zero in
    let rest = take (length ds - 1) (drop 1 ds) in
    let cons : ds ≡ first ∷ rest = cons_of ds zero first c.in-len1-up.len_at_least refl in
    subst (λ l. OnOk c.write_dirty.result (AreSpelledBack spelled spelled_in frames l)) (sym cons)
    (later c.write_dirty.result (AreSpelledBack spelled spelled_in frames rest) (AreSpelledBack spelled spelled_in frames (first ∷ rest)) (λ others. (c.in_ok-write_one-in-len1-up.ensures.page, others)) c.write_dirty.ensures.pages)

-- WHERE IT IS FULL

pub returns-in_err-write_one-in-len1-up-clause-full : goal.returns-in_err-write_one-in-len1-up-clause-full
returns-in_err-write_one-in-len1-up-clause-full g t c =
    let limit = (g.D.Disks.view c.args.disks.now).limit c.args.dev in
    let ds = c.args.dirty.now in
    let zero : Dirty = record { page = 0; side = 0 } in
    let first = get_or ds 0 zero in
    let rest = take (length ds - 1) (drop 1 ds) in
    let cons : ds ≡ first ∷ rest = cons_of ds zero first c.in-len1-up.len_at_least refl in
    let e = c.in_err-write_one-in-len1-up.field-0.0 in
    let p = err_from_is_err_and c.from_residual.result c.from_residual.ensures.1 in
    rw (p.1, p.2) (subst (λ l. FullOnly c.args.dev limit (end_of l) (Some e)) (sym cons) (full_within c.args.dev limit limit (end_of (first ∷ rest)) (place_of first + 8192) (Some e) refl (omega arith) c.in_err-write_one-in-len1-up.ensures.full))

pub returns-in_ok-write_one-in-len1-up-clause-full : goal.returns-in_ok-write_one-in-len1-up-clause-full
returns-in_ok-write_one-in-len1-up-clause-full g t c =
    let d0 = g.D.Disks.view c.args.disks.now in
    let d1 = g.D.Disks.view c.write_one.new.disks in
    let dev = c.args.dev in
    let ds = c.args.dirty.now in
    let zero : Dirty = record { page = 0; side = 0 } in
    let first = get_or ds 0 zero in
    let rest = take (length ds - 1) (drop 1 ds) in
    let cons : ds ≡ first ∷ rest = cons_of ds zero first c.in-len1-up.len_at_least refl in
    let answer = result_err c.write_dirty.result in
    subst (λ l. FullOnly dev (d0.limit dev) (end_of l) answer) (sym cons) (full_within dev (d0.limit dev) (d1.limit dev) (end_of (first ∷ rest)) (end_of rest) answer (c.write_one.ensures.others.shape.limit dev) (omega arith) c.write_dirty.ensures.full)

pub returns-in_ok-write_one-in-len1-up-clause-fits : goal.returns-in_ok-write_one-in-len1-up-clause-fits
returns-in_ok-write_one-in-len1-up-clause-fits g t c =
    let d0 = g.D.Disks.view c.args.disks.now in
    let d1 = g.D.Disks.view c.write_one.new.disks in
    let dev = c.args.dev in
    let ds = c.args.dirty.now in
    let zero : Dirty = record { page = 0; side = 0 } in
    let first = get_or ds 0 zero in
    let rest = take (length ds - 1) (drop 1 ds) in
    let cons : ds ≡ first ∷ rest = cons_of ds zero first c.in-len1-up.len_at_least refl in
    let same : d1.limit dev ≡ d0.limit dev = c.write_one.ensures.others.shape.limit dev in
    let own : place_of first + 8192 ≤ d0.limit dev = c.in_ok-write_one-in-len1-up.ensures.fits in
    subst (λ l. OnOk c.write_dirty.result (end_of l ≤ d0.limit dev)) (sym cons) (later c.write_dirty.result (end_of rest ≤ d1.limit dev) (end_of (first ∷ rest) ≤ d0.limit dev) (λ low. omega (arith, same, own, low)) c.write_dirty.ensures.fits)
