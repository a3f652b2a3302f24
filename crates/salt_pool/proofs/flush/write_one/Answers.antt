use Rattle.salt_checkpoint.specs.Sides.{all_written}
use Rattle.salt_disk.proofs.CallAfterCall.{unless_down}
use Rattle.salt_disk.specs.Disks.{IsUnchanged, Tears}
use Rattle.salt_pool.proofs.Left.{full_only, full_within, keeps_before, keeps_on, keeps_page, left_before, left_on, left_page, left_same, unless_nothing, written_on_side}
use Rattle.salt_pool.proofs.flush.write_one.Goals as goal
use Rattle.salt_pool.specs.Flushing.{IsLeftBy, IsSpelledBack, bytes_of, place_of}
use Rattle.std.proofs.Common.{List, Some, [], ap, arith, drop, length, refl, subst, sym, take, ◌+◌, ◌≡◌, ◌≤◌, ◌∙◌, ◌∷◌, ℕ}
use Rattle.std.proofs.lemmas.Result.{err_from_is_err_and}
use Rattle.std.specs.Prelude.{IsTrue}

pub put-requires-clause-place : goal.put-requires-clause-place
put-requires-clause-place g c told =
    let same = c.zeros_up_to.ensures.others.shape.told in
    omega (arith, c.in_ok-zeros_up_to.ensures.left.ends (sym same ∙ told), c.in_ok-zeros_up_to.ensures.length)

-- OF IMAGES

pub returns-in_err-zeros_up_to-clause-images : goal.returns-in_err-zeros_up_to-clause-images
returns-in_err-zeros_up_to-clause-images g c =
    keeps_before c.args.len.now [] (c.args.dirty ∷ []) (g.D.Disks.view c.args.disks.now) (g.D.Disks.view c.zeros_up_to.new.disks) c.args.dev (λ page side clean. refl) c.zeros_up_to.ensures.images

pub returns-in_err-put-clause-images : goal.returns-in_err-put-clause-images
returns-in_err-put-clause-images g c =
    let d0 = g.D.Disks.view c.args.disks.now in
    let d1 = g.D.Disks.view c.zeros_up_to.new.disks in
    let d2 = g.D.Disks.view c.put.new.disks in
    let d = c.args.dirty in
    let len = c.args.len.now in
    let n = length c.write.new.out in
    let there : Tears d1 d2 c.args.dev (place_of d) n = subst (λ at. Tears d1 d2 c.args.dev at n) c.place_of-at.ensures c.put.ensures.images in
    keeps_on len len [] (d ∷ []) (d ∷ []) d0 d1 d2 c.args.dev (omega arith) (λ page side clean. (refl, clean)) c.zeros_up_to.ensures.images (keeps_page len n d d1 d2 c.args.dev c.requires.side c.write.ensures.length there)

pub returns-clause-images : goal.returns-clause-images
returns-clause-images g c =
    let d0 = g.D.Disks.view c.args.disks.now in
    let d1 = g.D.Disks.view c.zeros_up_to.new.disks in
    let d2 = g.D.Disks.view c.put.new.disks in
    let d = c.args.dirty in
    let len = c.args.len.now in
    let n = length c.write.new.out in
    let there : Tears d1 d2 c.args.dev (place_of d) n = subst (λ at. Tears d1 d2 c.args.dev at n) c.place_of-at.ensures c.put.ensures.images in
    keeps_on len len [] (d ∷ []) (d ∷ []) d0 d1 d2 c.args.dev (omega arith) (λ page side clean. (refl, clean)) c.zeros_up_to.ensures.images (keeps_page len n d d1 d2 c.args.dev c.requires.side c.write.ensures.length there)

-- OF WHAT A READ GIVES

pub returns-clause-stands : goal.returns-clause-stands
returns-clause-stands g c told =
    let d0 = g.D.Disks.view c.args.disks.now in
    let d1 = g.D.Disks.view c.zeros_up_to.new.disks in
    let d2 = g.D.Disks.view c.put.new.disks in
    let dev = c.args.dev in
    let spelled = g.C.PageCodec.spelled c.args.codec.now in
    let d = c.args.dirty in
    let same : d1.told ≡ d0.told = c.zeros_up_to.ensures.others.shape.told in
    let first : IsLeftBy c.args.len.now [] d0 d1 dev c.zeros_up_to.new.len = c.in_ok-zeros_up_to.ensures.left in
    let ends : c.zeros_up_to.new.len ≡ length (d1.bytes dev) = first.ends told in
    let place : place_of d ≤ length (d1.bytes dev) = omega (arith, ends, c.in_ok-zeros_up_to.ensures.length, c.place_of-at.ensures) in
    let wrote : d2.bytes dev ≡ all_written (record { at = place_of d; bytes = c.write.new.out } ∷ []) (d1.bytes dev) = subst (λ at. d2.bytes dev ≡ all_written (record { at = at; bytes = c.write.new.out } ∷ []) (d1.bytes dev)) c.place_of-at.ensures (c.in_ok-put.ensures.bytes (same ∙ told)) in
    ap (λ l. take 8192 (drop (place_of d) l)) wrote ∙ written_on_side (d1.bytes dev) (place_of d) c.write.new.out place c.write.ensures.length ∙ c.write.ensures.bytes ∙ ap (bytes_of spelled) c.in-Some.ensures

pub returns-in_err-zeros_up_to-clause-left : goal.returns-in_err-zeros_up_to-clause-left
returns-in_err-zeros_up_to-clause-left g c =
    let d0 = g.D.Disks.view c.args.disks.now in
    let d1 = g.D.Disks.view c.zeros_up_to.new.disks in
    let dev = c.args.dev in
    let d = c.args.dirty in
    let len = c.args.len.now in
    let now = c.zeros_up_to.new.len in
    let e = c.in_err-zeros_up_to.field-0.0 in
    let p = err_from_is_err_and c.from_residual.result c.from_residual.ensures.1 in
    rw (p.1, p.2) (unless_down (Some e) (IsLeftBy len [] d0 d1 dev now) (IsLeftBy len (d ∷ []) d0 d1 dev now) (left_before len now [] (d ∷ []) d0 d1 dev (λ page side clean. refl)) c.in_err-zeros_up_to.ensures.left)

pub returns-in_err-put-clause-left : goal.returns-in_err-put-clause-left
returns-in_err-put-clause-left g c =
    let d0 = g.D.Disks.view c.args.disks.now in
    let d1 = g.D.Disks.view c.zeros_up_to.new.disks in
    let d2 = g.D.Disks.view c.put.new.disks in
    let dev = c.args.dev in
    let d = c.args.dirty in
    let len = c.args.len.now in
    let now = c.zeros_up_to.new.len in
    let same : d1.told ≡ d0.told = c.zeros_up_to.ensures.others.shape.told in
    let first : IsLeftBy len [] d0 d1 dev now = c.in_ok-zeros_up_to.ensures.left in
    let e = c.in_err-put.field-0.0 in
    let p = err_from_is_err_and c.from_residual-in_err-put.result c.from_residual-in_err-put.ensures.1 in
    rw (p.1, p.2) (unless_nothing e (IsUnchanged d1 d2 dev) (IsLeftBy len (d ∷ []) d0 d2 dev now)
    (λ h. left_on len now now [] (d ∷ []) (d ∷ []) d0 d1 d2 dev c.zeros_up_to.ensures.later same (λ page side clean. (refl, clean)) first (left_same now (d ∷ []) d1 d2 dev now (λ told. first.ends (sym same ∙ told)) h.bytes)) c.in_err-put.ensures.nothing)

pub returns-clause-left : goal.returns-clause-left
returns-clause-left g c =
    let d0 = g.D.Disks.view c.args.disks.now in
    let d1 = g.D.Disks.view c.zeros_up_to.new.disks in
    let d2 = g.D.Disks.view c.put.new.disks in
    let dev = c.args.dev in
    let d = c.args.dirty in
    let len = c.args.len.now in
    let now = c.zeros_up_to.new.len in
    let end = c.length_with-end.result in
    let out = c.write.new.out in
    let same : d1.told ≡ d0.told = c.zeros_up_to.ensures.others.shape.told in
    let first : IsLeftBy len [] d0 d1 dev now = c.in_ok-zeros_up_to.ensures.left in
    let wrote : IsTrue d1.told → d2.bytes dev ≡ all_written (record { at = place_of d; bytes = out } ∷ []) (d1.bytes dev) = subst (λ at. IsTrue d1.told → d2.bytes dev ≡ all_written (record { at = at; bytes = out } ∷ []) (d1.bytes dev)) c.place_of-at.ensures c.in_ok-put.ensures.bytes in
    let second : IsLeftBy now (d ∷ []) d1 d2 dev end = left_page now end d out d1 d2 dev c.requires.side c.write.ensures.length
    (λ told. let ends : now ≡ length (d1.bytes dev) = first.ends (sym same ∙ told) in omega (arith, ends, c.in_ok-zeros_up_to.ensures.length, c.place_of-at.ensures))
    wrote
    (λ told. let ends : now ≡ length (d1.bytes dev) = first.ends (sym same ∙ told) in omega (arith, ends, c.in_ok-zeros_up_to.ensures.length, c.place_of-at.ensures, c.length_with-end.ensures)) in
    left_on len now end [] (d ∷ []) (d ∷ []) d0 d1 d2 dev c.zeros_up_to.ensures.later same (λ page side clean. (refl, clean)) first second

pub returns-clause-page : goal.returns-clause-page
returns-clause-page g c =
    let spelled = g.C.PageCodec.spelled c.args.codec.now in
    let spelled_in = g.C.PageCodec.spelled_in c.args.codec.now in
    subst (IsSpelledBack spelled spelled_in) c.in-Some.ensures (ap (λ (l : List ℕ). length l) (sym c.write.ensures.bytes) ∙ c.write.ensures.length, ap spelled_in (sym c.write.ensures.bytes) ∙ c.write.ensures.page)

-- WHERE IT IS FULL

pub returns-in_err-zeros_up_to-clause-full : goal.returns-in_err-zeros_up_to-clause-full
returns-in_err-zeros_up_to-clause-full g c =
    let limit = (g.D.Disks.view c.args.disks.now).limit c.args.dev in
    let e = c.in_err-zeros_up_to.field-0.0 in
    let p = err_from_is_err_and c.from_residual.result c.from_residual.ensures.1 in
    rw (p.1, p.2) (full_within c.args.dev limit limit (place_of c.args.dirty + 8192) c.place_of-at.result (Some e) refl (omega (arith, c.place_of-at.ensures)) c.in_err-zeros_up_to.ensures.full)

pub returns-in_err-put-clause-full : goal.returns-in_err-put-clause-full
returns-in_err-put-clause-full g c =
    let d0 = g.D.Disks.view c.args.disks.now in
    let d1 = g.D.Disks.view c.zeros_up_to.new.disks in
    let dev = c.args.dev in
    let e = c.in_err-put.field-0.0 in
    let size : length c.write.new.out ≡ 8192 = c.write.ensures.length in
    let p = err_from_is_err_and c.from_residual-in_err-put.result c.from_residual-in_err-put.ensures.1 in
    rw (p.1, p.2) (full_only dev (d0.limit dev) (d1.limit dev) (place_of c.args.dirty + 8192) (c.place_of-at.result + length c.write.new.out) e (c.zeros_up_to.ensures.others.shape.limit dev) (omega (arith, c.place_of-at.ensures, size)) c.in_err-put.ensures.full)

pub returns-clause-fits : goal.returns-clause-fits
returns-clause-fits g c =
    let size : length c.write.new.out ≡ 8192 = c.write.ensures.length in
    omega (arith, c.in_ok-put.ensures.full, c.zeros_up_to.ensures.others.shape.limit c.args.dev, c.place_of-at.ensures, size)
