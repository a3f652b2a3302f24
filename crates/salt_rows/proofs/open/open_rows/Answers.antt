use Rattle.salt_bytes.specs.Page.{TableRow}
use Rattle.salt_directory.specs.declared.error.ListErr.TheVariants.{Twins, Unsound}
use Rattle.salt_disk.proofs.CallAfterCall.{cause_memory, cause_on, keeps_on}
use Rattle.salt_gatelog.proofs.Entries.{keeps_without_memory}
use Rattle.salt_model.specs.declared.places.Place.{Place}
use Rattle.salt_rows.proofs.Opened.{IsListing, all_judged, all_pages, are_twins, few_sides, is_unsound, listing_begins, none_found, one_more, opened, reaches, twins_found, unlisted_cause, unlisted_kept, unsound_found}
use Rattle.salt_rows.proofs.Standing.{side_low}
use Rattle.salt_rows.proofs.open.open_rows.Goals as goal
use Rattle.salt_rows.specs.Errors.{rows_disk_err}
use Rattle.salt_rows.specs.Sides.{sides_up_to}
use Rattle.salt_rows.specs.declared.error.RowsErr.TheVariants.{NotPage, NotRow}
use Rattle.std.proofs.Common.{Err, List, None, Some, [], ap, arith, get_or, length, refl, subst, sym, ℕ, ◌*◌, ◌++◌, ◌<◌, ◌≡◌, ◌≤◌, ◌∙◌, ◌∷◌}
use Rattle.std.proofs.lemmas.Result.{err_from_is_err_and}

pub loop-number-init : goal.loop-number-init
loop-number-init g c =
    let sound = g.J.RowJudge.sound c.args.judge.now in
    let d0 = g.D.Disks.view c.args.disks.now in
    let sides = c.args.sides.now in
    subst (λ (s : List ℕ). IsListing sound d0 d0 c.args.dev c.args.nulls sides 0 c.new-directory.result s) (sym c.new-space.ensures)
    (subst (λ (D : List (Place × ℕ)). IsListing sound d0 d0 c.args.dev c.args.nulls sides 0 D []) (sym c.new-directory.ensures) (listing_begins sound d0 c.args.dev c.args.nulls sides))

pub page_on-requires-clause-known : goal.page_on-requires-clause-known
page_on-requires-clause-known g c = omega (arith, c.requires.known, c.loop-number.invariant.kept.shape.count)

pub page_on-requires-clause-side : goal.page_on-requires-clause-side
page_on-requires-clause-side g c = side_low c.args.sides.now c.loop-number.number c.requires.sides

pub push-requires : goal.push-requires
push-requires g c = omega (arith, c.loop-number.invariant.counted, c.loop-number-test.true, c.requires.few)

pub loop-number-preserved : goal.loop-number-preserved
loop-number-preserved g c =
    let l = c.loop-number in
    let d0 = g.D.Disks.view c.args.disks.now in
    let d = g.D.Disks.view l.disks in
    let sides = c.args.sides.now in
    let low : l.number < length sides = omega (arith, c.loop-number-test.true) in
    let e = g.D.Disks.view c.page_on.new.disks in
    let list = c.in_ok-list_page.ensures in
    one_more (g.J.RowJudge.sound c.args.judge.now) d0 d c.args.dev c.args.nulls sides l.number l.directory l.space l.invariant low (get_or sides l.number 0) refl c.in_ok-page.page c.in_ok-page.ensures.page e c.list_page.new.directory c.push.new.self
    c.in_ok-page.ensures.kept c.in_ok-page.ensures.cause list.listed list.below (c.in_ok-push.ensures.ok ∙ ap (λ n. l.space ++ n ∷ []) c.free.ensures) list.sound

-- A PAGE THAT IS NONE

pub returns-in_err-page-clause-not_page : goal.returns-in_err-page-clause-not_page
returns-in_err-page-clause-not_page g c = λ is told.
    let l = c.loop-number in
    let d0 = g.D.Disks.view c.args.disks.now in
    let d = g.D.Disks.view l.disks in
    let sides = c.args.sides.now in
    let low : l.number < length sides = omega (arith, c.loop-number-test.true) in
    let p = err_from_is_err_and c.from_residual.result c.from_residual.ensures.1 in
    let none : c.in_err-page.field-0.0 ≡ NotPage = cc (p.1, p.2, is) in
    none_found (g.J.RowJudge.sound c.args.judge.now) d0 d c.args.dev c.args.nulls sides l.number l.directory l.space l.invariant low (get_or sides l.number 0) refl (c.in_err-page.ensures.not_page (λ i. Err (none i))) told

pub returns-in_err-page-clause-not_row : goal.returns-in_err-page-clause-not_row
returns-in_err-page-clause-not_row g c = λ is told.
    let p = err_from_is_err_and c.from_residual.result c.from_residual.ensures.1 in
    let row : c.in_err-page.field-0.0 ≡ NotRow = cc (p.1, p.2, is) in
    absurd (c.in_err-page.ensures.unjudged (λ i. Err (row i)))

-- A PAGE THAT IS NOT LISTED

pub returns-in_err-list_page-clause-not_page : goal.returns-in_err-list_page-clause-not_page
returns-in_err-list_page-clause-not_page g c = λ is told.
    let l = c.loop-number in
    let d0 = g.D.Disks.view c.args.disks.now in
    let d = g.D.Disks.view l.disks in
    let sides = c.args.sides.now in
    let low : l.number < length sides = omega (arith, c.loop-number-test.true) in
    let p = err_from_is_err_and c.from_residual-in_err-list_page.result c.from_residual-in_err-list_page.ensures.1 in
    let twins : c.in_err-list_page.field-0.0 ≡ Twins = are_twins c.in_err-list_page.field-0.0 (cc (p.1, p.2, is)) in
    twins_found (g.J.RowJudge.sound c.args.judge.now) d0 d c.args.dev c.args.nulls sides l.number l.directory l.space l.invariant low (get_or sides l.number 0) refl c.in_ok-page.page c.in_ok-page.ensures.page (c.in_err-list_page.ensures.twins (λ i. Err (twins i))) told

pub returns-in_err-list_page-clause-not_row : goal.returns-in_err-list_page-clause-not_row
returns-in_err-list_page-clause-not_row g c = λ is told.
    let l = c.loop-number in
    let d0 = g.D.Disks.view c.args.disks.now in
    let d = g.D.Disks.view l.disks in
    let sides = c.args.sides.now in
    let low : l.number < length sides = omega (arith, c.loop-number-test.true) in
    let p = err_from_is_err_and c.from_residual-in_err-list_page.result c.from_residual-in_err-list_page.ensures.1 in
    let unsound : c.in_err-list_page.field-0.0 ≡ Unsound = is_unsound c.in_err-list_page.field-0.0 (cc (p.1, p.2, is)) in
    unsound_found (g.J.RowJudge.sound c.args.judge.now) d0 d c.args.dev c.args.nulls sides l.number l.directory l.space l.invariant low (get_or sides l.number 0) refl c.in_ok-page.page c.in_ok-page.ensures.page (c.in_err-list_page.ensures.unsound (λ i. Err (unsound i))) told

-- AN ERROR

pub returns-in_err-page-clause-kept : goal.returns-in_err-page-clause-kept
returns-in_err-page-clause-kept g c =
    let l = c.loop-number in
    let d0 = g.D.Disks.view c.args.disks.now in
    let d = g.D.Disks.view l.disks in
    let sides = c.args.sides.now in
    let e = g.D.Disks.view c.page_on.new.disks in
    let p = err_from_is_err_and c.from_residual.result c.from_residual.ensures.1 in
    rw (p.1, p.2) (keeps_on (λ _. ⊥) d0 d e (rows_disk_err {T = List TableRow} (Err c.in_err-page.field-0.0)) l.invariant.kept c.in_err-page.ensures.kept)

pub returns-in_err-page-clause-cause : goal.returns-in_err-page-clause-cause
returns-in_err-page-clause-cause g c =
    let l = c.loop-number in
    let d0 = g.D.Disks.view c.args.disks.now in
    let d = g.D.Disks.view l.disks in
    let sides = c.args.sides.now in
    let e = g.D.Disks.view c.page_on.new.disks in
    let p = err_from_is_err_and c.from_residual.result c.from_residual.ensures.1 in
    rw (p.1, p.2) (cause_on d0 d e (rows_disk_err {T = List TableRow} (Err c.in_err-page.field-0.0)) l.invariant.cause c.in_err-page.ensures.cause)

pub returns-in_err-list_page-clause-kept : goal.returns-in_err-list_page-clause-kept
returns-in_err-list_page-clause-kept g c =
    let l = c.loop-number in
    let d0 = g.D.Disks.view c.args.disks.now in
    let d = g.D.Disks.view l.disks in
    let sides = c.args.sides.now in
    let e = g.D.Disks.view c.page_on.new.disks in
    let p = err_from_is_err_and c.from_residual-in_err-list_page.result c.from_residual-in_err-list_page.ensures.1 in
    rw (p.1, p.2) (unlisted_kept d0 e c.in_err-list_page.field-0.0 (keeps_on (λ _. ⊥) d0 d e None l.invariant.kept c.in_ok-page.ensures.kept))

pub returns-in_err-list_page-clause-cause : goal.returns-in_err-list_page-clause-cause
returns-in_err-list_page-clause-cause g c =
    let l = c.loop-number in
    let d0 = g.D.Disks.view c.args.disks.now in
    let d = g.D.Disks.view l.disks in
    let sides = c.args.sides.now in
    let e = g.D.Disks.view c.page_on.new.disks in
    let p = err_from_is_err_and c.from_residual-in_err-list_page.result c.from_residual-in_err-list_page.ensures.1 in
    rw (p.1, p.2) (unlisted_cause d0 e c.in_err-list_page.field-0.0 (cause_on d0 d e None l.invariant.cause c.in_ok-page.ensures.cause))

pub returns-in_err-push-clause-kept : goal.returns-in_err-push-clause-kept
returns-in_err-push-clause-kept g c =
    let l = c.loop-number in
    let d0 = g.D.Disks.view c.args.disks.now in
    let d = g.D.Disks.view l.disks in
    let sides = c.args.sides.now in
    let e = g.D.Disks.view c.page_on.new.disks in
    let p = err_from_is_err_and c.from_residual-in_err-push.result c.from_residual-in_err-push.ensures.1 in
    rw (p.1, p.2) (keeps_without_memory d0 e (keeps_on (λ _. ⊥) d0 d e None l.invariant.kept c.in_ok-page.ensures.kept))

pub returns-in_err-push-clause-cause : goal.returns-in_err-push-clause-cause
returns-in_err-push-clause-cause g c =
    let l = c.loop-number in
    let d0 = g.D.Disks.view c.args.disks.now in
    let d = g.D.Disks.view l.disks in
    let sides = c.args.sides.now in
    let e = g.D.Disks.view c.page_on.new.disks in
    let p = err_from_is_err_and c.from_residual-in_err-push.result c.from_residual-in_err-push.ensures.1 in
    rw (p.1, p.2) (cause_memory d0 e (cause_on d0 d e None l.invariant.cause c.in_ok-page.ensures.cause))

pub returns-in_err-len-clause-kept : goal.returns-in_err-len-clause-kept
returns-in_err-len-clause-kept g c =
    let l = c.loop-number in
    let d0 = g.D.Disks.view c.args.disks.now in
    let d = g.D.Disks.view l.disks in
    let sides = c.args.sides.now in
    let e = g.D.Disks.view c.length_from.new.disks in
    let p = err_from_is_err_and c.from_residual-in_err-len.result c.from_residual-in_err-len.ensures.1 in
    rw (p.1, p.2) (keeps_on (λ _. ⊥) d0 d e (Some c.in_err-len.field-0.0) l.invariant.kept c.in_err-len.ensures.kept)

pub returns-in_err-len-clause-cause : goal.returns-in_err-len-clause-cause
returns-in_err-len-clause-cause g c =
    let l = c.loop-number in
    let d0 = g.D.Disks.view c.args.disks.now in
    let d = g.D.Disks.view l.disks in
    let sides = c.args.sides.now in
    let e = g.D.Disks.view c.length_from.new.disks in
    let p = err_from_is_err_and c.from_residual-in_err-len.result c.from_residual-in_err-len.ensures.1 in
    rw (p.1, p.2) (cause_on d0 d e (Some c.in_err-len.field-0.0) l.invariant.cause c.in_err-len.ensures.cause)

pub returns-in_err-store_on-clause-kept : goal.returns-in_err-store_on-clause-kept
returns-in_err-store_on-clause-kept g c =
    let l = c.loop-number in
    let d0 = g.D.Disks.view c.args.disks.now in
    let d = g.D.Disks.view l.disks in
    let sides = c.args.sides.now in
    let e = g.D.Disks.view c.length_from.new.disks in
    let p = err_from_is_err_and c.from_residual-in_err-store_on.result c.from_residual-in_err-store_on.ensures.1 in
    rw (p.1, p.2) (keeps_without_memory d0 e (keeps_on (λ _. ⊥) d0 d e None l.invariant.kept c.in_ok-len.ensures.kept))

pub returns-in_err-store_on-clause-cause : goal.returns-in_err-store_on-clause-cause
returns-in_err-store_on-clause-cause g c =
    let l = c.loop-number in
    let d0 = g.D.Disks.view c.args.disks.now in
    let d = g.D.Disks.view l.disks in
    let sides = c.args.sides.now in
    let e = g.D.Disks.view c.length_from.new.disks in
    let p = err_from_is_err_and c.from_residual-in_err-store_on.result c.from_residual-in_err-store_on.ensures.1 in
    rw (p.1, p.2) (cause_memory d0 e (cause_on d0 d e None l.invariant.cause c.in_ok-len.ensures.cause))

-- ALL PAGES

pub length_from-requires-clause-known : goal.length_from-requires-clause-known
length_from-requires-clause-known g c = omega (arith, c.requires.known, c.loop-number.invariant.kept.shape.count)

pub length_from-requires-clause-within : goal.length_from-requires-clause-within
length_from-requires-clause-within g c = let few = few_sides c.args.sides.now c.requires.sides c.requires.few in omega (arith, few, c.sides_up_to.ensures)

pub length_from-requires-clause-end : goal.length_from-requires-clause-end
length_from-requires-clause-end g c = λ told.
    let sound = g.J.RowJudge.sound c.args.judge.now in
    let l = c.loop-number in
    let d0 = g.D.Disks.view c.args.disks.now in
    let d = g.D.Disks.view l.disks in
    let sides = c.args.sides.now in
    let end : length sides ≤ l.number = omega (arith, c.loop-number-test.false) in
    let so = all_pages sound d0 d c.args.dev c.args.nulls sides l.number l.directory l.space end l.invariant in
    subst (λ n. n * 8192 ≤ length (d.bytes c.args.dev)) (sym c.sides_up_to.ensures) (reaches sound d0 d c.args.dev c.args.nulls sides l.directory l.space so c.requires.sides told)

pub returns-clause-opened : goal.returns-clause-opened
returns-clause-opened g c =
    let sound = g.J.RowJudge.sound c.args.judge.now in
    let l = c.loop-number in
    let d0 = g.D.Disks.view c.args.disks.now in
    let d = g.D.Disks.view l.disks in
    let sides = c.args.sides.now in
    let e = g.D.Disks.view c.length_from.new.disks in
    let end : length sides ≤ l.number = omega (arith, c.loop-number-test.false) in
    let so = all_pages sound d0 d c.args.dev c.args.nulls sides l.number l.directory l.space end l.invariant in
    let x = c.in_ok-store_on.field-0 in
    let made = c.in_ok-store_on.ensures in
    let least : sides_up_to sides * 8192 ≤ x.pool.len = omega (arith, c.in_ok-len.ensures.least, c.sides_up_to.ensures, made.device.2) in
    opened sound d0 d c.args.dev c.args.nulls sides l.directory l.space so c.requires.sides x.pool made.frames.0 made.frames.1 made.device.0 made.pool least e x c.in_ok-len.ensures.kept c.requires.known made.device.1
    (λ told. made.device.2 ∙ c.in_ok-len.ensures.length told) refl (sym made.rows.0) (sym made.rows.1) (sym made.rows.3) (sym made.rows.2)

pub returns-clause-kept : goal.returns-clause-kept
returns-clause-kept g c =
    let l = c.loop-number in
    let d0 = g.D.Disks.view c.args.disks.now in
    let d = g.D.Disks.view l.disks in
    let sides = c.args.sides.now in
    let e = g.D.Disks.view c.length_from.new.disks in
    keeps_on (λ _. ⊥) d0 d e None l.invariant.kept c.in_ok-len.ensures.kept

pub returns-clause-cause : goal.returns-clause-cause
returns-clause-cause g c =
    let l = c.loop-number in
    let d0 = g.D.Disks.view c.args.disks.now in
    let d = g.D.Disks.view l.disks in
    let sides = c.args.sides.now in
    let e = g.D.Disks.view c.length_from.new.disks in
    cause_on d0 d e None l.invariant.cause c.in_ok-len.ensures.cause

pub returns-clause-sides : goal.returns-clause-sides
returns-clause-sides g c = c.in_ok-store_on.ensures.rows.1

pub returns-clause-judged : goal.returns-clause-judged
returns-clause-judged g c = λ told.
    let sound = g.J.RowJudge.sound c.args.judge.now in
    let l = c.loop-number in
    let d0 = g.D.Disks.view c.args.disks.now in
    let d = g.D.Disks.view l.disks in
    let sides = c.args.sides.now in
    let end : length sides ≤ l.number = omega (arith, c.loop-number-test.false) in
    let so = all_pages sound d0 d c.args.dev c.args.nulls sides l.number l.directory l.space end l.invariant in
    all_judged sound d0 d c.args.dev c.args.nulls sides l.directory l.space so c.requires.sides told
