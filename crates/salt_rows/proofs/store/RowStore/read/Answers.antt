use Rattle.salt_bytes.specs.Page.{TableRow}
use Rattle.salt_directory.specs.Rows.{IsRowFound}
use Rattle.salt_rows.proofs.Read.{found_key, frames_page, none_behind, page_within, row_behind, stands_behind}
use Rattle.salt_rows.proofs.store.RowStore.read.Goals as goal
use Rattle.salt_rows.specs.Frames.{CanFrame, HasFramed}
use Rattle.std.proofs.Common.{List, None, Some, get_or, inr, subst, sym, ◌≡◌, ◌⊎◌, ◌∙◌}
use Rattle.std.proofs.lemmas.List.{get_or_default}
use Rattle.std.proofs.lemmas.Result.{err_from_is_err_and}

pub row_on-requires : goal.row_on-requires
row_on-requires g c =
    let d = g.D.Disks.view c.args.disks.now in
    let x = c.args.self.now in
    let s = c.requires.stands in
    let low = page_within d x s.dev s.named s.t s.is c.args.table c.args.key.now c.args.page c.requires.page in
    subst (λ side. CanFrame d x.pool c.args.page side) (sym (c.index-side.ensures ∙ get_or_default x.sides.items c.args.page c.index-side.result.now 0 low)) (frames_page d x s.dev s.named s.t s.is c.args.page low)

pub returns-in_err-row-clause-stands : goal.returns-in_err-row-clause-stands
returns-in_err-row-clause-stands g c = λ dev named t is.
    let d = g.D.Disks.view c.args.disks.now in
    let x = c.args.self.now in
    let low = page_within d x dev named t is c.args.table c.args.key.now c.args.page c.requires.page in
    let side : c.index-side.result.now ≡ get_or x.sides.items c.args.page 0 = c.index-side.ensures ∙ get_or_default x.sides.items c.args.page c.index-side.result.now 0 low in
    let p = err_from_is_err_and c.from_residual.result c.from_residual.ensures.1 in
    rw (p.1, p.2)
    (stands_behind d x dev named t is c.args.page low (g.D.Disks.view c.row_on.new.disks) (Some c.in_err-row.field-0.0) c.row_on.new.pool c.in_err-row.ensures.kept
    (subst (λ side. (c.row_on.new.pool ≡ x.pool) ⊎ ((rows : List TableRow) × HasFramed d x.pool c.row_on.new.pool c.args.page side rows rows)) side c.in_err-row.ensures.err))

pub rejected-requires : goal.rejected-requires
rejected-requires g c =
    let d = g.D.Disks.view c.args.disks.now in
    let x = c.args.self.now in
    let s = c.requires.stands in
    let low = page_within d x s.dev s.named s.t s.is c.args.table c.args.key.now c.args.page c.requires.page in
    let side : c.index-side.result.now ≡ get_or x.sides.items c.args.page 0 = c.index-side.ensures ∙ get_or_default x.sides.items c.args.page c.index-side.result.now 0 low in
    let f = c.in_ok-row.ensures.row in
    c.in_ok-row.ensures.kept.shape.told
    ∙ none_behind d x s.dev s.named s.t s.is c.args.page low c.row_on.new.pool f.0 (subst (λ side. HasFramed d x.pool c.row_on.new.pool c.args.page side f.0 f.0) side f.1) c.args.table c.args.key.now c.requires.page
    (subst (IsRowFound c.args.table c.args.key.now f.0) c.in-None.is f.2)

pub returns-in-Some-clause-row : goal.returns-in-Some-clause-row
returns-in-Some-clause-row g c = λ dev named t is told.
    let d = g.D.Disks.view c.args.disks.now in
    let x = c.args.self.now in
    let low = page_within d x dev named t is c.args.table c.args.key.now c.args.page c.requires.page in
    let side : c.index-side.result.now ≡ get_or x.sides.items c.args.page 0 = c.index-side.ensures ∙ get_or_default x.sides.items c.args.page c.index-side.result.now 0 low in
    let f = c.in_ok-row.ensures.row in
    row_behind d x dev named t is c.args.page low c.row_on.new.pool f.0 (subst (λ side. HasFramed d x.pool c.row_on.new.pool c.args.page side f.0 f.0) side f.1) c.args.table c.args.key.now told c.in-Some.row
    (subst (IsRowFound c.args.table c.args.key.now f.0) c.in-Some.is f.2)

pub returns-in-Some-clause-stands : goal.returns-in-Some-clause-stands
returns-in-Some-clause-stands g c = λ dev named t is.
    let d = g.D.Disks.view c.args.disks.now in
    let x = c.args.self.now in
    let low = page_within d x dev named t is c.args.table c.args.key.now c.args.page c.requires.page in
    let side : c.index-side.result.now ≡ get_or x.sides.items c.args.page 0 = c.index-side.ensures ∙ get_or_default x.sides.items c.args.page c.index-side.result.now 0 low in
    let f = c.in_ok-row.ensures.row in
    stands_behind d x dev named t is c.args.page low (g.D.Disks.view c.row_on.new.disks) None c.row_on.new.pool c.in_ok-row.ensures.kept
    (inr (f.0, subst (λ side. HasFramed d x.pool c.row_on.new.pool c.args.page side f.0 f.0) side f.1))

pub returns-in-Some-clause-key : goal.returns-in-Some-clause-key
returns-in-Some-clause-key g c =
    let f = c.in_ok-row.ensures.row in
    found_key c.args.table c.args.key.now f.0 c.in-Some.row (subst (IsRowFound c.args.table c.args.key.now f.0) c.in-Some.is f.2)
