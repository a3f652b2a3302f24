use Rattle.salt_bytes.specs.Page.{TableRow}
use Rattle.salt_directory.specs.Rows.{IsRowFound}
use Rattle.salt_loaded.specs.Rows.{RowsOf}
use Rattle.salt_rows.proofs.Loads.{lacked, row_loaded}
use Rattle.salt_rows.proofs.Read.{frames_page, none_behind, page_within, stands_behind}
use Rattle.salt_rows.proofs.store.RowStore.load_seat.Goals as goal
use Rattle.salt_rows.specs.Frames.{CanFrame, HasFramed}
use Rattle.std.proofs.Common.{List, None, Some, ap, get_or, inr, subst, sym, ◌≡◌, ◌⊎◌, ◌∙◌}
use Rattle.std.proofs.lemmas.List.{get_or_default}
use Rattle.std.proofs.lemmas.Result.{err_from_is_err_and}

pub load_key-requires : goal.load_key-requires
load_key-requires g c =
    let d = g.D.Disks.view c.args.disks.now in
    let x = c.args.self.now in
    let s = c.requires.stands in
    let low = page_within d x s.dev s.named s.t s.is c.args.out.now.table c.args.key.now c.args.page c.requires.page in
    subst (λ side. CanFrame d x.pool c.args.page side) (sym (c.index-side.ensures ∙ get_or_default x.sides.items c.args.page c.index-side.result.now 0 low)) (frames_page d x s.dev s.named s.t s.is c.args.page low)

pub returns-in_err-found-clause-stands : goal.returns-in_err-found-clause-stands
returns-in_err-found-clause-stands g c dev named t is =
    let d = g.D.Disks.view c.args.disks.now in
    let x = c.args.self.now in
    let low = page_within d x dev named t is c.args.out.now.table c.args.key.now c.args.page c.requires.page in
    let side : c.index-side.result.now ≡ get_or x.sides.items c.args.page 0 = c.index-side.ensures ∙ get_or_default x.sides.items c.args.page c.index-side.result.now 0 low in
    let p = err_from_is_err_and c.from_residual.result c.from_residual.ensures.1 in
    rw (p.1, p.2)
    (stands_behind d x dev named t is c.args.page low (g.D.Disks.view c.load_key.new.disks) (Some c.in_err-found.field-0.0) c.load_key.new.pool c.in_err-found.ensures.kept
    (subst (λ side. (c.load_key.new.pool ≡ x.pool) ⊎ ((rows : List TableRow) × HasFramed d x.pool c.load_key.new.pool c.args.page side rows rows)) side c.in_err-found.ensures.err))

pub rejected-requires : goal.rejected-requires
rejected-requires g c =
    let d = g.D.Disks.view c.args.disks.now in
    let x = c.args.self.now in
    let s = c.requires.stands in
    let table = c.args.out.now.table in
    let low = page_within d x s.dev s.named s.t s.is table c.args.key.now c.args.page c.requires.page in
    let side : c.index-side.result.now ≡ get_or x.sides.items c.args.page 0 = c.index-side.ensures ∙ get_or_default x.sides.items c.args.page c.index-side.result.now 0 low in
    let f = c.in_ok-found.ensures.row in
    c.in_ok-found.ensures.kept.shape.told
    ∙ none_behind d x s.dev s.named s.t s.is c.args.page low c.load_key.new.pool f.0 (subst (λ side. HasFramed d x.pool c.load_key.new.pool c.args.page side f.0 f.0) side f.1) table c.args.key.now c.requires.page
    (subst (IsRowFound table c.args.key.now f.0) (lacked f.2.0 (sym f.2.2 ∙ c.if-found.false)) f.2.1)

pub returns-then-found-clause-row : goal.returns-then-found-clause-row
returns-then-found-clause-row g c dev named t is told =
    let d = g.D.Disks.view c.args.disks.now in
    let x = c.args.self.now in
    let low = page_within d x dev named t is c.args.out.now.table c.args.key.now c.args.page c.requires.page in
    let side : c.index-side.result.now ≡ get_or x.sides.items c.args.page 0 = c.index-side.ensures ∙ get_or_default x.sides.items c.args.page c.index-side.result.now 0 low in
    let f = c.in_ok-found.ensures.row in
    row_loaded d x dev named t is told c.args.key.now c.args.out.now c.args.page low c.load_key.new.pool f.0 (subst (λ side. HasFramed d x.pool c.load_key.new.pool c.args.page side f.0 f.0) side f.1)
    f.2.0 c.load_key.new.out f.2.1 (sym f.2.2 ∙ c.if-found.true) f.2.3

pub returns-then-found-clause-table : goal.returns-then-found-clause-table
returns-then-found-clause-table g c = ap (λ (r : RowsOf). r.table) c.in_ok-found.ensures.row.2.3

pub returns-then-found-clause-stands : goal.returns-then-found-clause-stands
returns-then-found-clause-stands g c dev named t is =
    let d = g.D.Disks.view c.args.disks.now in
    let x = c.args.self.now in
    let low = page_within d x dev named t is c.args.out.now.table c.args.key.now c.args.page c.requires.page in
    let side : c.index-side.result.now ≡ get_or x.sides.items c.args.page 0 = c.index-side.ensures ∙ get_or_default x.sides.items c.args.page c.index-side.result.now 0 low in
    let f = c.in_ok-found.ensures.row in
    stands_behind d x dev named t is c.args.page low (g.D.Disks.view c.load_key.new.disks) None c.load_key.new.pool c.in_ok-found.ensures.kept
    (inr (f.0, subst (λ side. HasFramed d x.pool c.load_key.new.pool c.args.page side f.0 f.0) side f.1))
