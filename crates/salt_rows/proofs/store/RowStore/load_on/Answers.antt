use Rattle.salt_bytes.specs.Page.{TableRow}
use Rattle.salt_directory.specs.Loading.{rows_within}
use Rattle.salt_disk.specs.Disks.{KeepsAll}
use Rattle.salt_loaded.specs.Rows.{with_rows}
use Rattle.salt_rows.proofs.Loads.{left_by, on_ok, on_ok_kept, pages_behind, rows_shown}
use Rattle.salt_rows.proofs.Read.{frames_page, stands_behind}
use Rattle.salt_rows.proofs.store.RowStore.load_on.Goals as goal
use Rattle.salt_rows.specs.Frames.{CanFrame, HasFramed}
use Rattle.salt_rows.specs.Reads.{HasOnPages}
use Rattle.std.proofs.Common.{List, [], ap, get_or, refl, subst, sym, ◌≡◌, ◌⊎◌, ◌∙◌}
use Rattle.std.proofs.lemmas.List.{get_or_default}
use Rattle.std.specs.Result.{result_err}

pub load_range-requires : goal.load_range-requires
load_range-requires g c =
    let d = g.D.Disks.view c.args.disks.now in
    let x = c.args.self.now in
    let s = c.requires.stands in
    subst (λ side. CanFrame d x.pool c.args.page side) (sym (c.index-side.ensures ∙ get_or_default x.sides.items c.args.page c.index-side.result.now 0 c.requires.page)) (frames_page d x s.dev s.named s.t s.is c.args.page c.requires.page)

pub returns-clause-rows : goal.returns-clause-rows
returns-clause-rows g c pages on told =
    let d = g.D.Disks.view c.args.disks.now in
    let x = c.args.self.now in
    let s = c.requires.stands in
    let old = c.args.out.now in
    let pool = c.load_range.new.pool in
    let side : c.index-side.result.now ≡ get_or x.sides.items c.args.page 0 = c.index-side.ensures ∙ get_or_default x.sides.items c.args.page c.index-side.result.now 0 c.requires.page in
    on_ok c.load_range.result
    ((rows : List TableRow) × HasFramed d x.pool pool c.args.page c.index-side.result.now rows rows × (c.load_range.new.out ≡ with_rows (rows_within old.table c.args.range.now rows) old))
    (c.load_range.new.out ≡ with_rows (rows_within old.table c.args.range.now (get_or pages c.args.page [])) old)
    (λ f. f.2 ∙ ap (λ l. with_rows (rows_within old.table c.args.range.now l) old)
    (rows_shown d x pages on s.dev s.named s.t s.is c.args.page c.requires.page pool f.0 (subst (λ side. HasFramed d x.pool pool c.args.page side f.0 f.0) side f.1) told))
    c.load_range.ensures.rows

pub returns-clause-pages : goal.returns-clause-pages
returns-clause-pages g c pages on =
    let d = g.D.Disks.view c.args.disks.now in
    let e = g.D.Disks.view c.load_range.new.disks in
    let x = c.args.self.now in
    let s = c.requires.stands in
    let old = c.args.out.now in
    let pool = c.load_range.new.pool in
    let side : c.index-side.result.now ≡ get_or x.sides.items c.args.page 0 = c.index-side.ensures ∙ get_or_default x.sides.items c.args.page c.index-side.result.now 0 c.requires.page in
    on_ok_kept c.load_range.result (KeepsAll d e)
    ((rows : List TableRow) × HasFramed d x.pool pool c.args.page c.index-side.result.now rows rows × (c.load_range.new.out ≡ with_rows (rows_within old.table c.args.range.now rows) old))
    (HasOnPages e (record x { pool = pool }) pages) c.load_range.ensures.kept
    (λ kept f. pages_behind d x pages on s.dev s.named s.t s.is c.args.page c.requires.page pool f.0 (subst (λ side. HasFramed d x.pool pool c.args.page side f.0 f.0) side f.1) e kept)
    c.load_range.ensures.rows

pub returns-clause-stands : goal.returns-clause-stands
returns-clause-stands g c dev named t is =
    let d = g.D.Disks.view c.args.disks.now in
    let x = c.args.self.now in
    let old = c.args.out.now in
    let pool = c.load_range.new.pool in
    let side : c.index-side.result.now ≡ get_or x.sides.items c.args.page 0 = c.index-side.ensures ∙ get_or_default x.sides.items c.args.page c.index-side.result.now 0 c.requires.page in
    stands_behind d x dev named t is c.args.page c.requires.page (g.D.Disks.view c.load_range.new.disks) (result_err c.load_range.result) pool c.load_range.ensures.kept
    (subst (λ side. (pool ≡ x.pool) ⊎ ((rows : List TableRow) × HasFramed d x.pool pool c.args.page side rows rows)) side
    (left_by c.load_range.result (pool ≡ x.pool) (λ rows. HasFramed d x.pool pool c.args.page c.index-side.result.now rows rows) (λ rows. c.load_range.new.out ≡ with_rows (rows_within old.table c.args.range.now rows) old)
    c.load_range.ensures.rows c.load_range.ensures.err))

pub returns-clause-same : goal.returns-clause-same
returns-clause-same g c = record { directory = refl; sides = refl }
