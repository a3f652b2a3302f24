use Rattle.salt_directory.specs.Rows.{IsReplaced}
use Rattle.salt_rows.proofs.Read.{frames_page}
use Rattle.salt_rows.proofs.Replaced.{gone_here, missing_told, put_here}
use Rattle.salt_rows.proofs.store.RowStore.replace.Goals as goal
use Rattle.salt_rows.specs.Frames.{CanFrame}
use Rattle.std.proofs.Common.{get_or, option_copied, refl, subst, sym, ◌≡◌, ◌∙◌}
use Rattle.std.proofs.lemmas.List.{get_or_default}

pub replace_row-requires-clause-can : goal.replace_row-requires-clause-can
replace_row-requires-clause-can g c =
    let d = g.D.Disks.view c.args.disks.now in
    let x = c.args.self.now in
    let s = c.requires.stands in
    let low = s.is.is.kept.pointed c.args.place.now c.args.page c.requires.page in
    subst (λ side. CanFrame d x.pool c.args.page side) (sym (c.index-side.ensures ∙ get_or_default x.sides.items c.args.page c.index-side.result.now 0 low)) (frames_page d x s.dev s.named s.t s.is c.args.page low)

pub rejected-requires : goal.rejected-requires
rejected-requires g c =
    let d = g.D.Disks.view c.args.disks.now in
    let e = g.D.Disks.view c.replace_row.new.disks in
    let x = c.args.self.now in
    let s = c.requires.stands in
    let low = s.is.is.kept.pointed c.args.place.now c.args.page c.requires.page in
    let side : c.index-side.result.now ≡ get_or x.sides.items c.args.page 0 = c.index-side.ensures ∙ get_or_default x.sides.items c.args.page c.index-side.result.now 0 low in
    let f = c.in_ok-free.ensures.rows in
    let q = c.args.place.now in
    c.in_ok-free.ensures.kept.shape.told
    ∙ missing_told d e x c.replace_row.new.pool s.dev s.named s.t s.is c.in_ok-free.ensures.kept c.args.page c.index-side.result.now low side f.0 f.1 f.2 q c.requires.page (subst (IsReplaced q.table q.key (option_copied c.args.row) f.0 f.1) c.in-Missing.is f.3).1

pub returns-in_ok-mark-in-Put-clause-put : goal.returns-in_ok-mark-in-Put-clause-put
returns-in_ok-mark-in-Put-clause-put g c = λ dev named t is put.
    let d = g.D.Disks.view c.args.disks.now in
    let e = g.D.Disks.view c.replace_row.new.disks in
    let x = c.args.self.now in
    let low = is.is.kept.pointed c.args.place.now c.args.page c.requires.page in
    let side : c.index-side.result.now ≡ get_or x.sides.items c.args.page 0 = c.index-side.ensures ∙ get_or_default x.sides.items c.args.page c.index-side.result.now 0 low in
    let f = c.in_ok-free.ensures.rows in
    let q = c.args.place.now in
    put_here d e x c.replace_row.new.pool dev named t is c.in_ok-free.ensures.kept c.args.page c.index-side.result.now low side f.0 f.1 f.2 c.in-Put.free c.mark.new.self c.in_ok-mark-in-Put.ensures.marked q c.requires.page
    (option_copied c.args.row) c.requires.key (subst (IsReplaced q.table q.key (option_copied c.args.row) f.0 f.1) c.in-Put.is f.3)

pub returns-in_ok-mark-in-Gone-clause-gone : goal.returns-in_ok-mark-in-Gone-clause-gone
returns-in_ok-mark-in-Gone-clause-gone g c = λ dev named t is put.
    let d = g.D.Disks.view c.args.disks.now in
    let e = g.D.Disks.view c.replace_row.new.disks in
    let x = c.args.self.now in
    let z = c.mark-in-Gone.new.self in
    let low = is.is.kept.pointed c.args.place.now c.args.page c.requires.page in
    let side : c.index-side.result.now ≡ get_or x.sides.items c.args.page 0 = c.index-side.ensures ∙ get_or_default x.sides.items c.args.page c.index-side.result.now 0 low in
    let f = c.in_ok-free.ensures.rows in
    let q = c.args.place.now in
    gone_here d e x c.replace_row.new.pool dev named t is c.in_ok-free.ensures.kept c.args.page c.index-side.result.now low side f.0 f.1 f.2 c.in-Gone.free z c.in_ok-mark-in-Gone.ensures.marked q c.requires.page
    (option_copied c.args.row) (record z { directory = c.remove.new.self }) refl refl refl refl c.remove.ensures.entries c.remove.ensures.others (subst (IsReplaced q.table q.key (option_copied c.args.row) f.0 f.1) c.in-Gone.is f.3)
