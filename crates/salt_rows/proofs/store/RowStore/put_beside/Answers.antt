use Rattle.salt_directory.specs.Rows.{IsPut}
use Rattle.salt_rows.proofs.Read.{frames_page}
use Rattle.salt_rows.proofs.Replaced.{beside_here, no_room_told}
use Rattle.salt_rows.proofs.store.RowStore.put_beside.Goals as goal
use Rattle.salt_rows.specs.Frames.{CanFrame}
use Rattle.std.proofs.Common.{arith, get_or, length, refl, subst, sym, ◌<◌, ◌≡◌, ◌∙◌}
use Rattle.std.proofs.lemmas.List.{get_or_default}

pub put_row-requires-clause-can : goal.put_row-requires-clause-can
put_row-requires-clause-can g c =
    let d = g.D.Disks.view c.args.disks.now in
    let x = c.args.self.now in
    let s = c.requires.stands in
    let low : c.args.page < length x.sides.items = omega (arith, c.requires.room.0, s.is.is.kept.counted) in
    subst (λ side. CanFrame d x.pool c.args.page side) (sym (c.index-side.ensures ∙ get_or_default x.sides.items c.args.page c.index-side.result.now 0 low)) (frames_page d x s.dev s.named s.t s.is c.args.page low)

pub rejected-requires : goal.rejected-requires
rejected-requires g c =
    let d = g.D.Disks.view c.args.disks.now in
    let e = g.D.Disks.view c.put_row.new.disks in
    let x = c.args.self.now in
    let s = c.requires.stands in
    let low : c.args.page < length x.sides.items = omega (arith, c.requires.room.0, s.is.is.kept.counted) in
    let side : c.index-side.result.now ≡ get_or x.sides.items c.args.page 0 = c.index-side.ensures ∙ get_or_default x.sides.items c.args.page c.index-side.result.now 0 low in
    let f = c.in_ok-free.ensures.rows in
    c.in_ok-free.ensures.kept.shape.told
    ∙ no_room_told d e x c.put_row.new.pool s.dev s.named s.t s.is c.in_ok-free.ensures.kept c.args.page c.index-side.result.now low side f.0 f.1 f.2 c.args.place.table c.args.row.now c.requires.room
    (subst (IsPut c.args.place.table c.args.row.now f.0 f.1) c.in-None.is f.3)

pub returns-in_ok-insert-in-Some-clause-rows : goal.returns-in_ok-insert-in-Some-clause-rows
returns-in_ok-insert-in-Some-clause-rows g c = λ dev named t is none.
    let d = g.D.Disks.view c.args.disks.now in
    let e = g.D.Disks.view c.put_row.new.disks in
    let x = c.args.self.now in
    let z = c.mark.new.self in
    let low : c.args.page < length x.sides.items = omega (arith, c.requires.room.0, is.is.kept.counted) in
    let side : c.index-side.result.now ≡ get_or x.sides.items c.args.page 0 = c.index-side.ensures ∙ get_or_default x.sides.items c.args.page c.index-side.result.now 0 low in
    let f = c.in_ok-free.ensures.rows in
    let q = c.args.place in
    beside_here d e x c.put_row.new.pool dev named t is c.in_ok-free.ensures.kept c.args.page c.index-side.result.now low side f.0 f.1 f.2 c.in-Some.free z c.in_ok-mark-in-Some.ensures.marked q c.args.row.now
    (record z { directory = c.insert.new.self }) refl refl refl refl c.in_ok-insert-in-Some.ensures.entries c.requires.key none (subst (IsPut q.table c.args.row.now f.0 f.1) c.in-Some.is f.3)
