use Rattle.salt_directory.specs.Bytes.{IsWithin, bytes_of_entries}
use Rattle.salt_model.specs.Tables.{place, put_row, remove_at}
use Rattle.salt_rows.proofs.OneChange.{is_made, none_comes, opened, rows_room}
use Rattle.salt_rows.proofs.Parting.{images_put, images_room, named_room}
use Rattle.salt_rows.proofs.Put.{put_some, put_stands, stands_in, within_put}
use Rattle.salt_rows.proofs.store.RowStore.change.Goals as goal
use Rattle.salt_rows.specs.Stores.{page_count}
use Rattle.std.proofs.Common.{List, Some, ap, length, option_copied, subst, sym, ℕ, ◌∙◌}

pub put-requires-clause-stands : goal.put-requires-clause-stands
put-requires-clause-stands g c =
    let d = g.D.Disks.view c.args.disks.now in
    let e1 = g.D.Disks.view c.make_way.new.disks in
    let x = c.args.self.now in
    let x1 = c.make_way.new.self in
    let q = place c.args.change.now.table c.in_ok-copy.field-0 in
    let left = opened d e1 x x1 q (option_copied c.as_ref-row.result) c.in_ok-way.way c.in_ok-way.ensures.way c.in-Open.beside c.in-Open.is in
    stands_in d e1 x x1 (remove_at q) left c.requires.stands

pub returns-in_err-put-in-Some-clause-images : goal.returns-in_err-put-in-Some-clause-images
returns-in_err-put-in-Some-clause-images g c =
    images_put (g.D.Disks.view c.args.disks.now) (g.D.Disks.view c.make_way.new.disks) (g.D.Disks.view c.put.new.disks) c.args.self.now c.in_ok-way.ensures.others (Some c.in_err-put-in-Some.field-0.0) c.in_err-put-in-Some.ensures.kept c.in_ok-way.ensures.images

pub returns-in_err-put-in-Some-clause-pages : goal.returns-in_err-put-in-Some-clause-pages
returns-in_err-put-in-Some-clause-pages g c =
    let d = g.D.Disks.view c.args.disks.now in
    let e1 = g.D.Disks.view c.make_way.new.disks in
    let x = c.args.self.now in
    let x1 = c.make_way.new.self in
    let q = place c.args.change.now.table c.in_ok-copy.field-0 in
    let left = opened d e1 x x1 q (option_copied c.as_ref-row.result) c.in_ok-way.way c.in_ok-way.ensures.way c.in-Open.beside c.in-Open.is in
    λ dev named t is told.
    within_put q t (page_count x) (page_count x1) (page_count c.put.new.self) (c.in_ok-way.ensures.pages dev named t is told)
    (c.in_err-put-in-Some.ensures.pages dev named (remove_at q t) (left dev named t is) (c.in_ok-way.ensures.others.shape.told ∙ told))

-- ROOM IS MADE

pub make_room-requires : goal.make_room-requires
make_room-requires g c =
    let d = g.D.Disks.view c.args.disks.now in
    let e1 = g.D.Disks.view c.make_way.new.disks in
    let x = c.args.self.now in
    let x1 = c.make_way.new.self in
    let q = place c.args.change.now.table c.in_ok-copy.field-0 in
    let left = opened d e1 x x1 q (option_copied c.as_ref-row.result) c.in_ok-way.way c.in_ok-way.ensures.way c.in-Open.beside c.in-Open.is in
    let e2 = g.D.Disks.view c.put.new.disks in
    let x2 = c.put.new.self in
    let row = c.in-Some.row.now in
    put_some d e1 e2 x x1 x2 q row left c.in_ok-put-in-Some.ensures.rows c.requires.stands

pub returns-in_ok-put-in-Some-clause-rows : goal.returns-in_ok-put-in-Some-clause-rows
returns-in_ok-put-in-Some-clause-rows g c =
    let d = g.D.Disks.view c.args.disks.now in
    let e1 = g.D.Disks.view c.make_way.new.disks in
    let x = c.args.self.now in
    let x1 = c.make_way.new.self in
    let q = place c.args.change.now.table c.in_ok-copy.field-0 in
    let left = opened d e1 x x1 q (option_copied c.as_ref-row.result) c.in_ok-way.way c.in_ok-way.ensures.way c.in-Open.beside c.in-Open.is in
    let e2 = g.D.Disks.view c.put.new.disks in
    let x2 = c.put.new.self in
    let row = c.in-Some.row.now in
    let e3 = g.D.Disks.view c.make_room.new.disks in
    let x3 = c.make_room.new.self in
    let stands = put_stands d e1 e2 x x1 x2 q row left c.in_ok-put-in-Some.ensures.rows in
    rows_room d e2 e3 x x2 x3 q row stands c.make_room.result c.make_room.ensures.rows c.args.change.now (ap (place c.args.change.now.table) c.in_ok-copy.ensures)
    (ap option_copied (sym c.in-Some.is) ∙ c.as_ref-row.ensures.value)

pub returns-in_ok-put-in-Some-clause-images : goal.returns-in_ok-put-in-Some-clause-images
returns-in_ok-put-in-Some-clause-images g c =
    let d = g.D.Disks.view c.args.disks.now in
    let e1 = g.D.Disks.view c.make_way.new.disks in
    let x = c.args.self.now in
    let x1 = c.make_way.new.self in
    let q = place c.args.change.now.table c.in_ok-copy.field-0 in
    let left = opened d e1 x x1 q (option_copied c.as_ref-row.result) c.in_ok-way.way c.in_ok-way.ensures.way c.in-Open.beside c.in-Open.is in
    let e2 = g.D.Disks.view c.put.new.disks in
    let x2 = c.put.new.self in
    let row = c.in-Some.row.now in
    let e3 = g.D.Disks.view c.make_room.new.disks in
    let x3 = c.make_room.new.self in
    let stands = put_stands d e1 e2 x x1 x2 q row left c.in_ok-put-in-Some.ensures.rows in
    images_room d e1 e2 e3 x x2 x3 (put_row q row) stands c.in_ok-way.ensures.others c.in_ok-put-in-Some.ensures.kept c.in_ok-way.ensures.images c.make_room.ensures.images

pub returns-in_ok-put-in-Some-clause-named : goal.returns-in_ok-put-in-Some-clause-named
returns-in_ok-put-in-Some-clause-named g c =
    let d = g.D.Disks.view c.args.disks.now in
    let e1 = g.D.Disks.view c.make_way.new.disks in
    let x = c.args.self.now in
    let x1 = c.make_way.new.self in
    let q = place c.args.change.now.table c.in_ok-copy.field-0 in
    let left = opened d e1 x x1 q (option_copied c.as_ref-row.result) c.in_ok-way.way c.in_ok-way.ensures.way c.in-Open.beside c.in-Open.is in
    let e2 = g.D.Disks.view c.put.new.disks in
    let x2 = c.put.new.self in
    let row = c.in-Some.row.now in
    let e3 = g.D.Disks.view c.make_room.new.disks in
    let x3 = c.make_room.new.self in
    let stands = put_stands d e1 e2 x x1 x2 q row left c.in_ok-put-in-Some.ensures.rows in
    named_room d e1 e2 e3 x x2 x3 (put_row q row) stands c.in_ok-way.ensures.others c.in_ok-put-in-Some.ensures.kept c.make_room.result c.in_ok-way.ensures.named c.make_room.ensures.named

pub returns-in_ok-put-in-Some-clause-pages : goal.returns-in_ok-put-in-Some-clause-pages
returns-in_ok-put-in-Some-clause-pages g c =
    let d = g.D.Disks.view c.args.disks.now in
    let e1 = g.D.Disks.view c.make_way.new.disks in
    let x = c.args.self.now in
    let x1 = c.make_way.new.self in
    let q = place c.args.change.now.table c.in_ok-copy.field-0 in
    let left = opened d e1 x x1 q (option_copied c.as_ref-row.result) c.in_ok-way.way c.in_ok-way.ensures.way c.in-Open.beside c.in-Open.is in
    λ dev named t is told.
    subst (λ n. IsWithin (page_count x) (bytes_of_entries t.list) n) (sym (ap (λ (l : List ℕ). length l) c.make_room.ensures.sides))
    (within_put q t (page_count x) (page_count x1) (page_count c.put.new.self) (c.in_ok-way.ensures.pages dev named t is told)
    (c.in_ok-put-in-Some.ensures.pages dev named (remove_at q t) (left dev named t is) (c.in_ok-way.ensures.others.shape.told ∙ told)))

-- NOTHING IS LEFT TO DO

pub returns-in_default-clause-rows : goal.returns-in_default-clause-rows
returns-in_default-clause-rows g c =
    let q = place c.args.change.now.table c.in_ok-copy.field-0 in
    is_made (g.D.Disks.view c.args.disks.now) (g.D.Disks.view c.make_way.new.disks) c.args.self.now c.make_way.new.self q (option_copied c.as_ref-row.result) c.in_ok-way.way c.in_ok-way.ensures.way
    c.args.change.now (ap (place c.args.change.now.table) c.in_ok-copy.ensures) c.as_ref-row.ensures.value c.in_default.is

pub returns-in-None-clause-rows : goal.returns-in-None-clause-rows
returns-in-None-clause-rows g c =
    let q = place c.args.change.now.table c.in_ok-copy.field-0 in
    none_comes (g.D.Disks.view c.args.disks.now) (g.D.Disks.view c.make_way.new.disks) c.args.self.now c.make_way.new.self q (option_copied c.as_ref-row.result) c.in_ok-way.way c.in_ok-way.ensures.way
    c.args.change.now (ap (place c.args.change.now.table) c.in_ok-copy.ensures) c.as_ref-row.ensures.value c.in-Open.beside c.in-Open.is (ap option_copied c.in-None.is)
