use Rattle.salt_model.specs.Tables.{remove_at, set_row}
use Rattle.salt_rows.proofs.Taken.{images_on, left_without, row_none, sides_on, some_stands}
use Rattle.salt_rows.proofs.store.RowStore.take_out.Goals as goal
use Rattle.salt_rows.specs.Stores.{IsRowStore}
use Rattle.std.proofs.Common.{List, Option, option_copied, subst, sym, ◌∙◌}
use Rattle.salt_values.specs.declared.value.Value.{Value}

pub make_room-requires : goal.make_room-requires
make_room-requires g c =
    let d = g.D.Disks.view c.args.disks.now in
    let e = g.D.Disks.view c.replace.new.disks in
    let r = c.in_ok-put-in-Some in
    some_stands d e c.args.self.now c.replace.new.self c.args.place.now (option_copied c.args.row) r.put r.ensures.put r.ensures.gone c.requires.stands

pub returns-in_err-make_room-in-Some-clause-images : goal.returns-in_err-make_room-in-Some-clause-images
returns-in_err-make_room-in-Some-clause-images g c =
    let d = g.D.Disks.view c.args.disks.now in
    let e = g.D.Disks.view c.replace.new.disks in
    let r = c.in_ok-put-in-Some in
    images_on d e c.args.self.now c.replace.new.self c.args.place.now (option_copied c.args.row) r.put r.ensures.put r.ensures.gone (g.D.Disks.view c.make_room.new.disks) r.ensures.kept c.in_err-make_room-in-Some.ensures.images

pub returns-then-put-clause-done : goal.returns-then-put-clause-done
returns-then-put-clause-done g c = λ dev named t is done. c.in_ok-make_room-in-Some.ensures.rows dev named (set_row c.args.place.now (option_copied c.args.row) t) (c.in_ok-put-in-Some.ensures.put dev named t is c.if-put.true)

pub returns-then-put-clause-images : goal.returns-then-put-clause-images
returns-then-put-clause-images g c =
    let d = g.D.Disks.view c.args.disks.now in
    let e = g.D.Disks.view c.replace.new.disks in
    let r = c.in_ok-put-in-Some in
    images_on d e c.args.self.now c.replace.new.self c.args.place.now (option_copied c.args.row) r.put r.ensures.put r.ensures.gone (g.D.Disks.view c.make_room.new.disks) r.ensures.kept c.in_ok-make_room-in-Some.ensures.images

pub returns-then-put-clause-named : goal.returns-then-put-clause-named
returns-then-put-clause-named g c =
    let d = g.D.Disks.view c.args.disks.now in
    let e = g.D.Disks.view c.replace.new.disks in
    let r = c.in_ok-put-in-Some in
    sides_on d e c.args.self.now c.replace.new.self c.args.place.now (option_copied c.args.row) r.put r.ensures.put r.ensures.gone (g.D.Disks.view c.make_room.new.disks) r.ensures.kept c.in_ok-make_room-in-Some.ensures.named

pub returns-else-put-clause-done : goal.returns-else-put-clause-done
returns-else-put-clause-done g c = λ dev named t is done.
    let e = g.D.Disks.view c.make_room.new.disks in
    subst (λ (r : Option (List Value)). IsRowStore e c.make_room.new.self dev named (set_row c.args.place.now r t)) (sym (row_none c.args.row c.is_none.result c.is_none.ensures done))
    (c.in_ok-make_room-in-Some.ensures.rows dev named (remove_at c.args.place.now t) (c.in_ok-put-in-Some.ensures.gone dev named t is c.if-put.false))

pub returns-else-put-clause-left : goal.returns-else-put-clause-left
returns-else-put-clause-left g c = λ dev named t is left. c.in_ok-make_room-in-Some.ensures.rows dev named (remove_at c.args.place.now t) (c.in_ok-put-in-Some.ensures.gone dev named t is c.if-put.false)

pub returns-else-put-clause-images : goal.returns-else-put-clause-images
returns-else-put-clause-images g c =
    let d = g.D.Disks.view c.args.disks.now in
    let e = g.D.Disks.view c.replace.new.disks in
    let r = c.in_ok-put-in-Some in
    images_on d e c.args.self.now c.replace.new.self c.args.place.now (option_copied c.args.row) r.put r.ensures.put r.ensures.gone (g.D.Disks.view c.make_room.new.disks) r.ensures.kept c.in_ok-make_room-in-Some.ensures.images

pub returns-else-put-clause-named : goal.returns-else-put-clause-named
returns-else-put-clause-named g c =
    let d = g.D.Disks.view c.args.disks.now in
    let e = g.D.Disks.view c.replace.new.disks in
    let r = c.in_ok-put-in-Some in
    sides_on d e c.args.self.now c.replace.new.self c.args.place.now (option_copied c.args.row) r.put r.ensures.put r.ensures.gone (g.D.Disks.view c.make_room.new.disks) r.ensures.kept c.in_ok-make_room-in-Some.ensures.named

pub returns-in-None-clause-done : goal.returns-in-None-clause-done
returns-in-None-clause-done g c = λ dev named t is done.
    let d = g.D.Disks.view c.args.disks.now in
    let x = c.args.self.now in
    subst (λ (r : Option (List Value)). IsRowStore d x dev named (set_row c.args.place.now r t)) (sym (row_none c.args.row c.is_none-in-None.result c.is_none-in-None.ensures done))
    (left_without d x c.args.place.now (sym c.page_of.ensures ∙ c.in-None.is) dev named t is)

pub returns-in-None-clause-left : goal.returns-in-None-clause-left
returns-in-None-clause-left g c = λ dev named t is left. left_without (g.D.Disks.view c.args.disks.now) c.args.self.now c.args.place.now (sym c.page_of.ensures ∙ c.in-None.is) dev named t is
