use Rattle.salt_checkpoint.proofs.Torn.{keeps_more, named_on}
use Rattle.salt_model.specs.Tables.{remove_at, set_row}
use Rattle.salt_rows.proofs.Put.{stands_in, within_taken}
use Rattle.salt_rows.proofs.store.RowStore.make_way.Goals as goal
use Rattle.salt_rows.specs.Stores.{IsRowStore, page_count}
use Rattle.salt_values.specs.declared.value.Value.{Value}
use Rattle.std.proofs.Common.{List, Option, ap, option_copied, subst, sym, ◌∙◌}

pub make_place-requires : goal.make_place-requires
make_place-requires g c =
    let d = g.D.Disks.view c.args.disks.now in
    let e1 = g.D.Disks.view c.take_out.new.disks in
    record { stands = stands_in d e1 c.args.self.now c.take_out.new.self (remove_at c.args.place.now) (λ dev named t is. c.in_ok-done.ensures.left dev named t is c.if-done.false) c.requires.stands }

pub returns-in_err-beside-in-Some-clause-images : goal.returns-in_err-beside-in-Some-clause-images
returns-in_err-beside-in-Some-clause-images g c = λ dev named t is.
    keeps_more named (g.D.Disks.view c.args.disks.now) (g.D.Disks.view c.take_out.new.disks) (g.D.Disks.view c.make_place.new.disks) dev (c.in_ok-done.ensures.images dev named t is)
    (c.in_err-beside-in-Some.ensures.images dev named (remove_at c.args.place.now t) (c.in_ok-done.ensures.left dev named t is c.if-done.false))

pub returns-in_err-beside-in-Some-clause-pages : goal.returns-in_err-beside-in-Some-clause-pages
returns-in_err-beside-in-Some-clause-pages g c = λ dev named t is told.
    within_taken c.args.place.now t (page_count c.take_out.new.self) (page_count c.args.self.now) (page_count c.make_place.new.self) c.in_ok-done.ensures.count
    (c.in_err-beside-in-Some.ensures.pages dev named (remove_at c.args.place.now t) (c.in_ok-done.ensures.left dev named t is c.if-done.false) (c.in_ok-done.ensures.others.shape.told ∙ told))

pub returns-in_ok-beside-in-Some-clause-way : goal.returns-in_ok-beside-in-Some-clause-way
returns-in_ok-beside-in-Some-clause-way g c = λ dev named t is.
    c.in_ok-beside-in-Some.ensures.rows dev named (remove_at c.args.place.now t) (c.in_ok-done.ensures.left dev named t is c.if-done.false)

pub returns-in_ok-beside-in-Some-clause-images : goal.returns-in_ok-beside-in-Some-clause-images
returns-in_ok-beside-in-Some-clause-images g c = λ dev named t is.
    keeps_more named (g.D.Disks.view c.args.disks.now) (g.D.Disks.view c.take_out.new.disks) (g.D.Disks.view c.make_place.new.disks) dev (c.in_ok-done.ensures.images dev named t is)
    (c.in_ok-beside-in-Some.ensures.images dev named (remove_at c.args.place.now t) (c.in_ok-done.ensures.left dev named t is c.if-done.false))

pub returns-in_ok-beside-in-Some-clause-named : goal.returns-in_ok-beside-in-Some-clause-named
returns-in_ok-beside-in-Some-clause-named g c = λ dev named t is told.
    let d = g.D.Disks.view c.args.disks.now in
    let e1 = g.D.Disks.view c.take_out.new.disks in
    let e2 = g.D.Disks.view c.make_place.new.disks in
    named_on named (d.bytes dev) (e1.bytes dev) (e2.bytes dev) (c.in_ok-done.ensures.named dev named t is told)
    (c.in_ok-beside-in-Some.ensures.named dev named (remove_at c.args.place.now t) (c.in_ok-done.ensures.left dev named t is c.if-done.false) (c.in_ok-done.ensures.others.shape.told ∙ told))

pub returns-in_ok-beside-in-Some-clause-pages : goal.returns-in_ok-beside-in-Some-clause-pages
returns-in_ok-beside-in-Some-clause-pages g c = λ dev named t is told.
    within_taken c.args.place.now t (page_count c.take_out.new.self) (page_count c.args.self.now) (page_count c.make_place.new.self) c.in_ok-done.ensures.count
    (c.in_ok-beside-in-Some.ensures.pages dev named (remove_at c.args.place.now t) (c.in_ok-done.ensures.left dev named t is c.if-done.false) (c.in_ok-done.ensures.others.shape.told ∙ told))

-- NOTHING IS LEFT TO DO

pub returns-then-done-clause-way : goal.returns-then-done-clause-way
returns-then-done-clause-way g c = λ dev named t is. c.in_ok-done.ensures.done dev named t is c.if-done.true

pub returns-in-None-clause-way : goal.returns-in-None-clause-way
returns-in-None-clause-way g c = λ dev named t is.
    let e1 = g.D.Disks.view c.take_out.new.disks in
    subst (λ (r : Option (List Value)). IsRowStore e1 c.take_out.new.self dev named (set_row c.args.place.now r t)) (sym (ap option_copied c.in-None.is)) (c.in_ok-done.ensures.left dev named t is c.if-done.false)
