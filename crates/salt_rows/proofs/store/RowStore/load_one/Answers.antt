use Rattle.salt_directory.specs.Loading.{HasLoaded, IsRowLoaded}
use Rattle.salt_directory.specs.Pages.{page_of}
use Rattle.salt_model.specs.Tables.{place}
use Rattle.salt_rows.proofs.Loads.{none_loaded, on_ok, one_loaded}
use Rattle.salt_rows.proofs.store.RowStore.load_one.Goals as goal
use Rattle.salt_rows.specs.Stores.{IsRowStore}
use Rattle.salt_rows.specs.declared.store.RowStore.{RowStore}
use Rattle.std.proofs.Common.{ap, subst, sym, ◌∙◌}

pub load_seat-requires-clause-page : goal.load_seat-requires-clause-page
load_seat-requires-clause-page g c = (λ i. page_of (c.look_for.ensures.same i) (place (sym c.table.ensures i) (sym c.in_ok-copy.ensures i))) ∙ sym c.look_for.ensures.page ∙ c.in-Some.is

pub returns-in-Some-clause-rows : goal.returns-in-Some-clause-rows
returns-in-Some-clause-rows g c dev named t is told =
    let d = g.D.Disks.view c.args.disks.now in
    let x = c.args.self.now in
    let old = c.args.out.now in
    let new = c.load_seat.new.out in
    let stands = subst (λ (y : RowStore). IsRowStore d y dev named t) (λ i. record x { directory = sym c.look_for.ensures.same i }) is in
    on_ok c.load_seat.result (IsRowLoaded t c.args.key.now old new) (HasLoaded c.args.range.now t old new) (one_loaded d x dev named t is told c.args.key.now old c.args.range.now c.requires.point new)
    (c.load_seat.ensures.row dev named t stands told)

pub returns-in-None-clause-rows : goal.returns-in-None-clause-rows
returns-in-None-clause-rows g c dev named t is told =
    let x = c.args.self.now in
    none_loaded (g.D.Disks.view c.args.disks.now) x dev named t is told c.args.key.now c.args.out.now c.args.range.now c.requires.point
    (ap (page_of x.directory) (sym (λ i. place (c.table.ensures i) (c.in_ok-copy.ensures i))) ∙ sym c.look_for.ensures.page ∙ c.in-None.is)
