use Rattle.salt_directory.specs.Loading.{HasLoaded, HaveAllOf, count_in, rows_within, seats_in}
use Rattle.salt_directory.specs.Pages.{all_rows}
use Rattle.salt_gatelog.proofs.Entries.{not_told}
use Rattle.salt_loaded.specs.Rows.{with_rows}
use Rattle.salt_rows.proofs.Loads.{each_marked, marked_none, on_ok, on_own, own_pages, range_counted, range_loaded}
use Rattle.salt_rows.proofs.store.RowStore.load.Goals as goal
use Rattle.std.proofs.Common.{IfSome, Option, Some, ap, arith, get_or, length, replicate, rules, subst, sym, true, false, ◌≡◌, ◌∙◌}
use Rattle.std.proofs.lemmas.List.{get_or-replicate, length-replicate}

-- ALL ROWS OF A TABLE

pub returns-then-is_none-2-clause-rows : goal.returns-then-is_none-2-clause-rows
returns-then-is_none-2-clause-rows g c dev named t is told =
    let d = g.D.Disks.view c.args.disks.now in
    let x = c.args.self.now in
    let old = c.args.out.now in
    let new = c.load_marked.new.out in
    let marks = c.as_slice.result.now in
    let pages = own_pages d x dev named t is told in
    let are : marks ≡ replicate (length x.sides.items) true = c.as_slice.ensures.value ∙ c.in_ok-marks.ensures.items_if_clones_equal (λ y h. search rules) ∙ ap (λ n. replicate n true) c.page_count-count.ensures in
    let count : length marks ≡ length x.sides.items = ap length are ∙ length-replicate (length x.sides.items) true in
    on_ok c.load_marked.result (new ≡ with_rows (rows_within old.table c.args.range.now (all_rows pages)) old) (HasLoaded c.args.range.now t old new)
    (range_loaded d x dev named t is told c.args.range.now old new)
    (c.load_marked.ensures.rows pages (on_own d x dev named t is told)
    (each_marked d x dev named t is told old.table c.args.range.now marks count (λ i low. ap (λ l. get_or l i false) are ∙ get_or-replicate (length x.sides.items) i true false (omega (arith, low, count)))) told)

-- FEW ROWS

given : {A : Type 0} (P : A → Type 0) (o : Option A) (x : A) → o ≡ Some x → IfSome o P → P x
given {A} P o x is found = subst (λ (p : Option A). IfSome p P) is found

pub returns-in-Some-2-clause-rows : goal.returns-in-Some-2-clause-rows
returns-in-Some-2-clause-rows g c dev named t is told =
    let x = c.args.self.now in
    c.load_seats.ensures.rows dev named t is told c.args.range.now
    (c.as_slice-in-Some-2.ensures.value ∙ given _ _ c.in-Some-2.seats c.in-Some-2.is c.in_ok-seats.ensures.seats ∙ ap (λ u. seats_in u c.args.range.now x.directory) c.table-table.ensures)

-- ROWS OF A RANGE

pub returns-then-came-extent-clause-rows : goal.returns-then-came-extent-clause-rows
returns-then-came-extent-clause-rows g c dev named t is told =
    let d = g.D.Disks.view c.args.disks.now in
    let x = c.args.self.now in
    let old = c.args.out.now in
    let range = c.args.range.now in
    let marks = c.as_slice-2.result.now in
    let count : length marks ≡ length x.sides.items = ap length c.as_slice-2.ensures.value ∙ c.in_ok-extent.ensures.count ∙ c.page_count-count.ensures in
    let all : HaveAllOf old.table range x.directory marks =
    subst (HaveAllOf old.table range x.directory) (sym c.as_slice-2.ensures.value) (subst (λ u. HaveAllOf u range x.directory c.in_ok-extent.extent.pages.items) c.table-table.ensures c.in_ok-extent.ensures.all) in
    range_loaded d x dev named t is told range old c.load_marked-2.new.out
    (c.in_ok-load_marked.ensures.rows (own_pages d x dev named t is told) (on_own d x dev named t is told) (marked_none d x dev named t is told old.table range marks count all) told)

pub rejected-requires : goal.rejected-requires
rejected-requires g c =
    let d = g.D.Disks.view c.args.disks.now in
    let x = c.args.self.now in
    let s = c.requires in
    let old = c.args.out.now in
    let new = c.load_marked-2.new.out in
    let range = c.args.range.now in
    let marks = c.as_slice-2.result.now in
    let count : length marks ≡ length x.sides.items = ap length c.as_slice-2.ensures.value ∙ c.in_ok-extent.ensures.count ∙ c.page_count-count.ensures in
    let all : HaveAllOf old.table range x.directory marks =
    subst (HaveAllOf old.table range x.directory) (sym c.as_slice-2.ensures.value) (subst (λ u. HaveAllOf u range x.directory c.in_ok-extent.extent.pages.items) c.table-table.ensures c.in_ok-extent.ensures.all) in
    let rows : c.in_ok-extent.extent.rows ≡ count_in old.table range x.directory = c.in_ok-extent.ensures.rows ∙ ap (λ u. count_in u range x.directory) c.table-table.ensures in
    c.in_ok-load_marked.ensures.kept.shape.told ∙ not_told d.told (λ told.
    let loaded = range_loaded d x s.dev s.named s.t s.is told range old new
    (c.in_ok-load_marked.ensures.rows (own_pages d x s.dev s.named s.t s.is told) (on_own d x s.dev s.named s.t s.is told) (marked_none d x s.dev s.named s.t s.is told old.table range marks count all) told) in
    c.if-came-extent.false (omega (arith, c.saturating_sub-came.ensures, c.count.ensures, c.count-before.ensures, rows, range_counted d x s.dev s.named s.t s.is told range old new loaded)))
