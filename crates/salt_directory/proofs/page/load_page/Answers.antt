use Rattle.salt_directory.proofs.Loading.{loaded_more, with_none, within_none, within_one}
use Rattle.salt_directory.proofs.page.load_page.Goals as goal
use Rattle.salt_directory.proofs.page.load_page.Goals.{else-is_of_table, then-is_of_table+in_ok-push_within}
use Rattle.salt_loaded.specs.Rows.{with_rows}
use Rattle.salt_pages.proofs.Spelled.{some_at}
use Rattle.std.proofs.Common.{ap, arith, sym, ◌==◌, ◌≡◌, ◌∙◌}

pub loop-i-init : goal.loop-i-init
loop-i-init c = sym (with_none c.args.out.now)

pub behind_number-requires : goal.behind_number-requires
behind_number-requires c =
    let r = some_at c.args.page.now c.loop-i.i (omega (arith, c.loop-i-test.true, c.count-i-end.ensures)) in
    (r.0, c.spelled-spelled.ensures.taken r.0 r.1)

pub push_within-requires : goal.push_within-requires
push_within-requires c =
    let r = some_at c.args.page.now c.loop-i.i (omega (arith, c.loop-i-test.true, c.count-i-end.ensures)) in
    (r.0.row, c.behind_number.ensures r.0 (c.spelled-spelled.ensures.taken r.0 r.1))

pub loop-i-preserved : goal.loop-i-preserved
loop-i-preserved c =
    let r = some_at c.args.page.now c.loop-i.i (omega (arith, c.loop-i-test.true, c.count-i-end.ensures)) in
    let taken = c.spelled-spelled.ensures.taken r.0 r.1 in
    let start = c.args.out.now in
    let more = loaded_more start.table c.args.range.now start c.args.page.now c.loop-i.i r.0 c.loop-i.out c.if-is_of_table.out r.1 c.loop-i.invariant in
    let own : (start.table == r.0.table) ≡ c.is_of_table.result = ap (λ n. n == r.0.table) (sym c.table-table.ensures) ∙ sym (c.is_of_table.ensures r.0 taken) in
    elim c.if-is_of_table.branch [
      | then-is_of_table+in_ok-push_within w ↦
          more (w.out-is ∙ w.in_ok-push_within.ensures r.0.row (w.behind_number.ensures r.0 taken) ∙ ap (λ l. with_rows l c.loop-i.out) (within_one start.table c.args.range.now r.0 (own ∙ w.if-is_of_table.true)))
      | else-is_of_table w ↦
          more (w.out-is ∙ sym (ap (λ l. with_rows l c.loop-i.out) (within_none start.table c.args.range.now r.0 (own ∙ w.if-is_of_table.false)) ∙ with_none c.loop-i.out))
    ]
