use Rattle.salt_bytes.specs.Page.{TableRow}
use Rattle.salt_directory.proofs.Listed.{all_listed, all_sound, none_listed, one_listed, twin_listed, unsound_listed}
use Rattle.salt_directory.proofs.listing.list_page.Goals as goal
use Rattle.salt_directory.specs.declared.error.ListErr.TheVariants.{Twins, Unsound}
use Rattle.std.proofs.Common.{Err, arith, ◌≡◌}
use Rattle.std.proofs.lemmas.Result.{err_from_is_err_and}

pub loop-i-init : goal.loop-i-init
loop-i-init g c = none_listed (g.J.RowJudge.sound c.args.judge.now) c.args.directory.now c.args.number c.args.page.now

pub loop-i-preserved : goal.loop-i-preserved
loop-i-preserved g c =
    let l = c.loop-i in
    let r : TableRow = record { table = c.in_ok-table.table; row = c.in_ok-table.row } in
    let row = c.in_ok-list_row.ensures in
    one_listed (g.J.RowJudge.sound c.args.judge.now) c.args.directory.now l.directory c.args.number c.args.page.now l.i l.invariant r c.in_ok-table.ensures c.list_row.new.directory row.entries row.absent row.sound

-- A ROW IS NOT LISTED

pub returns-in_err-list_row-clause-twins : goal.returns-in_err-list_row-clause-twins
returns-in_err-list_row-clause-twins g c = λ is pages last are.
    let l = c.loop-i in
    let p = err_from_is_err_and c.from_residual-in_err-list_row.result c.from_residual-in_err-list_row.ensures.1 in
    let twins : c.in_err-list_row.field-0.0 ≡ Twins = cc (p.1, p.2, is) in
    let r : TableRow = record { table = c.in_ok-table.table; row = c.in_ok-table.row } in
    twin_listed (g.J.RowJudge.sound c.args.judge.now) c.args.directory.now l.directory c.args.number c.args.page.now l.i l.invariant r c.in_ok-table.ensures (c.in_err-list_row.ensures.twin (λ i. Err (twins i))) pages last are

pub returns-in_err-list_row-clause-unsound : goal.returns-in_err-list_row-clause-unsound
returns-in_err-list_row-clause-unsound g c = λ is.
    let l = c.loop-i in
    let p = err_from_is_err_and c.from_residual-in_err-list_row.result c.from_residual-in_err-list_row.ensures.1 in
    let unsound : c.in_err-list_row.field-0.0 ≡ Unsound = cc (p.1, p.2, is) in
    let r : TableRow = record { table = c.in_ok-table.table; row = c.in_ok-table.row } in
    unsound_listed (g.J.RowJudge.sound c.args.judge.now) c.args.directory.now l.directory c.args.number c.args.page.now l.i l.invariant r c.in_ok-table.ensures (c.in_err-list_row.ensures.unsound (λ i. Err (unsound i)))

-- ALL ARE

pub returns-clause-listed : goal.returns-clause-listed
returns-clause-listed g c = λ pages last are.
    let l = c.loop-i in
    all_listed (g.J.RowJudge.sound c.args.judge.now) c.args.directory.now l.directory c.args.number c.args.page.now l.i l.invariant (omega (arith, c.loop-i-test.false, c.count-i-end.ensures)) pages last are

pub returns-clause-sound : goal.returns-clause-sound
returns-clause-sound g c =
    let l = c.loop-i in
    all_sound (g.J.RowJudge.sound c.args.judge.now) c.args.directory.now l.directory c.args.number c.args.page.now l.i l.invariant (omega (arith, c.loop-i-test.false, c.count-i-end.ensures))

pub returns-clause-below : goal.returns-clause-below
returns-clause-below g c = λ low. c.loop-i.invariant.below low
