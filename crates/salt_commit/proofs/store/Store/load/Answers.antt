use Rattle.salt_commit.proofs.Committed.{answer_is}
use Rattle.salt_commit.proofs.Loaded.{loaded_apart, loaded_part, part_fits, rows_keyed, store_unless}
use Rattle.salt_commit.proofs.Sound.{store_fits}
use Rattle.salt_commit.proofs.store.Store.load.Goals as goal
use Rattle.salt_eval.specs.Scans.{IsKeyed}
use Rattle.salt_gatelog.proofs.Entries.{not_told}
use Rattle.salt_model.specs.Tables.{Tables}
use Rattle.salt_stands.specs.Commits.{found_of}
use Rattle.std.proofs.Common.{None, Some, subst, sym, ◌∙◌}
use Rattle.std.proofs.lemmas.Result.{err_from_is_err_and}

pub sorted-requires : goal.sorted-requires
sorted-requires g c twins =
    let s = c.requires.stands in
    not_told (g.D.Disks.view c.load_range.new.disks).told (λ now.
    let told = sym c.in_ok-load_range.ensures.kept.shape.told ∙ now in
    let apart = loaded_apart c.args.reach.now (found_of s.c s.v).kept.tables c.new-loading.result c.load_range.new.out c.new-loading.ensures (c.in_ok-load_range.ensures.rows s.which s.c s.v s.is told) in
    absurd (cc (apart, twins)))

pub judge_all-requires : goal.judge_all-requires
judge_all-requires g c =
    let s = c.requires.stands in
    let d = g.D.Disks.view c.args.disks.now in
    let r = c.args.reach.now in
    let whole = (found_of s.c s.v).kept.tables in
    record {
      told = λ now.
          let told = sym c.in_ok-load_range.ensures.kept.shape.told ∙ sym c.in_ok-rows.ensures.kept.shape.told ∙ now in
          part_fits c.args.schema.now r c.in_ok-rows.rows whole
          (loaded_part r whole c.new-loading.result c.load_range.new.out c.new-loading.ensures (c.in_ok-load_range.ensures.rows s.which s.c s.v s.is told) c.in_ok-rows.rows c.in_ok-rows.ensures.rows)
          (store_fits d c.args.self.now s.which s.c s.v s.is told c.args.schema.now (c.requires.schema s.which s.c s.v s.is told));
      keyed = subst (λ (es : Tables). IsKeyed es) (sym c.in_ok-rows.ensures.rows) (rows_keyed c.load_range.new.out.table c.load_range.new.out.rows);
    }

pub returns-clause-rows : goal.returns-clause-rows
returns-clause-rows g c which co v is told =
    loaded_part c.args.reach.now (found_of co v).kept.tables c.new-loading.result c.load_range.new.out c.new-loading.ensures (c.in_ok-load_range.ensures.rows which co v is told) c.in_ok-rows.rows c.in_ok-rows.ensures.rows

pub returns-clause-stands : goal.returns-clause-stands
returns-clause-stands g c which co v is =
    let d1 = g.D.Disks.view c.load_range.new.disks in
    let d2 = g.D.Disks.view c.sorted.new.disks in
    let x = c.load_range.new.self in
    store_unless d2 (g.D.Disks.view c.judge_all.new.disks) x which co v None c.in_ok-judge_all.ensures.kept
    (store_unless d1 d2 x which co v None c.in_ok-rows.ensures.kept (c.in_ok-load_range.ensures.stands which co v is))

pub returns-in_err-rows-clause-stands : goal.returns-in_err-rows-clause-stands
returns-in_err-rows-clause-stands g c which co v is =
    let e = err_from_is_err_and c.from_residual-in_err-rows.result c.from_residual-in_err-rows.ensures.1 in
    rw (answer_is c.from_residual-in_err-rows.result e.0 c.in_err-rows.field-0.0 e.1 e.2)
    (store_unless (g.D.Disks.view c.load_range.new.disks) (g.D.Disks.view c.sorted.new.disks) c.load_range.new.self which co v (Some c.in_err-rows.field-0.0) c.in_err-rows.ensures.kept
    (c.in_ok-load_range.ensures.stands which co v is))

pub returns-in_err-judge_all-clause-stands : goal.returns-in_err-judge_all-clause-stands
returns-in_err-judge_all-clause-stands g c which co v is =
    let d1 = g.D.Disks.view c.load_range.new.disks in
    let d2 = g.D.Disks.view c.sorted.new.disks in
    let x = c.load_range.new.self in
    let e = err_from_is_err_and c.from_residual-in_err-judge_all.result c.from_residual-in_err-judge_all.ensures.1 in
    rw (answer_is c.from_residual-in_err-judge_all.result e.0 c.in_err-judge_all.field-0.0 e.1 e.2)
    (store_unless d2 (g.D.Disks.view c.judge_all.new.disks) x which co v (Some c.in_err-judge_all.field-0.0) c.in_err-judge_all.ensures.kept
    (store_unless d1 d2 x which co v None c.in_ok-rows.ensures.kept (c.in_ok-load_range.ensures.stands which co v is)))
