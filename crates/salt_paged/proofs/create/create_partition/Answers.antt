use Rattle.salt_disk.proofs.CallAfterCall.{cause_on}
use Rattle.salt_bytes.specs.Partition.{spell_partition_header}
use Rattle.salt_paged.proofs.Created.{behind_a, behind_b, behind_others, full_reading, made, reading_a, reading_b}
use Rattle.salt_paged.proofs.create.create_partition.Goals as goal
use Rattle.salt_partition.specs.Openings.{FullAtLogs}
use Rattle.salt_stands.specs.FirstOpening.{first_part_header}
use Rattle.salt_stands.specs.Partition.{part_device}
use Rattle.std.proofs.Common.{List, None, Some, ap, arith, length, refl, subst, ℕ, ◌+◌, ◌∙◌}
use Rattle.std.proofs.lemmas.Result.{err_from_is_err_and}
use Rattle.std.specs.Result.{result_err}

pub returns-clause-made : goal.returns-clause-made
returns-clause-made g c =
    let d0 = g.D.Disks.view c.args.disks.now in
    let d1 = g.D.Disks.view c.empty_store.new.disks in
    let e = g.D.Disks.view c.begin_logs.new.disks in
    made d1 e _ c.args.part c.deref.result.now (omega (arith, c.requires.known, c.in_ok-rows.ensures.kept.shape.count)) c.in_ok-log.ensures.others c.in_ok-log.ensures.begun
    (c.deref.ensures.value ∙ c.in_ok-bytes.ensures ∙ ap spell_partition_header c.first_header-header.ensures) refl c.first_header-header.ensures refl c.in_ok-rows.ensures.rows

-- IMAGES

pub returns-in_err-rows-clause-image_a : goal.returns-in_err-rows-clause-image_a
returns-in_err-rows-clause-image_a g c =
    let d0 = g.D.Disks.view c.args.disks.now in
    let d1 = g.D.Disks.view c.empty_store.new.disks in
    reading_a d0 d1 (part_device c.args.part) (result_err c.empty_store.result) (spell_partition_header (first_part_header 2 c.args.part)) c.requires.settled_a c.empty_store.ensures.kept

pub returns-in_err-rows-clause-image_b : goal.returns-in_err-rows-clause-image_b
returns-in_err-rows-clause-image_b g c =
    let d0 = g.D.Disks.view c.args.disks.now in
    let d1 = g.D.Disks.view c.empty_store.new.disks in
    reading_b d0 d1 (part_device c.args.part + 1) (result_err c.empty_store.result) c.requires.settled_b c.empty_store.ensures.kept

pub returns-in_err-log-clause-image_a : goal.returns-in_err-log-clause-image_a
returns-in_err-log-clause-image_a g c =
    let d0 = g.D.Disks.view c.args.disks.now in
    let d1 = g.D.Disks.view c.empty_store.new.disks in
    let e = g.D.Disks.view c.begin_logs.new.disks in
    let bytes = c.deref.ensures.value ∙ c.in_ok-bytes.ensures ∙ ap spell_partition_header c.first_header-header.ensures in
    let header = spell_partition_header (first_part_header 2 c.args.part) in
    behind_a d0 d1 e c.args.part c.in_ok-rows.ensures.kept header c.deref.result.now bytes c.begin_logs.ensures.image_a

pub returns-in_err-log-clause-image_b : goal.returns-in_err-log-clause-image_b
returns-in_err-log-clause-image_b g c =
    let d0 = g.D.Disks.view c.args.disks.now in
    let d1 = g.D.Disks.view c.empty_store.new.disks in
    let e = g.D.Disks.view c.begin_logs.new.disks in
    behind_b d0 d1 e c.args.part c.in_ok-rows.ensures.kept c.begin_logs.ensures.image_b

pub returns-clause-image_a : goal.returns-clause-image_a
returns-clause-image_a g c =
    let d0 = g.D.Disks.view c.args.disks.now in
    let d1 = g.D.Disks.view c.empty_store.new.disks in
    let e = g.D.Disks.view c.begin_logs.new.disks in
    let bytes = c.deref.ensures.value ∙ c.in_ok-bytes.ensures ∙ ap spell_partition_header c.first_header-header.ensures in
    let header = spell_partition_header (first_part_header 2 c.args.part) in
    behind_a d0 d1 e c.args.part c.in_ok-rows.ensures.kept header c.deref.result.now bytes c.begin_logs.ensures.image_a

pub returns-clause-image_b : goal.returns-clause-image_b
returns-clause-image_b g c =
    let d0 = g.D.Disks.view c.args.disks.now in
    let d1 = g.D.Disks.view c.empty_store.new.disks in
    let e = g.D.Disks.view c.begin_logs.new.disks in
    behind_b d0 d1 e c.args.part c.in_ok-rows.ensures.kept c.begin_logs.ensures.image_b

-- WHAT IT TOUCHES, and where it is full

pub returns-clause-others : goal.returns-clause-others
returns-clause-others g c =
    let d0 = g.D.Disks.view c.args.disks.now in
    let d1 = g.D.Disks.view c.empty_store.new.disks in
    let e = g.D.Disks.view c.begin_logs.new.disks in
    behind_others d0 d1 e c.args.part c.in_ok-rows.ensures.kept None c.in_ok-log.ensures.others

pub returns-in_err-log-clause-others : goal.returns-in_err-log-clause-others
returns-in_err-log-clause-others g c =
    let d0 = g.D.Disks.view c.args.disks.now in
    let d1 = g.D.Disks.view c.empty_store.new.disks in
    let e = g.D.Disks.view c.begin_logs.new.disks in
    let p = err_from_is_err_and c.from_residual-in_err-log.result c.from_residual-in_err-log.ensures.1 in
    rw (p.1, p.2) (behind_others d0 d1 e c.args.part c.in_ok-rows.ensures.kept (Some c.in_err-log.field-0.0) c.in_err-log.ensures.others)

pub returns-in_err-log-clause-cause : goal.returns-in_err-log-clause-cause
returns-in_err-log-clause-cause g c =
    let d0 = g.D.Disks.view c.args.disks.now in
    let d1 = g.D.Disks.view c.empty_store.new.disks in
    let e = g.D.Disks.view c.begin_logs.new.disks in
    let p = err_from_is_err_and c.from_residual-in_err-log.result c.from_residual-in_err-log.ensures.1 in
    rw (p.1, p.2) (cause_on d0 d1 e (Some c.in_err-log.field-0.0) c.in_ok-rows.ensures.cause c.in_err-log.ensures.cause)

pub returns-in_err-log-clause-full : goal.returns-in_err-log-clause-full
returns-in_err-log-clause-full g c told =
    let d0 = g.D.Disks.view c.args.disks.now in
    let d1 = g.D.Disks.view c.empty_store.new.disks in
    let e = g.D.Disks.view c.begin_logs.new.disks in
    let bytes = c.deref.ensures.value ∙ c.in_ok-bytes.ensures ∙ ap spell_partition_header c.first_header-header.ensures in
    let p = err_from_is_err_and c.from_residual-in_err-log.result c.from_residual-in_err-log.ensures.1 in
    rw (p.1, p.2) (subst (λ (b : List ℕ). FullAtLogs e (part_device c.args.part) (10 + length b) (Some c.in_err-log.field-0.0)) bytes (c.in_err-log.ensures.full (c.in_ok-rows.ensures.kept.shape.told ∙ told)))

pub returns-in_err-rows-clause-full : goal.returns-in_err-rows-clause-full
returns-in_err-rows-clause-full g c told =
    let d0 = g.D.Disks.view c.args.disks.now in
    let d1 = g.D.Disks.view c.empty_store.new.disks in
    let p = err_from_is_err_and c.from_residual-in_err-rows.result c.from_residual-in_err-rows.ensures.1 in
    rw (p.1, p.2) (full_reading d1 (part_device c.args.part) (10 + length (spell_partition_header (first_part_header 2 c.args.part))) c.in_err-rows.field-0.0 c.in_err-rows.ensures.answers)
