use Rattle.salt_disk.specs.Disks.{KeepsOthers}
use Rattle.salt_gatelog.specs.Log as gates
use Rattle.salt_partition.proofs.Created.{full_appended, full_first, full_other, made, made_others}
use Rattle.salt_partition.proofs.create.create_partition.Goals as goal
use Rattle.salt_stands.specs.Partition.{part_device}
use Rattle.std.proofs.Common.{Err, None, [], ap, arith, length, refl, subst, ℕ, ◌+◌, ◌∙◌}
use Rattle.std.proofs.lemmas.Result.{err_from_is_err_and}

pub returns-clause-made : goal.returns-clause-made
returns-clause-made g c =
    let d0 = g.D.Disks.view c.args.disks.now in
    let d1 = g.D.Disks.view c.create.new.disks in
    let d2 = g.D.Disks.view c.create-2.new.disks in
    let e = g.D.Disks.view c.append.new.disks in
    let at = c.in_ok-log.ensures.log.0 ∙ c.log_a-2.ensures in
    made d0 d1 d2 e c.args.part
    (subst (λ (k : ℕ). KeepsOthers (k + 1) d0 d1 None) c.log_a.ensures c.in_ok-create.ensures.others)
    (subst (λ (k : ℕ). KeepsOthers k d1 d2 None) c.log_a-2.ensures c.in_ok-log.ensures.others)
    (subst (λ (k : ℕ). KeepsOthers k d2 e None) at c.in_ok-append.ensures.others)
    _ c.in_ok-create.field-0 c.deref.result.now c.requires.known
    (c.in_ok-create.ensures.log.0 ∙ ap (λ (k : ℕ). k + 1) c.log_a.ensures) c.in_ok-create.ensures.log.1
    (c.append.ensures.device ∙ at) (c.in_ok-append.ensures.ok [] c.in_ok-log.ensures.log.1) (c.deref.ensures.value ∙ c.in_ok-header.ensures) refl refl c.new.ensures.empty

pub returns-clause-others : goal.returns-clause-others
returns-clause-others g c =
    let d0 = g.D.Disks.view c.args.disks.now in
    let d1 = g.D.Disks.view c.create.new.disks in
    let d2 = g.D.Disks.view c.create-2.new.disks in
    let e = g.D.Disks.view c.append.new.disks in
    let at = c.in_ok-log.ensures.log.0 ∙ c.log_a-2.ensures in
    made_others d0 d1 d2 e c.args.part
    (subst (λ (k : ℕ). KeepsOthers (k + 1) d0 d1 None) c.log_a.ensures c.in_ok-create.ensures.others)
    (subst (λ (k : ℕ). KeepsOthers k d1 d2 None) c.log_a-2.ensures c.in_ok-log.ensures.others)
    (subst (λ (k : ℕ). KeepsOthers k d2 e None) at c.in_ok-append.ensures.others)

pub returns-in_err-create-clause-full : goal.returns-in_err-create-clause-full
returns-in_err-create-clause-full g c told =
    let d0 = g.D.Disks.view c.args.disks.now in
    let d1 = g.D.Disks.view c.create.new.disks in
    let p = err_from_is_err_and c.from_residual-in_err-create.result c.from_residual-in_err-create.ensures.1 in
    rw (p.1, p.2) (full_other d0 d1 (part_device c.args.part) _ c.in_err-create.ensures.others.shape (c.log_a.result + 1) c.in_err-create.field-0.0 (ap (λ (k : ℕ). k + 1) c.log_a.ensures)
    c.in_err-create.ensures.full (c.in_err-create.ensures.unwritten told) (λ n is. c.in_err-create.ensures.untouched n (ap Err is)))

pub returns-in_err-log-clause-full : goal.returns-in_err-log-clause-full
returns-in_err-log-clause-full g c told =
    let d1 = g.D.Disks.view c.create.new.disks in
    let d2 = g.D.Disks.view c.create-2.new.disks in
    let p = err_from_is_err_and c.from_residual-in_err-log.result c.from_residual-in_err-log.ensures.1 in
    rw (p.1, p.2) (full_first d1 d2 (part_device c.args.part) _ c.in_err-log.ensures.others.shape c.log_a-2.result c.in_err-log.field-0.0 c.log_a-2.ensures (omega arith) c.in_err-log.ensures.full)

pub returns-in_err-append-clause-full : goal.returns-in_err-append-clause-full
returns-in_err-append-clause-full g c told =
    let d2 = g.D.Disks.view c.create-2.new.disks in
    let e = g.D.Disks.view c.append.new.disks in
    let at = c.in_ok-log.ensures.log.0 ∙ c.log_a-2.ensures in
    let p = err_from_is_err_and c.from_residual-in_err-append.result c.from_residual-in_err-append.ensures.1 in
    rw (p.1, p.2) (full_appended d2 e (part_device c.args.part) _ c.in_err-append.ensures.others.shape (gates.device_of c.in_ok-log.log) _ c.in_err-append.field-0.0 at
    (omega (arith, c.in_ok-log.ensures.log.1.end, ap length (c.deref.ensures.value ∙ c.in_ok-header.ensures))) c.in_err-append.ensures.full)
