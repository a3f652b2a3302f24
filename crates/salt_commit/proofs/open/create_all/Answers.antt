use Rattle.salt_commit.proofs.Limits.{part_full}
use Rattle.salt_commit.proofs.Making.{as_memory, one_made, others_made}
use Rattle.salt_commit.proofs.open.create_all.Goals as goal
use Rattle.salt_disk.proofs.CallAfterCall.{cause_memory, cause_on}
use Rattle.salt_stands.specs.LogDevices.{IsPartLog}
use Rattle.std.proofs.Common.{None, Some, arith, subst, sym, ◌+◌, ◌<◌, ◌∙◌}
use Rattle.std.proofs.lemmas.Result.{err_from_is_err_and}

pub returns-in_err-partition-clause-others : goal.returns-in_err-partition-clause-others
returns-in_err-partition-clause-others g c =
    let l = c.loop-part in
    let low : l.part < c.args.parts = omega (arith, c.loop-part-test.true) in
    let p = err_from_is_err_and c.from_residual.result c.from_residual.ensures.1 in
    rw (p.1, p.2) (others_made (g.D.Disks.view c.args.disks.now) (g.D.Disks.view l.disks) l.made.items l.part l.invariant (g.D.Disks.view c.create_partition.new.disks) (Some c.in_err-partition.field-0.0) c.in_err-partition.ensures.others c.args.parts low)

pub returns-in_err-push-clause-others : goal.returns-in_err-push-clause-others
returns-in_err-push-clause-others g c =
    let l = c.loop-part in
    let low : l.part < c.args.parts = omega (arith, c.loop-part-test.true) in
    let p = err_from_is_err_and c.from_residual-in_err-push.result c.from_residual-in_err-push.ensures.1 in
    rw (p.1, p.2) (as_memory (IsPartLog c.args.parts) (g.D.Disks.view c.args.disks.now) (g.D.Disks.view c.create_partition.new.disks)
    (others_made (g.D.Disks.view c.args.disks.now) (g.D.Disks.view l.disks) l.made.items l.part l.invariant (g.D.Disks.view c.create_partition.new.disks) None c.in_ok-partition.ensures.others c.args.parts low))

pub loop-part-preserved : goal.loop-part-preserved
loop-part-preserved g c =
    let l = c.loop-part in
    let made = one_made (g.D.Disks.view c.args.disks.now) (g.D.Disks.view l.disks) l.made.items l.part l.invariant (g.D.Disks.view c.create_partition.new.disks) c.in_ok-partition.partition c.in_ok-partition.ensures.others c.in_ok-partition.ensures.cause c.in_ok-partition.ensures.made in
    subst (λ xs. Rattle.salt_commit.proofs.Making.MadeSoFar (g.D.Disks.view c.args.disks.now) (g.D.Disks.view c.create_partition.new.disks) xs (l.part + 1)) (sym c.in_ok-push.ensures.items) made

pub returns-in_err-partition-clause-full : goal.returns-in_err-partition-clause-full
returns-in_err-partition-clause-full g c told =
    let l = c.loop-part in
    let low : l.part < c.args.parts = omega (arith, c.loop-part-test.true) in
    let p = err_from_is_err_and c.from_residual.result c.from_residual.ensures.1 in
    rw (p.1, p.2) (part_full (g.D.Disks.view c.create_partition.new.disks) l.part c.args.parts (Some c.in_err-partition.field-0.0) low (c.in_err-partition.ensures.full (l.invariant.others.shape.told ∙ told)))

pub returns-in_err-push-clause-cause : goal.returns-in_err-push-clause-cause
returns-in_err-push-clause-cause g c =
    let l = c.loop-part in
    let d = g.D.Disks.view c.args.disks.now in
    let e = g.D.Disks.view c.create_partition.new.disks in
    let p = err_from_is_err_and c.from_residual-in_err-push.result c.from_residual-in_err-push.ensures.1 in
    rw (p.1, p.2) (cause_memory d e (cause_on d (g.D.Disks.view l.disks) e None l.invariant.cause c.in_ok-partition.ensures.cause))
