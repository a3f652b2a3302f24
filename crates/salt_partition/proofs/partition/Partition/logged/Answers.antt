use Rattle.salt_gatelog.specs.Log.{IsLog}
use Rattle.salt_partition.proofs.Logged.{changes_at, none_at, spells_at}
use Rattle.salt_partition.proofs.Standing.{moved}
use Rattle.salt_partition.proofs.Steps.{unchanged, unless}
use Rattle.salt_partition.proofs.partition.Partition.logged.Goals as goal
use Rattle.salt_partition.specs.Partitions.{IsPartition, StandsOnDevices}
use Rattle.salt_partition.specs.declared.partition.Partition.{Partition}
use Rattle.std.proofs.Common.{Some, ap, arith, refl, subst, sym, ◌∙◌}
use Rattle.std.proofs.lemmas.Result.{err_from_is_err_and}

pub returns-then-count-i-clause-changes : goal.returns-then-count-i-clause-changes
returns-then-count-i-clause-changes g c p v applied is told =
    let d = g.D.Disks.view c.args.disks.now in
    let was = subst (λ (x : Partition). IsPartition d x p v applied) (sym c.self.view_is) is in
    none_at d _ p v applied was told c.args.i (omega (arith, c.if-count-i.true, c.count.ensures))

pub unit_told-requires-clause-spelled : goal.unit_told-requires-clause-spelled
unit_told-requires-clause-spelled g c told =
    let d = g.D.Disks.view c.args.disks.now in
    let r = subst (λ (x : Partition). StandsOnDevices d x) (sym c.self.view_is) c.requires in
    spells_at d _ r.p r.v r.applied r.is told c.args.i (omega (arith, c.if-count-i.false, c.count.ensures))

pub returns-in_err-prepared-clause-stands : goal.returns-in_err-prepared-clause-stands
returns-in_err-prepared-clause-stands g c p v applied is =
    let d = g.D.Disks.view c.args.disks.now in
    let e = g.D.Disks.view c.unit_told.new.disks in
    let was = subst (λ (x : Partition). IsPartition d x p v applied) (sym c.self.view_is) is in
    let q = err_from_is_err_and c.from_residual.result c.from_residual.ensures.1 in
    rw (q.1, q.2) (unless d e (Some c.in_err-prepared.field-0.0) (IsLog e c.unit_told.new.log was.entries) _ c.in_err-prepared.ensures.kept (c.in_err-prepared.ensures.log was.entries was.is_log)
    (λ same is_log. moved d e _ _ p v applied was c.in_err-prepared.ensures.kept.shape same refl refl refl refl c.in_err-prepared.ensures.same.device is_log))

pub returns-clause-changes : goal.returns-clause-changes
returns-clause-changes g c p v applied is told =
    let d = g.D.Disks.view c.args.disks.now in
    let was = subst (λ (x : Partition). IsPartition d x p v applied) (sym c.self.view_is) is in
    ap (λ items. Some items) c.from_vec.ensures
    ∙ changes_at d _ p v applied was told c.args.i c.in_ok-prepared.prepared (omega (arith, c.if-count-i.false, c.count.ensures)) (c.in_ok-prepared.ensures.unit was.entries was.is_log told)

pub returns-clause-stands : goal.returns-clause-stands
returns-clause-stands g c p v applied is =
    let d = g.D.Disks.view c.args.disks.now in
    let e = g.D.Disks.view c.unit_told.new.disks in
    let kept = c.in_ok-prepared.ensures.kept in
    let was = subst (λ (x : Partition). IsPartition d x p v applied) (sym c.self.view_is) is in
    moved d e _ _ p v applied was kept.shape (unchanged d e kept) refl refl refl refl c.in_ok-prepared.ensures.same.device (c.in_ok-prepared.ensures.log was.entries was.is_log)
