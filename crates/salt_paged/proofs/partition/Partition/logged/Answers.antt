use Rattle.salt_bytes.specs.Partition.{prepared_in}
use Rattle.salt_codec.specs.Entries.{prepared_of}
use Rattle.salt_gatelog.specs.Log.{IsLog}
use Rattle.salt_paged.proofs.Logged.{changes_at, none_at, spells_at}
use Rattle.salt_paged.proofs.Paged.{store_kept}
use Rattle.salt_paged.proofs.Standing.{moved}
use Rattle.salt_partition.proofs.Steps.{unchanged, unless}
use Rattle.salt_paged.proofs.partition.Partition.logged.Goals as goal
use Rattle.salt_paged.specs.Partitions.{IsPartition}
use Rattle.salt_partition.specs.Contents.{SpellsUnit}
use Rattle.salt_stands.specs.Partition.{pages_device}
use Rattle.std.proofs.Common.{Bool, Some, ap, arith, refl, slice_get, subst, sym, ◌+◌, ◌≡◌, ◌∙◌}
use Rattle.std.proofs.lemmas.Result.{err_from_is_err_and}
use Rattle.std.specs.Prelude.{option_and_then}

pub returns-then-count-i-clause-changes : goal.returns-then-count-i-clause-changes
returns-then-count-i-clause-changes g c p v applied is told =
    none_at (g.D.Disks.view c.args.disks.now) c.args.self.now p v applied is told c.args.i (omega (arith, c.if-count-i.true, c.count.ensures))

pub unit_told-requires-clause-spelled : goal.unit_told-requires-clause-spelled
unit_told-requires-clause-spelled g c told =
    let d = g.D.Disks.view c.args.disks.now in
    let x = c.args.self.now in
    let r = c.requires in
    subst (λ (nulls : Bool). SpellsUnit d x.log nulls (c.args.i + 1)) (sym c.has_nulls-nulls.ensures) (spells_at d x r.p r.v r.applied r.is told c.args.i (omega (arith, c.if-count-i.false, c.count.ensures)))

pub returns-in_err-prepared-clause-stands : goal.returns-in_err-prepared-clause-stands
returns-in_err-prepared-clause-stands g c p v applied is =
    let d = g.D.Disks.view c.args.disks.now in
    let e = g.D.Disks.view c.unit_told.new.disks in
    let x = c.args.self.now in
    let y = record x { log = c.unit_told.new.log } in
    let q = err_from_is_err_and c.from_residual.result c.from_residual.ensures.1 in
    rw (q.1, q.2) (unless d e (Some c.in_err-prepared.field-0.0) (IsLog e c.unit_told.new.log is.entries) (IsPartition e y p v applied) c.in_err-prepared.ensures.kept (c.in_err-prepared.ensures.log is.entries is.is_log)
    (λ same is_log. moved d e x y p v applied v.log.prepared is c.in_err-prepared.ensures.kept.shape same refl refl refl refl c.in_err-prepared.ensures.same.device is_log (store_kept d e x.rows (pages_device p) v.log.header.sides _ c.in_err-prepared.ensures.kept.shape (same (pages_device p)).bytes is.rows)))

pub returns-clause-changes : goal.returns-clause-changes
returns-clause-changes g c p v applied is told =
    ap (λ items. Some items) c.from_vec.ensures
    ∙ changes_at (g.D.Disks.view c.args.disks.now) c.args.self.now p v applied is told c.args.i c.in_ok-prepared.prepared (omega (arith, c.if-count-i.false, c.count.ensures))
    (subst (λ (nulls : Bool). Some (prepared_of c.in_ok-prepared.prepared) ≡ option_and_then (prepared_in nulls) (slice_get is.entries (c.args.i + 1))) c.has_nulls-nulls.ensures (c.in_ok-prepared.ensures.unit is.entries is.is_log told))

pub returns-clause-stands : goal.returns-clause-stands
returns-clause-stands g c p v applied is =
    let d = g.D.Disks.view c.args.disks.now in
    let e = g.D.Disks.view c.unit_told.new.disks in
    let kept = c.in_ok-prepared.ensures.kept in
    moved d e c.args.self.now _ p v applied v.log.prepared is kept.shape (unchanged d e kept) refl refl refl refl c.in_ok-prepared.ensures.same.device (c.in_ok-prepared.ensures.log is.entries is.is_log) (store_kept d e c.args.self.now.rows (pages_device p) v.log.header.sides _ kept.shape (unchanged d e kept (pages_device p)).bytes is.rows)
