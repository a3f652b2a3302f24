use Rattle.salt_disk.specs.Disks.{IsSettled}
use Rattle.salt_disk.specs.declared.disks.DiskErr.TheVariants.{Failed}
use Rattle.salt_gatelog.proofs.Entries.{keeps_then, keeps_without_memory}
use Rattle.salt_partition.proofs.Framed.{logs_settled}
use Rattle.salt_partition.proofs.Reopened.{no_fault, not_later}
use Rattle.salt_partition.proofs.partition.Partition.found_later.Goals as goal
use Rattle.salt_partition.specs.Openings.{OpensAs}
use Rattle.salt_partition.specs.Reopening.{StandsToReopen}
use Rattle.salt_partition.specs.declared.partition.Partition.{Partition}
use Rattle.salt_stands.specs.Partition.{pages_device, part_device, part_tables}
use Rattle.std.proofs.Common.{Some, ap, subst, sym, ℕ, ◌+◌, ◌<◌}
use Rattle.std.proofs.lemmas.Result.{err_from_is_err_and}

pub opened_again-requires-clause-known : goal.opened_again-requires-clause-known
opened_again-requires-clause-known g c =
    let r = subst (λ (x : Partition). StandsToReopen (g.D.Disks.view c.args.disks.now) x c.args.boot c.args.decided.now c.args.changes.now) (sym c.self.view_is) c.requires in
    subst (λ (n : ℕ). pages_device n < (g.D.Disks.view c.args.disks.now).count) (sym r.is.part) r.is.known

pub opened_again-requires-clause-settled_a : goal.opened_again-requires-clause-settled_a
opened_again-requires-clause-settled_a g c =
    let d = g.D.Disks.view c.args.disks.now in
    let r = subst (λ (x : Partition). StandsToReopen d x c.args.boot c.args.decided.now c.args.changes.now) (sym c.self.view_is) c.requires in
    subst (λ (n : ℕ). IsSettled d (part_device n)) (sym r.is.part) (logs_settled d _ r.p r.v r.applied r.is).0

pub opened_again-requires-clause-settled_b : goal.opened_again-requires-clause-settled_b
opened_again-requires-clause-settled_b g c =
    let d = g.D.Disks.view c.args.disks.now in
    let r = subst (λ (x : Partition). StandsToReopen d x c.args.boot c.args.decided.now c.args.changes.now) (sym c.self.view_is) c.requires in
    subst (λ (n : ℕ). IsSettled d (part_device n + 1)) (sym r.is.part) (logs_settled d _ r.p r.v r.applied r.is).1

pub opened_again-requires-clause-sound : goal.opened_again-requires-clause-sound
opened_again-requires-clause-sound g c =
    let d = g.D.Disks.view c.args.disks.now in
    let r = subst (λ (x : Partition). StandsToReopen d x c.args.boot c.args.decided.now c.args.changes.now) (sym c.self.view_is) c.requires in
    no_fault d _ r.p r.v r.applied c.args.boot c.args.decided.now r.is r.known

pub returns-in_err-later-clause-kept : goal.returns-in_err-later-clause-kept
returns-in_err-later-clause-kept g c =
    let p = err_from_is_err_and c.from_residual-in_err-later.result c.from_residual-in_err-later.ensures.1 in
    rw (p.1, p.2) (keeps_without_memory (g.D.Disks.view c.args.disks.now) (g.D.Disks.view c.opened_again.new.disks) c.in_ok-opened.ensures.kept)

pub rejected-requires : goal.rejected-requires
rejected-requires g c =
    let r = c.requires in
    let e = g.D.Disks.view c.opened_again.new.disks in
    let opens = subst (λ (n : ℕ). OpensAs (g.D.Disks.view c.args.disks.now) e c.in_ok-opened.opened c.args.boot c.args.decided.now n) (ap (λ (x : Partition). x.part) c.self.view_is) c.in_ok-opened.ensures.opens in
    not_later (g.D.Disks.view c.args.disks.now) e c.args.self.now c.in_ok-opened.opened c.args.boot c.args.decided.now c.in_ok-opened.ensures.kept opens
    r.p r.v r.applied r.decided c.args.changes.now r.is r.goes_on c.in_ok-later.later c.if-not-later.true (c.in_ok-later.ensures (part_tables r.applied r.v.log r.v.rows) r.is.rows) r.same

pub returns-then-not-later-clause-kept : goal.returns-then-not-later-clause-kept
returns-then-not-later-clause-kept g c =
    rw c.rejected.ensures.failed (keeps_then (g.D.Disks.view c.args.disks.now) (g.D.Disks.view c.opened_again.new.disks) (g.D.Disks.view c.rejected.new.disks) (Some Failed) c.in_ok-opened.ensures.kept c.rejected.ensures.kept)

pub returns-clause-later : goal.returns-clause-later
returns-clause-later g c t rows = (c.in_ok-later.ensures t rows).0 c.if-not-later.false

pub returns-clause-opens : goal.returns-clause-opens
returns-clause-opens g c =
    subst (λ (n : ℕ). OpensAs (g.D.Disks.view c.args.disks.now) (g.D.Disks.view c.opened_again.new.disks) c.in_ok-opened.opened c.args.boot c.args.decided.now n) (ap (λ (x : Partition). x.part) c.self.view_is) c.in_ok-opened.ensures.opens
