use Rattle.salt_checkpoint.proofs.Torn.{keeps_more}
use Rattle.salt_disk.proofs.CallAfterCall.{cause_on, keeps_on}
use Rattle.salt_disk.specs.Disks.{IsSettled}
use Rattle.salt_disk.specs.declared.disks.DiskErr.TheVariants.{Failed, Full}
use Rattle.salt_paged.proofs.Framed.{logs_settled}
use Rattle.salt_paged.proofs.Opened.{named_all, others_all}
use Rattle.salt_paged.proofs.Reopened.{named_view, no_fault, not_same, settles}
use Rattle.salt_paged.proofs.partition.Partition.found_again.Goals as goal
use Rattle.salt_paged.specs.Openings.{SettlesNamed}
use Rattle.salt_paged.specs.Partitions.{pages_of}
use Rattle.salt_stands.specs.Partition.{pages_device, part_device}
use Rattle.std.proofs.Common.{Err, Some, ap, subst, sym, ℕ, ◌+◌, ◌<◌, ◌≡◌}
use Rattle.std.proofs.lemmas.Result.{err_from_is_err_and}

pub opened_again-requires-clause-known : goal.opened_again-requires-clause-known
opened_again-requires-clause-known g c =
    let r = c.requires in
    subst (λ (n : ℕ). pages_device n < (g.D.Disks.view c.args.disks.now).count) (sym r.is.part) r.is.known

pub opened_again-requires-clause-settled_a : goal.opened_again-requires-clause-settled_a
opened_again-requires-clause-settled_a g c =
    let r = c.requires in
    let d = g.D.Disks.view c.args.disks.now in
    subst (λ (n : ℕ). IsSettled d (part_device n)) (sym r.is.part) (logs_settled d c.args.self.now r.p r.v r.applied r.is).0

pub opened_again-requires-clause-settled_b : goal.opened_again-requires-clause-settled_b
opened_again-requires-clause-settled_b g c =
    let r = c.requires in
    let d = g.D.Disks.view c.args.disks.now in
    subst (λ (n : ℕ). IsSettled d (part_device n + 1)) (sym r.is.part) (logs_settled d c.args.self.now r.p r.v r.applied r.is).1

pub opened_again-requires-clause-named : goal.opened_again-requires-clause-named
opened_again-requires-clause-named g c told =
    let r = c.requires in
    let d = g.D.Disks.view c.args.disks.now in
    subst (λ (n : ℕ). SettlesNamed d n) (sym r.is.part) (settles d c.args.self.now r.p r.v r.applied r.is told)

pub opened_again-requires-clause-sound : goal.opened_again-requires-clause-sound
opened_again-requires-clause-sound g c =
    let r = c.requires in
    no_fault (g.D.Disks.view c.args.disks.now) c.args.self.now r.p r.v r.applied c.args.boot c.args.decided.now r.is r.known

pub returns-in_err-opened-clause-images : goal.returns-in_err-opened-clause-images
returns-in_err-opened-clause-images g c p v applied is told =
    named_view (g.D.Disks.view c.args.disks.now) (g.D.Disks.view c.opened_again.new.disks) c.args.self.now p v applied is told (c.opened_again.ensures.images told)

pub returns-in_err-opened-clause-device : goal.returns-in_err-opened-clause-device
returns-in_err-opened-clause-device g c n is =
    let p = err_from_is_err_and c.from_residual.result c.from_residual.ensures.1 in
    let same : c.in_err-opened.field-0.0 ≡ Full n = cc (p.1, p.2, is) in
    c.in_err-opened.ensures.device n (ap Err same)

-- ANOTHER LOG is none that was written

pub rejected-requires : goal.rejected-requires
rejected-requires g c =
    let r = c.requires in
    not_same (g.D.Disks.view c.args.disks.now) (g.D.Disks.view c.opened_again.new.disks) c.args.self.now c.in_ok-opened.opened c.args.boot c.args.decided.now r.p r.v r.applied r.is c.in_ok-opened.ensures.opens c.in_ok-opened.ensures.others
    c.has_log_of-same.result c.if-not-same.true c.has_log_of-same.ensures

pub returns-then-not-same-clause-images : goal.returns-then-not-same-clause-images
returns-then-not-same-clause-images g c p v applied is told =
    let d = g.D.Disks.view c.args.disks.now in
    let e = g.D.Disks.view c.opened_again.new.disks in
    let f = g.D.Disks.view c.rejected.new.disks in
    let x = c.args.self.now in
    keeps_more v.log.header.sides d e f (pages_of x) (named_view d e x p v applied is told (c.opened_again.ensures.images told)) (named_all v.log.header.sides e f (pages_of x) (Some Failed) c.rejected.ensures.kept)

pub returns-then-not-same-clause-others : goal.returns-then-not-same-clause-others
returns-then-not-same-clause-others g c =
    let d = g.D.Disks.view c.args.disks.now in
    let e = g.D.Disks.view c.opened_again.new.disks in
    let f = g.D.Disks.view c.rejected.new.disks in
    let pages = pages_of c.args.self.now in
    rw c.rejected.ensures.failed (keeps_on (λ dev. dev ≡ pages) d e f (Some Failed) c.in_ok-opened.ensures.others (others_all e f pages (Some Failed) c.rejected.ensures.kept))

pub returns-then-not-same-clause-cause : goal.returns-then-not-same-clause-cause
returns-then-not-same-clause-cause g c =
    let d = g.D.Disks.view c.args.disks.now in
    let e = g.D.Disks.view c.opened_again.new.disks in
    rw c.rejected.ensures.failed (cause_on d e (g.D.Disks.view c.rejected.new.disks) (Some Failed) c.in_ok-opened.ensures.cause c.rejected.ensures.cause)

-- THE SAME ONE

pub returns-clause-same : goal.returns-clause-same
returns-clause-same g c = c.has_log_of-same.ensures.0 c.if-not-same.false

pub returns-clause-images : goal.returns-clause-images
returns-clause-images g c p v applied is told =
    named_view (g.D.Disks.view c.args.disks.now) (g.D.Disks.view c.opened_again.new.disks) c.args.self.now p v applied is told (c.opened_again.ensures.images told)
