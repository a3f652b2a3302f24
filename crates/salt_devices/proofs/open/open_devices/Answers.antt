use Rattle.salt_disk.specs.Disks.{FullWhere}
use Rattle.salt_commit.proofs.Beginning.{open_answer}
use Rattle.salt_devices.proofs.Answered.{like_finds, like_stands}
use Rattle.salt_devices.proofs.Migrating.{full_of, halted_as, leaves_yet, like_migrated, migration_fills, no_refusal, not_refused, opens_newest, others_in, something_yet, stands_in, stands_yet}
use Rattle.salt_devices.proofs.open.open_devices.Goals as goal
use Rattle.salt_disk.proofs.CallAfterCall.{cause_on}
use Rattle.salt_disk.specs.declared.disks.DiskErr.TheVariants.{Full}
use Rattle.salt_disk.specs.declared.disks.DiskErr.{DiskErr}
use Rattle.salt_commit.specs.Stores.{shape_of_store}
use Rattle.salt_promise.specs.Filling.{MigrationFills}
use Rattle.std.proofs.Common.{None, Some, inr, subst, ◌≡◌, ◌∙◌}
use Rattle.std.proofs.lemmas.Result.{err_from_is_err_and}

-- IT DOES NOT OPEN

pub returns-in_err-opened-clause-err : goal.returns-in_err-opened-clause-err
returns-in_err-opened-clause-err g c told =
    let p = err_from_is_err_and c.from_residual.result c.from_residual.ensures.1 in
    rw (p.1, p.2) (c.in_err-opened.ensures.err told)

pub returns-in_err-opened-clause-leaves : goal.returns-in_err-opened-clause-leaves
returns-in_err-opened-clause-leaves g c told some =
    let p = err_from_is_err_and c.from_residual.result c.from_residual.ensures.1 in
    rw (p.1, p.2) (leaves_yet (g.D.Disks.view c.args.disks.now) (g.D.Disks.view c.open_standing.new.disks) c.args.shape _ (c.in_err-opened.ensures.leaves told some))

pub returns-in_err-opened-clause-refused : goal.returns-in_err-opened-clause-refused
returns-in_err-opened-clause-refused g c told =
    let p = err_from_is_err_and c.from_residual.result c.from_residual.ensures.1 in
    rw (p.1, p.2) (c.in_err-opened.ensures.refused told)

pub returns-in_err-opened-clause-still : goal.returns-in_err-opened-clause-still
returns-in_err-opened-clause-still g c =
    let p = err_from_is_err_and c.from_residual.result c.from_residual.ensures.1 in
    rw p.1 c.in_err-opened.ensures.still

pub returns-in_err-opened-clause-rests : goal.returns-in_err-opened-clause-rests
returns-in_err-opened-clause-rests g c =
    let p = err_from_is_err_and c.from_residual.result c.from_residual.ensures.1 in
    rw p.1 c.in_err-opened.ensures.rests

pub returns-in_err-opened-clause-stopped : goal.returns-in_err-opened-clause-stopped
returns-in_err-opened-clause-stopped g c is =
    let p = err_from_is_err_and c.from_residual.result c.from_residual.ensures.1 in
    c.in_err-opened.ensures.stopped (cc (p.1, p.2, is))

pub returns-in_err-opened-clause-unwritten : goal.returns-in_err-opened-clause-unwritten
returns-in_err-opened-clause-unwritten g c refusal is refused told =
    let p = err_from_is_err_and c.from_residual.result c.from_residual.ensures.1 in
    rw (p.1, p.2) (c.in_err-opened.ensures.unwritten refusal is refused told)

pub returns-in_err-opened-clause-full : goal.returns-in_err-opened-clause-full
returns-in_err-opened-clause-full g c dev is =
    let p = err_from_is_err_and c.from_residual.result c.from_residual.ensures.1 in
    c.in_err-opened.ensures.full dev (cc (p.1, p.2, is))

pub returns-in_err-opened-clause-others : goal.returns-in_err-opened-clause-others
returns-in_err-opened-clause-others g c =
    let p = err_from_is_err_and c.from_residual.result c.from_residual.ensures.1 in
    rw (p.1, p.2) c.in_err-opened.ensures.others

pub returns-in_err-opened-clause-cause : goal.returns-in_err-opened-clause-cause
returns-in_err-opened-clause-cause g c =
    let p = err_from_is_err_and c.from_residual.result c.from_residual.ensures.1 in
    rw (p.1, p.2) c.in_err-opened.ensures.cause

-- IT IS NOT TAKEN into the newest format

pub migrate-requires : goal.migrate-requires
migrate-requires g c =
    let d = g.D.Disks.view c.args.disks.now in
    let e = g.D.Disks.view c.open_standing.new.disks in
    let x = c.in_ok-opened.opened in
    let o = c.in_ok-opened.ensures.ok in
    let same = c.in_ok-opened.ensures.others.shape in
    stands_in d e e c.args.shape x x c.in_ok-opened.found o same

pub returns-in_err-migrate-clause-err : goal.returns-in_err-migrate-clause-err
returns-in_err-migrate-clause-err g c told =
    let p = err_from_is_err_and c.from_residual-in_err-migrate.result c.from_residual-in_err-migrate.ensures.1 in
    rw (p.1, p.2) (halted_as c.args.shape (g.D.Disks.view c.args.disks.now).bytes c.in_err-migrate.field-0.0)

pub returns-in_err-migrate-clause-leaves : goal.returns-in_err-migrate-clause-leaves
returns-in_err-migrate-clause-leaves g c told some =
    let d = g.D.Disks.view c.args.disks.now in
    let e = g.D.Disks.view c.open_standing.new.disks in
    let f = g.D.Disks.view c.migrate.new.disks in
    let x = c.in_ok-opened.opened in
    let y = c.migrate.new.self in
    let o = c.in_ok-opened.ensures.ok in
    let same = c.in_ok-opened.ensures.others.shape in
    inr (stands_yet d e f c.args.shape x y c.in_ok-opened.found o same (Some c.in_err-migrate.field-0.0) c.in_err-migrate.ensures told)

pub returns-in_err-migrate-clause-refused : goal.returns-in_err-migrate-clause-refused
returns-in_err-migrate-clause-refused g c told =
    let p = err_from_is_err_and c.from_residual-in_err-migrate.result c.from_residual-in_err-migrate.ensures.1 in
    rw (p.1, p.2) (λ is. absurd (no_refusal c.in_err-migrate.field-0.0 is))

pub returns-in_err-migrate-clause-still : goal.returns-in_err-migrate-clause-still
returns-in_err-migrate-clause-still g c =
    let d = g.D.Disks.view c.args.disks.now in
    let e = g.D.Disks.view c.open_standing.new.disks in
    let f = g.D.Disks.view c.migrate.new.disks in
    let x = c.in_ok-opened.opened in
    let y = c.migrate.new.self in
    let o = c.in_ok-opened.ensures.ok in
    let same = c.in_ok-opened.ensures.others.shape in
    let p = err_from_is_err_and c.from_residual-in_err-migrate.result c.from_residual-in_err-migrate.ensures.1 in
    rw p.1 (λ told image left. like_finds c.args.shape d.bytes image (like_migrated d e f c.args.shape x y c.in_ok-opened.found o same (Some c.in_err-migrate.field-0.0) c.in_err-migrate.ensures told image left))

pub returns-in_err-migrate-clause-rests : goal.returns-in_err-migrate-clause-rests
returns-in_err-migrate-clause-rests g c =
    let d = g.D.Disks.view c.args.disks.now in
    let e = g.D.Disks.view c.open_standing.new.disks in
    let f = g.D.Disks.view c.migrate.new.disks in
    let x = c.in_ok-opened.opened in
    let y = c.migrate.new.self in
    let o = c.in_ok-opened.ensures.ok in
    let same = c.in_ok-opened.ensures.others.shape in
    let p = err_from_is_err_and c.from_residual-in_err-migrate.result c.from_residual-in_err-migrate.ensures.1 in
    rw p.1 (λ told image left. like_stands c.args.shape d.bytes image (like_migrated d e f c.args.shape x y c.in_ok-opened.found o same (Some c.in_err-migrate.field-0.0) c.in_err-migrate.ensures told image left))

pub returns-in_err-migrate-clause-stopped : goal.returns-in_err-migrate-clause-stopped
returns-in_err-migrate-clause-stopped g c is told image left =
    let d = g.D.Disks.view c.args.disks.now in
    let e = g.D.Disks.view c.open_standing.new.disks in
    let f = g.D.Disks.view c.migrate.new.disks in
    let x = c.in_ok-opened.opened in
    let y = c.migrate.new.self in
    let o = c.in_ok-opened.ensures.ok in
    let same = c.in_ok-opened.ensures.others.shape in
    something_yet d e f c.args.shape x y c.in_ok-opened.found o same (Some c.in_err-migrate.field-0.0) c.in_err-migrate.ensures told image left

pub returns-in_err-migrate-clause-unwritten : goal.returns-in_err-migrate-clause-unwritten
returns-in_err-migrate-clause-unwritten g c refusal is refused told =
    let d = g.D.Disks.view c.args.disks.now in
    let e = g.D.Disks.view c.open_standing.new.disks in
    let f = g.D.Disks.view c.migrate.new.disks in
    let x = c.in_ok-opened.opened in
    let y = c.migrate.new.self in
    let o = c.in_ok-opened.ensures.ok in
    let same = c.in_ok-opened.ensures.others.shape in
    absurd (not_refused d e f c.args.shape x y c.in_ok-opened.found o same (Some c.in_err-migrate.field-0.0) c.in_err-migrate.ensures told refusal is refused)

pub returns-in_err-migrate-clause-full : goal.returns-in_err-migrate-clause-full
returns-in_err-migrate-clause-full g c dev is =
    let d = g.D.Disks.view c.args.disks.now in
    let e = g.D.Disks.view c.open_standing.new.disks in
    let f = g.D.Disks.view c.migrate.new.disks in
    let x = c.in_ok-opened.opened in
    let y = c.migrate.new.self in
    let o = c.in_ok-opened.ensures.ok in
    let same = c.in_ok-opened.ensures.others.shape in
    let p = err_from_is_err_and c.from_residual-in_err-migrate.result c.from_residual-in_err-migrate.ensures.1 in
    let full : c.in_err-migrate.field-0.0 ≡ Full dev = full_of c.in_err-migrate.field-0.0 dev (cc (p.1, p.2, is)) in
    migration_fills d e f c.args.shape x y c.in_ok-opened.found o same dev c.in_err-migrate.ensures.others.shape (λ told. subst (λ (z : DiskErr). FullWhere (MigrationFills f (shape_of_store x)) (Some z)) full (c.in_err-migrate.ensures.full told))

pub returns-in_err-migrate-clause-others : goal.returns-in_err-migrate-clause-others
returns-in_err-migrate-clause-others g c =
    let d = g.D.Disks.view c.args.disks.now in
    let e = g.D.Disks.view c.open_standing.new.disks in
    let f = g.D.Disks.view c.migrate.new.disks in
    let x = c.in_ok-opened.opened in
    let y = c.migrate.new.self in
    let o = c.in_ok-opened.ensures.ok in
    let same = c.in_ok-opened.ensures.others.shape in
    let p = err_from_is_err_and c.from_residual-in_err-migrate.result c.from_residual-in_err-migrate.ensures.1 in
    rw (open_answer c.from_residual-in_err-migrate.result p.0 c.in_err-migrate.field-0.0 p.1 p.2) (others_in d e f c.args.shape x y c.in_ok-opened.found o same (Some c.in_err-migrate.field-0.0) c.in_ok-opened.ensures.others c.in_err-migrate.ensures.others)

pub returns-in_err-migrate-clause-cause : goal.returns-in_err-migrate-clause-cause
returns-in_err-migrate-clause-cause g c =
    let d = g.D.Disks.view c.args.disks.now in
    let e = g.D.Disks.view c.open_standing.new.disks in
    let f = g.D.Disks.view c.migrate.new.disks in
    let x = c.in_ok-opened.opened in
    let y = c.migrate.new.self in
    let o = c.in_ok-opened.ensures.ok in
    let same = c.in_ok-opened.ensures.others.shape in
    let p = err_from_is_err_and c.from_residual-in_err-migrate.result c.from_residual-in_err-migrate.ensures.1 in
    rw (open_answer c.from_residual-in_err-migrate.result p.0 c.in_err-migrate.field-0.0 p.1 p.2) (cause_on d e f (Some c.in_err-migrate.field-0.0) c.in_ok-opened.ensures.cause c.in_err-migrate.ensures.cause)

-- IT IS

pub returns-clause-ok : goal.returns-clause-ok
returns-clause-ok g c =
    let d = g.D.Disks.view c.args.disks.now in
    let e = g.D.Disks.view c.open_standing.new.disks in
    let f = g.D.Disks.view c.migrate.new.disks in
    let x = c.in_ok-opened.opened in
    let y = c.migrate.new.self in
    let o = c.in_ok-opened.ensures.ok in
    let same = c.in_ok-opened.ensures.others.shape in
    opens_newest d e f c.args.shape x y c.in_ok-opened.found o same c.in_ok-migrate.ensures

pub returns-clause-plain : goal.returns-clause-plain
returns-clause-plain g c =
    c.in_ok-migrate.ensures.messages ∙ c.in_ok-opened.ensures.plain

pub returns-clause-leaves : goal.returns-clause-leaves
returns-clause-leaves g c told some =
    let d = g.D.Disks.view c.args.disks.now in
    let e = g.D.Disks.view c.open_standing.new.disks in
    let f = g.D.Disks.view c.migrate.new.disks in
    let x = c.in_ok-opened.opened in
    let y = c.migrate.new.self in
    let o = c.in_ok-opened.ensures.ok in
    let same = c.in_ok-opened.ensures.others.shape in
    inr (stands_yet d e f c.args.shape x y c.in_ok-opened.found o same None c.in_ok-migrate.ensures told)

pub returns-clause-unwritten : goal.returns-clause-unwritten
returns-clause-unwritten g c refusal is refused told =
    let d = g.D.Disks.view c.args.disks.now in
    let e = g.D.Disks.view c.open_standing.new.disks in
    let f = g.D.Disks.view c.migrate.new.disks in
    let x = c.in_ok-opened.opened in
    let y = c.migrate.new.self in
    let o = c.in_ok-opened.ensures.ok in
    let same = c.in_ok-opened.ensures.others.shape in
    absurd (not_refused d e f c.args.shape x y c.in_ok-opened.found o same None c.in_ok-migrate.ensures told refusal is refused)

pub returns-clause-others : goal.returns-clause-others
returns-clause-others g c =
    let d = g.D.Disks.view c.args.disks.now in
    let e = g.D.Disks.view c.open_standing.new.disks in
    let f = g.D.Disks.view c.migrate.new.disks in
    let x = c.in_ok-opened.opened in
    let y = c.migrate.new.self in
    let o = c.in_ok-opened.ensures.ok in
    let same = c.in_ok-opened.ensures.others.shape in
    others_in d e f c.args.shape x y c.in_ok-opened.found o same None c.in_ok-opened.ensures.others c.in_ok-migrate.ensures.others

pub returns-clause-cause : goal.returns-clause-cause
returns-clause-cause g c =
    let d = g.D.Disks.view c.args.disks.now in
    let e = g.D.Disks.view c.open_standing.new.disks in
    let f = g.D.Disks.view c.migrate.new.disks in
    let x = c.in_ok-opened.opened in
    let y = c.migrate.new.self in
    let o = c.in_ok-opened.ensures.ok in
    let same = c.in_ok-opened.ensures.others.shape in
    cause_on d e f None c.in_ok-opened.ensures.cause c.in_ok-migrate.ensures.cause
