use Rattle.salt_commit.proofs.Opening.{nothing, opens_at}
use Rattle.salt_commit.specs.Openings.{MayWrite}
use Rattle.salt_commit.specs.Stores.{IsStoreDevice}
use Rattle.salt_devices.proofs.Answered.{like_finds, like_stands}
use Rattle.salt_devices.proofs.Fitting.{Texts, not_unread, opens_in}
use Rattle.salt_devices.proofs.Opening.{full_writes, keeps_memory, leaves_first, leaves_memory, like_opened, like_unwritten, opening_fills, refused_as, something_left, stopped_writes}
use Rattle.salt_devices.proofs.open.open_standing.Goals as goal
use Rattle.salt_devices.proofs.Refused.{full_err, stopped_err, writes_nothing}
use Rattle.salt_devices.specs.Opened.{IsRead}
use Rattle.salt_devices.specs.Refusing.{RefusedAs}
use Rattle.salt_disk.proofs.CallAfterCall.{cause_memory, cause_on, keeps_on, shape_goes_on}
use Rattle.salt_disk.specs.declared.disks.DiskErr.TheVariants.{Full, Memory, Stopped}
use Rattle.salt_gatelog.proofs.Entries.{not_told}
use Rattle.salt_parts.proofs.Lists.{if_some}
use Rattle.salt_parts.proofs.Reading.{same_bytes}
use Rattle.salt_stands.specs.Stands.{are_spent}
use Rattle.salt_storage.specs.Answers.{open_disk_err_of}
use Rattle.salt_storage.specs.OpenErr.TheVariants as opening
use Rattle.salt_storage.specs.declared.found.Found.{Found}
use Rattle.std.proofs.Common.{Err, IsTrue, List, None, Ok, Some, ap, inl, subst, sym, ℕ, ◌≡◌, ◌∙◌}
use Rattle.std.proofs.lemmas.Result.{err_from_is_err_and}

-- WHERE THE LOG IS NOT READ

pub returns-in_err-schema-clause-err : goal.returns-in_err-schema-clause-err
returns-in_err-schema-clause-err g c told =
    let p = err_from_is_err_and c.from_residual.result c.from_residual.ensures.1 in
    rw (p.1, p.2) (c.in_err-schema.ensures.err told c.args.shape)

pub returns-in_err-schema-clause-leaves : goal.returns-in_err-schema-clause-leaves
returns-in_err-schema-clause-leaves g c told some =
    let p = err_from_is_err_and c.from_residual.result c.from_residual.ensures.1 in
    rw (p.1, p.2) (inl c.in_err-schema.ensures.kept)

pub returns-in_err-schema-clause-refused : goal.returns-in_err-schema-clause-refused
returns-in_err-schema-clause-refused g c told =
    let p = err_from_is_err_and c.from_residual.result c.from_residual.ensures.1 in
    rw (p.1, p.2) (λ refusal. c.in_err-schema.ensures.kept)

pub returns-in_err-schema-clause-still : goal.returns-in_err-schema-clause-still
returns-in_err-schema-clause-still g c =
    let p = err_from_is_err_and c.from_residual.result c.from_residual.ensures.1 in
    let d = g.D.Disks.view c.args.disks.now in
    rw p.1 (λ told image left. like_finds c.args.shape d.bytes image (like_unwritten d c.args.shape c.requires.parts c.requires.room (g.D.Disks.view c.schema_of_log.new.disks) _ c.in_err-schema.ensures.kept image left))

pub returns-in_err-schema-clause-rests : goal.returns-in_err-schema-clause-rests
returns-in_err-schema-clause-rests g c =
    let p = err_from_is_err_and c.from_residual.result c.from_residual.ensures.1 in
    let d = g.D.Disks.view c.args.disks.now in
    rw p.1 (λ told image left. like_stands c.args.shape d.bytes image (like_unwritten d c.args.shape c.requires.parts c.requires.room (g.D.Disks.view c.schema_of_log.new.disks) _ c.in_err-schema.ensures.kept image left))

pub returns-in_err-schema-clause-full : goal.returns-in_err-schema-clause-full
returns-in_err-schema-clause-full g c dev is told =
    let p = err_from_is_err_and c.from_residual.result c.from_residual.ensures.1 in
    let same : c.in_err-schema.field-0.0 ≡ opening.Full dev = cc (p.1, p.2, is) in
    absurd (c.in_err-schema.ensures.full dev (ap Err same) (sym c.in_err-schema.ensures.kept.shape.told ∙ told))

pub returns-in_err-schema-clause-unwritten : goal.returns-in_err-schema-clause-unwritten
returns-in_err-schema-clause-unwritten g c refusal is refused told =
    let p = err_from_is_err_and c.from_residual.result c.from_residual.ensures.1 in
    rw (p.1, p.2) (record { keeps = c.in_err-schema.ensures.kept; unstopped = λ stop. c.in_err-schema.ensures.stopped (ap Err (stopped_err c.in_err-schema.field-0.0 stop)) told; not_full = λ dev full. c.in_err-schema.ensures.full dev (ap Err (full_err c.in_err-schema.field-0.0 dev full)) told })

-- WHERE IT OPENS

pub returns-in-Ok-Some-clause-ok : goal.returns-in-Ok-Some-clause-ok
returns-in-Ok-Some-clause-ok g c =
    let texts : Texts = λ text def is. (c.definitions_are_read.ensures text def).0 is in
    let d = g.D.Disks.view c.args.disks.now in
    let b = g.D.Disks.view c.schema_of_log.new.disks in
    let e = g.D.Disks.view c.open_store.new.disks in
    let first = c.in_ok-schema.ensures.kept in
    let o = opens_at c.args.shape d b e c.in-Ok.store c.in-Ok.kept first c.in-Ok.ensures.ok in
    opens_in texts c.spelled_tables_have_keys.ensures d e c.args.shape c.in-Ok.store c.in-Ok.kept o (shape_goes_on d b e first.shape c.in-Ok.ensures.others.shape) c.in-Ok-Some.recovered
    (if_some c.in-Ok-Some.field-0 c.in-Ok-Some.recovered (IsRead c.in-Ok.kept) c.in-Ok-Some.field-0-is c.in-Ok-Some.ensures.some) c.found_of.result c.found_of.ensures

pub returns-in-Ok-Some-clause-numbers : goal.returns-in-Ok-Some-clause-numbers
returns-in-Ok-Some-clause-numbers g c =
    let o = c.in-Ok.ensures.ok in
    ap (λ (f : Found). are_spent f.boot f.decisions) c.found_of.ensures ∙ ap (λ n. are_spent n c.in-Ok.kept.decisions) o.keeps.boot ∙ ap (are_spent o.c.log.told.boot) o.keeps.decisions ∙ o.unspent

pub returns-in-Ok-Some-clause-leaves : goal.returns-in-Ok-Some-clause-leaves
returns-in-Ok-Some-clause-leaves g c told some =
    let d = g.D.Disks.view c.args.disks.now in
    let b = g.D.Disks.view c.schema_of_log.new.disks in
    let e = g.D.Disks.view c.open_store.new.disks in
    let first = c.in_ok-schema.ensures.kept in
    let now : IsTrue b.told = first.shape.told ∙ told in
    leaves_first d c.args.shape c.requires.parts c.requires.room b e (None) first (c.in-Ok.ensures.leaves now) (c.in-Ok.ensures.images now) some

pub returns-in-Ok-Some-clause-others : goal.returns-in-Ok-Some-clause-others
returns-in-Ok-Some-clause-others g c =
    let d = g.D.Disks.view c.args.disks.now in
    let b = g.D.Disks.view c.schema_of_log.new.disks in
    let e = g.D.Disks.view c.open_store.new.disks in
    let first = c.in_ok-schema.ensures.kept in
    keeps_on (IsStoreDevice c.args.shape.parts) d b e None (nothing (IsStoreDevice c.args.shape.parts) d b None first) c.in-Ok.ensures.others

pub returns-in-Ok-Some-clause-unwritten : goal.returns-in-Ok-Some-clause-unwritten
returns-in-Ok-Some-clause-unwritten g c refusal is refused told =
    let d = g.D.Disks.view c.args.disks.now in
    let b = g.D.Disks.view c.schema_of_log.new.disks in
    let e = g.D.Disks.view c.open_store.new.disks in
    let first = c.in_ok-schema.ensures.kept in
    let now : IsTrue b.told = first.shape.told ∙ told in
    writes_nothing d e c.args.shape None refusal is refused (leaves_first d c.args.shape c.requires.parts c.requires.room b e (None) first (c.in-Ok.ensures.leaves now) (c.in-Ok.ensures.images now)) (λ stop. absurd (cc stop)) (λ dev full. absurd (cc full))

-- WHERE WHAT IT OPENED IS NOT READ, the disks do not tell

pub fault-requires : goal.fault-requires
fault-requires g c =
    let d = g.D.Disks.view c.args.disks.now in
    let b = g.D.Disks.view c.schema_of_log.new.disks in
    let e = g.D.Disks.view c.open_store.new.disks in
    let first = c.in_ok-schema.ensures.kept in
    let o = opens_at c.args.shape d b e c.in-Ok.store c.in-Ok.kept first c.in-Ok.ensures.ok in
    not_told e.told (λ then.
    not_unread d e c.args.shape c.in-Ok.store c.in-Ok.kept o then (c.in-Ok-None.ensures.none (ap Ok c.in-Ok-None.field-0-is) o.c.log o.keeps))

pub returns-in-Ok-None-clause-others : goal.returns-in-Ok-None-clause-others
returns-in-Ok-None-clause-others g c =
    let d = g.D.Disks.view c.args.disks.now in
    let b = g.D.Disks.view c.schema_of_log.new.disks in
    let e = g.D.Disks.view c.open_store.new.disks in
    let first = c.in_ok-schema.ensures.kept in
    let f = g.D.Disks.view c.fault.new.disks in
    let touched = IsStoreDevice c.args.shape.parts in
    keeps_on touched d e f (open_disk_err_of c.fault.result) (keeps_on touched d b e None (nothing touched d b None first) c.in-Ok.ensures.others)
    (nothing touched e f (open_disk_err_of c.fault.result) c.fault.ensures.kept)

pub returns-in-Ok-None-clause-leaves : goal.returns-in-Ok-None-clause-leaves
returns-in-Ok-None-clause-leaves g c told some =
    let d = g.D.Disks.view c.args.disks.now in
    let b = g.D.Disks.view c.schema_of_log.new.disks in
    let e = g.D.Disks.view c.open_store.new.disks in
    let first = c.in_ok-schema.ensures.kept in
    let now : IsTrue b.told = first.shape.told ∙ told in
    let o = opens_at c.args.shape d b e c.in-Ok.store c.in-Ok.kept first c.in-Ok.ensures.ok in
    let then : IsTrue e.told = c.in-Ok.ensures.others.shape.told ∙ now in
    absurd (not_unread d e c.args.shape c.in-Ok.store c.in-Ok.kept o then (c.in-Ok-None.ensures.none (ap Ok c.in-Ok-None.field-0-is) o.c.log o.keeps))

pub returns-in-Ok-None-clause-refused : goal.returns-in-Ok-None-clause-refused
returns-in-Ok-None-clause-refused g c told =
    let d = g.D.Disks.view c.args.disks.now in
    let b = g.D.Disks.view c.schema_of_log.new.disks in
    let e = g.D.Disks.view c.open_store.new.disks in
    let first = c.in_ok-schema.ensures.kept in
    let now : IsTrue b.told = first.shape.told ∙ told in
    let o = opens_at c.args.shape d b e c.in-Ok.store c.in-Ok.kept first c.in-Ok.ensures.ok in
    let then : IsTrue e.told = c.in-Ok.ensures.others.shape.told ∙ now in
    absurd (not_unread d e c.args.shape c.in-Ok.store c.in-Ok.kept o then (c.in-Ok-None.ensures.none (ap Ok c.in-Ok-None.field-0-is) o.c.log o.keeps))

pub returns-in-Ok-None-clause-still : goal.returns-in-Ok-None-clause-still
returns-in-Ok-None-clause-still g c told image left =
    let d = g.D.Disks.view c.args.disks.now in
    let b = g.D.Disks.view c.schema_of_log.new.disks in
    let e = g.D.Disks.view c.open_store.new.disks in
    let first = c.in_ok-schema.ensures.kept in
    let now : IsTrue b.told = first.shape.told ∙ told in
    let o = opens_at c.args.shape d b e c.in-Ok.store c.in-Ok.kept first c.in-Ok.ensures.ok in
    let then : IsTrue e.told = c.in-Ok.ensures.others.shape.told ∙ now in
    absurd (not_unread d e c.args.shape c.in-Ok.store c.in-Ok.kept o then (c.in-Ok-None.ensures.none (ap Ok c.in-Ok-None.field-0-is) o.c.log o.keeps))

pub returns-in-Ok-None-clause-rests : goal.returns-in-Ok-None-clause-rests
returns-in-Ok-None-clause-rests g c told image left =
    let d = g.D.Disks.view c.args.disks.now in
    let b = g.D.Disks.view c.schema_of_log.new.disks in
    let e = g.D.Disks.view c.open_store.new.disks in
    let first = c.in_ok-schema.ensures.kept in
    let now : IsTrue b.told = first.shape.told ∙ told in
    let o = opens_at c.args.shape d b e c.in-Ok.store c.in-Ok.kept first c.in-Ok.ensures.ok in
    let then : IsTrue e.told = c.in-Ok.ensures.others.shape.told ∙ now in
    absurd (not_unread d e c.args.shape c.in-Ok.store c.in-Ok.kept o then (c.in-Ok-None.ensures.none (ap Ok c.in-Ok-None.field-0-is) o.c.log o.keeps))

pub returns-in-Ok-None-clause-unwritten : goal.returns-in-Ok-None-clause-unwritten
returns-in-Ok-None-clause-unwritten g c refusal is refused told =
    let d = g.D.Disks.view c.args.disks.now in
    let b = g.D.Disks.view c.schema_of_log.new.disks in
    let e = g.D.Disks.view c.open_store.new.disks in
    let first = c.in_ok-schema.ensures.kept in
    let now : IsTrue b.told = first.shape.told ∙ told in
    let o = opens_at c.args.shape d b e c.in-Ok.store c.in-Ok.kept first c.in-Ok.ensures.ok in
    let then : IsTrue e.told = c.in-Ok.ensures.others.shape.told ∙ now in
    absurd (not_unread d e c.args.shape c.in-Ok.store c.in-Ok.kept o then (c.in-Ok-None.ensures.none (ap Ok c.in-Ok-None.field-0-is) o.c.log o.keeps))

pub returns-in-Ok-None-clause-cause : goal.returns-in-Ok-None-clause-cause
returns-in-Ok-None-clause-cause g c =
    let d = g.D.Disks.view c.args.disks.now in
    let b = g.D.Disks.view c.schema_of_log.new.disks in
    let e = g.D.Disks.view c.open_store.new.disks in
    cause_on d e (g.D.Disks.view c.fault.new.disks) (open_disk_err_of c.fault.result) (cause_on d b e None c.in_ok-schema.ensures.cause c.in-Ok.ensures.cause) c.fault.ensures.cause

-- WHERE MEMORY RUNS OUT behind it

pub returns-in-Ok-clause-leaves : goal.returns-in-Ok-clause-leaves
returns-in-Ok-clause-leaves g c told some =
    let d = g.D.Disks.view c.args.disks.now in
    let b = g.D.Disks.view c.schema_of_log.new.disks in
    let e = g.D.Disks.view c.open_store.new.disks in
    let first = c.in_ok-schema.ensures.kept in
    let now : IsTrue b.told = first.shape.told ∙ told in
    rw c.into.ensures (leaves_memory d e c.args.shape (leaves_first d c.args.shape c.requires.parts c.requires.room b e (None) first (c.in-Ok.ensures.leaves now) (c.in-Ok.ensures.images now) some))

pub returns-in-Ok-clause-refused : goal.returns-in-Ok-clause-refused
returns-in-Ok-clause-refused g c told = rw c.into.ensures (λ refusal. absurd refusal)

pub returns-in-Ok-clause-still : goal.returns-in-Ok-clause-still
returns-in-Ok-clause-still g c told image left =
    let d = g.D.Disks.view c.args.disks.now in
    let b = g.D.Disks.view c.schema_of_log.new.disks in
    let e = g.D.Disks.view c.open_store.new.disks in
    let first = c.in_ok-schema.ensures.kept in
    let now : IsTrue b.told = first.shape.told ∙ told in
    like_finds c.args.shape d.bytes image (like_opened d c.args.shape c.requires.parts c.requires.room b e (None) first (c.in-Ok.ensures.leaves now) (c.in-Ok.ensures.images now) image left)

pub returns-in-Ok-clause-rests : goal.returns-in-Ok-clause-rests
returns-in-Ok-clause-rests g c told image left =
    let d = g.D.Disks.view c.args.disks.now in
    let b = g.D.Disks.view c.schema_of_log.new.disks in
    let e = g.D.Disks.view c.open_store.new.disks in
    let first = c.in_ok-schema.ensures.kept in
    let now : IsTrue b.told = first.shape.told ∙ told in
    like_stands c.args.shape d.bytes image (like_opened d c.args.shape c.requires.parts c.requires.room b e (None) first (c.in-Ok.ensures.leaves now) (c.in-Ok.ensures.images now) image left)

pub returns-in-Ok-clause-unwritten : goal.returns-in-Ok-clause-unwritten
returns-in-Ok-clause-unwritten g c refusal is refused told =
    let d = g.D.Disks.view c.args.disks.now in
    let b = g.D.Disks.view c.schema_of_log.new.disks in
    let e = g.D.Disks.view c.open_store.new.disks in
    let first = c.in_ok-schema.ensures.kept in
    writes_nothing d e c.args.shape (open_disk_err_of c.into.result) refusal is refused (returns-in-Ok-clause-leaves g c told)
    (λ stop. let both : Some Memory ≡ Some Stopped = sym (ap open_disk_err_of c.into.ensures) ∙ stop in absurd (cc both))
    (λ dev full. let both : Some Memory ≡ Some (Full dev) = sym (ap open_disk_err_of c.into.ensures) ∙ full in absurd (cc both))

pub returns-in-Ok-clause-cause : goal.returns-in-Ok-clause-cause
returns-in-Ok-clause-cause g c =
    let d = g.D.Disks.view c.args.disks.now in
    let b = g.D.Disks.view c.schema_of_log.new.disks in
    let e = g.D.Disks.view c.open_store.new.disks in
    rw c.into.ensures (cause_memory d e (cause_on d b e None c.in_ok-schema.ensures.cause c.in-Ok.ensures.cause))

pub returns-in-Ok-clause-others : goal.returns-in-Ok-clause-others
returns-in-Ok-clause-others g c =
    let d = g.D.Disks.view c.args.disks.now in
    let b = g.D.Disks.view c.schema_of_log.new.disks in
    let e = g.D.Disks.view c.open_store.new.disks in
    let first = c.in_ok-schema.ensures.kept in
    let touched = IsStoreDevice c.args.shape.parts in
    rw c.into.ensures (keeps_memory touched d e (keeps_on touched d b e None (nothing touched d b None first) c.in-Ok.ensures.others))

-- WHERE THE STORE DOES NOT OPEN

pub returns-clause-err : goal.returns-clause-err
returns-clause-err g c told =
    let d = g.D.Disks.view c.args.disks.now in
    let b = g.D.Disks.view c.schema_of_log.new.disks in
    let first = c.in_ok-schema.ensures.kept in
    subst (λ (bytes : ℕ → List ℕ). RefusedAs c.args.shape bytes c.in-Err.e) (same_bytes d b first) (refused_as c.args.shape b.bytes c.in-Err.e (c.in-Err.ensures.err (first.shape.told ∙ told)))

pub returns-clause-leaves : goal.returns-clause-leaves
returns-clause-leaves g c told some =
    let d = g.D.Disks.view c.args.disks.now in
    let b = g.D.Disks.view c.schema_of_log.new.disks in
    let e = g.D.Disks.view c.open_store.new.disks in
    let first = c.in_ok-schema.ensures.kept in
    let now : IsTrue b.told = first.shape.told ∙ told in
    leaves_first d c.args.shape c.requires.parts c.requires.room b e (open_disk_err_of c.in-Err.e) first (c.in-Err.ensures.leaves now) (c.in-Err.ensures.images now) some

pub returns-clause-refused : goal.returns-clause-refused
returns-clause-refused g c told refusal =
    let d = g.D.Disks.view c.args.disks.now in
    let b = g.D.Disks.view c.schema_of_log.new.disks in
    let e = g.D.Disks.view c.open_store.new.disks in
    let first = c.in_ok-schema.ensures.kept in
    keeps_on (λ _. ⊥) d b e (open_disk_err_of c.in-Err.e) first (c.in-Err.ensures.refused (first.shape.told ∙ told) refusal)

pub returns-clause-still : goal.returns-clause-still
returns-clause-still g c told image left =
    let d = g.D.Disks.view c.args.disks.now in
    let b = g.D.Disks.view c.schema_of_log.new.disks in
    let e = g.D.Disks.view c.open_store.new.disks in
    let first = c.in_ok-schema.ensures.kept in
    let now : IsTrue b.told = first.shape.told ∙ told in
    like_finds c.args.shape d.bytes image (like_opened d c.args.shape c.requires.parts c.requires.room b e (open_disk_err_of c.in-Err.e) first (c.in-Err.ensures.leaves now) (c.in-Err.ensures.images now) image left)

pub returns-clause-rests : goal.returns-clause-rests
returns-clause-rests g c told image left =
    let d = g.D.Disks.view c.args.disks.now in
    let b = g.D.Disks.view c.schema_of_log.new.disks in
    let e = g.D.Disks.view c.open_store.new.disks in
    let first = c.in_ok-schema.ensures.kept in
    let now : IsTrue b.told = first.shape.told ∙ told in
    like_stands c.args.shape d.bytes image (like_opened d c.args.shape c.requires.parts c.requires.room b e (open_disk_err_of c.in-Err.e) first (c.in-Err.ensures.leaves now) (c.in-Err.ensures.images now) image left)

pub returns-clause-stopped : goal.returns-clause-stopped
returns-clause-stopped g c is told image left =
    let d = g.D.Disks.view c.args.disks.now in
    let b = g.D.Disks.view c.schema_of_log.new.disks in
    let e = g.D.Disks.view c.open_store.new.disks in
    let first = c.in_ok-schema.ensures.kept in
    let now : IsTrue b.told = first.shape.told ∙ told in
    something_left d c.args.shape c.requires.parts c.requires.room b e (open_disk_err_of c.in-Err.e) first (c.in-Err.ensures.leaves now) (c.in-Err.ensures.images now) (stopped_writes c.args.shape b.bytes c.in-Err.e (cc is) (c.in-Err.ensures.err now)) image left

pub returns-clause-full : goal.returns-clause-full
returns-clause-full g c dev is =
    let b = g.D.Disks.view c.schema_of_log.new.disks in
    let e = g.D.Disks.view c.open_store.new.disks in
    opening_fills b e c.args.shape c.in-Err.e dev c.in-Err.ensures.others.shape (cc is) c.in-Err.ensures.full

pub returns-clause-others : goal.returns-clause-others
returns-clause-others g c =
    let d = g.D.Disks.view c.args.disks.now in
    let b = g.D.Disks.view c.schema_of_log.new.disks in
    let e = g.D.Disks.view c.open_store.new.disks in
    let first = c.in_ok-schema.ensures.kept in
    let touched = IsStoreDevice c.args.shape.parts in
    keeps_on touched d b e (open_disk_err_of c.in-Err.e) (nothing touched d b None first) c.in-Err.ensures.others

pub returns-clause-unwritten : goal.returns-clause-unwritten
returns-clause-unwritten g c refusal is refused told =
    let d = g.D.Disks.view c.args.disks.now in
    let b = g.D.Disks.view c.schema_of_log.new.disks in
    let e = g.D.Disks.view c.open_store.new.disks in
    let first = c.in_ok-schema.ensures.kept in
    let now : IsTrue b.told = first.shape.told ∙ told in
    writes_nothing d e c.args.shape (open_disk_err_of c.in-Err.e) refusal is refused (returns-clause-leaves g c told)
    (λ stop. subst (λ (bytes : ℕ → List ℕ). MayWrite c.args.shape bytes) (same_bytes d b first) (stopped_writes c.args.shape b.bytes c.in-Err.e (stopped_err c.in-Err.e stop) (c.in-Err.ensures.err now)))
    (λ dev full. subst (λ (bytes : ℕ → List ℕ). MayWrite c.args.shape bytes) (same_bytes d b first) (full_writes c.args.shape b.bytes c.in-Err.e dev (full_err c.in-Err.e dev full) (c.in-Err.ensures.err now)))

pub returns-clause-cause : goal.returns-clause-cause
returns-clause-cause g c =
    let d = g.D.Disks.view c.args.disks.now in
    let b = g.D.Disks.view c.schema_of_log.new.disks in
    let e = g.D.Disks.view c.open_store.new.disks in
    cause_on d b e (open_disk_err_of c.in-Err.e) c.in_ok-schema.ensures.cause c.in-Err.ensures.cause
