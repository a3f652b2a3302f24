use Rattle.salt_devices.proofs.Booting.{boot_counted, boot_is, boot_new, not_spent}
use Rattle.salt_devices.proofs.Entered.{boot_held, boot_leaves, boot_stands}
use Rattle.salt_devices.proofs.Filled.{filled}
use Rattle.salt_storage.proofs.Halted.{answer_is, full_is}
use Rattle.salt_devices.proofs.Stores.{standing_on}
use Rattle.salt_devices.proofs.Either.{either}
use Rattle.salt_devices.proofs.Within.{kept_within, stood_within}
use Rattle.salt_devices.proofs.held.begin_boot.Goals as goal
use Rattle.salt_commit.specs.Full.{EntryOrRoomFills, next_boot}
use Rattle.salt_commit.specs.Stores.{last_boot}
use Rattle.salt_storage.specs.Answers.{disk_err_of}
use Rattle.std.proofs.Common.{None, Some, arith, ◌-◌, ◌<◌, ◌^◌, ◌∙◌}
use Rattle.std.proofs.lemmas.Result.{err_from_is_err_and}

pub reject-requires : goal.reject-requires
reject-requires g c = c.is_spent.ensures.mute c.if-is_spent.true

pub returns-then-is_spent-clause-leaves : goal.returns-then-is_spent-clause-leaves
returns-then-is_spent-clause-leaves g c shape k h = absurd (cc (h.told, c.is_spent.ensures.mute c.if-is_spent.true))

pub returns-then-is_spent-clause-within : goal.returns-then-is_spent-clause-within
returns-then-is_spent-clause-within g c setup s = kept_within (g.D.Disks.view c.args.disks.now) (g.D.Disks.view c.reject.new.disks) setup (Some (disk_err_of c.reject.result)) c.reject.ensures.kept

pub boot-requires-clause-stands : goal.boot-requires-clause-stands
boot-requires-clause-stands g c = let s = c.requires.stands in standing_on (g.D.Disks.view c.args.disks.now) s.0 c.args.store.now s.1

pub boot-requires-clause-below : goal.boot-requires-clause-below
boot-requires-clause-below g c =
    either (last_boot c.args.store.now < 2 ^ 64 - 1) (g.D.Disks.view c.args.disks.now).told
    (λ told.
    let r = c.requires.held told in
    let is = boot_is (g.D.Disks.view c.args.disks.now) r.0 c.args.store.now r.1 r.2 in
    let low = not_spent r.1.boot r.1.decisions r.3 in
    omega (arith, is, low))
    (λ mute. c.is_spent.ensures.below c.if-is_spent.false mute)

pub returns-clause-stands : goal.returns-clause-stands
returns-clause-stands g c shape s =
    let made = c.in_ok-boot.ensures.ok s.which s.c s.v s.is in
    boot_stands (g.D.Disks.view c.args.disks.now) (g.D.Disks.view c.boot.new.disks) shape c.args.store.now c.boot.new.self s made.0 made.1

pub returns-clause-boot : goal.returns-clause-boot
returns-clause-boot g c =
    let s = c.requires.stands.1 in
    let made = c.in_ok-boot.ensures.ok s.which s.c s.v s.is in
    boot_counted (g.D.Disks.view c.args.disks.now) (g.D.Disks.view c.boot.new.disks) c.args.store.now c.boot.new.self s.which s.c s.v s.is c.in_ok-boot.ensures.others.shape made.0 made.1

pub returns-clause-holds : goal.returns-clause-holds
returns-clause-holds g c shape k h =
    let made = c.in_ok-boot.ensures.ok h.which h.c h.v h.is in
    boot_held (g.D.Disks.view c.args.disks.now) (g.D.Disks.view c.boot.new.disks) shape c.args.store.now k h c.boot.new.self (c.in_ok-boot.ensures.others.shape.told ∙ h.told) made.0 made.1

pub returns-clause-is_new : goal.returns-clause-is_new
returns-clause-is_new g c u at =
    let s = c.requires.stands.1 in
    let made = c.in_ok-boot.ensures.ok s.which s.c s.v s.is in
    boot_new (g.D.Disks.view c.args.disks.now) (g.D.Disks.view c.boot.new.disks) c.args.store.now c.boot.new.self s.which s.c s.v s.is c.in_ok-boot.ensures.others.shape made.0 made.1 u (at ∙ c.in_ok-boot.ensures.number)

pub returns-in_err-boot-clause-leaves : goal.returns-in_err-boot-clause-leaves
returns-in_err-boot-clause-leaves g c =
    let p = err_from_is_err_and c.from_residual.result c.from_residual.ensures.1 in
    rw p.1 (λ shape k h. boot_leaves (g.D.Disks.view c.args.disks.now) (g.D.Disks.view c.boot.new.disks) shape c.args.store.now k h (c.in_err-boot.ensures.images h.which h.c h.v h.is h.told))

pub returns-in_err-boot-clause-full : goal.returns-in_err-boot-clause-full
returns-in_err-boot-clause-full g c dev is shape k h told =
    let f = g.D.Disks.view c.boot.new.disks in
    let p = err_from_is_err_and c.from_residual.result c.from_residual.ensures.1 in
    let e = full_is p.0 c.in_err-boot.field-0.0 dev p.2 (cc (p.1, is)) in
    filled (g.D.Disks.view c.args.disks.now) shape c.args.store.now k h (λ s. EntryOrRoomFills f s next_boot) c.in_err-boot.field-0.0 dev e (c.in_err-boot.ensures.full h.told)

pub returns-in_err-boot-clause-cause : goal.returns-in_err-boot-clause-cause
returns-in_err-boot-clause-cause g c =
    let p = err_from_is_err_and c.from_residual.result c.from_residual.ensures.1 in
    rw (answer_is c.from_residual.result p.0 c.in_err-boot.field-0.0 p.1 p.2) c.in_err-boot.ensures.cause

pub returns-clause-within : goal.returns-clause-within
returns-clause-within g c setup s = stood_within (g.D.Disks.view c.args.disks.now) (g.D.Disks.view c.boot.new.disks) setup c.args.store.now s None c.in_ok-boot.ensures.others

pub returns-in_err-boot-clause-within : goal.returns-in_err-boot-clause-within
returns-in_err-boot-clause-within g c setup s = stood_within (g.D.Disks.view c.args.disks.now) (g.D.Disks.view c.boot.new.disks) setup c.args.store.now s (Some c.in_err-boot.field-0.0) c.in_err-boot.ensures.others
