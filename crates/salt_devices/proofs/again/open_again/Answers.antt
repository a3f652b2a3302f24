use Rattle.salt_devices.proofs.Anew.{fails_known, holds_there, left_fails, numbers_there, opening_left, remembered_there}
use Rattle.salt_devices.proofs.Within.{store_within, within_on}
use Rattle.salt_devices.proofs.again.open_again.Goals as goal
use Rattle.salt_devices.specs.Holding.{setup_in}
use Rattle.salt_devices.specs.Remembering.{Follow}
use Rattle.salt_disk.proofs.CallAfterCall.{cause_on}
use Rattle.salt_disk.specs.Disks.{HasCause}
use Rattle.salt_disk.specs.declared.disks.DiskErr.{DiskErr}
use Rattle.salt_gatelog.proofs.Entries.{not_told}
use Rattle.salt_storage.specs.Answers.{open_disk_err_of}
use Rattle.salt_storage.specs.OpenErr.TheVariants.{Full}
use Rattle.salt_storage.specs.declared.found.Numbers.{Numbers}
use Rattle.std.proofs.Common.{Err, IsTrue, None, Option, ap, subst, sym, ◌≡◌, ◌∙◌, ◌⊎◌}

-- WHAT WAS FOUND is remembered

pub returns-then-are_remembered-clause-stands : goal.returns-then-are_remembered-clause-stands
returns-then-are_remembered-clause-stands g c = c.in-Ok.ensures.ok.stands

pub returns-then-are_remembered-clause-ok : goal.returns-then-are_remembered-clause-ok
returns-then-are_remembered-clause-ok g c told a b h =
    holds_there (g.D.Disks.view c.args.disks.now) (g.D.Disks.view c.open_devices.new.disks) c.args.shape c.in-Ok.store _ c.in-Ok.ensures.ok told a b h (c.in-Ok.ensures.others.shape.told ∙ told)

pub returns-then-are_remembered-clause-numbers : goal.returns-then-are_remembered-clause-numbers
returns-then-are_remembered-clause-numbers g c =
    numbers_there (g.D.Disks.view c.args.disks.now) (g.D.Disks.view c.open_devices.new.disks) c.args.shape c.in-Ok.store _ c.in-Ok.ensures.ok c.in-Ok.ensures.numbers

pub returns-then-are_remembered-clause-within : goal.returns-then-are_remembered-clause-within
returns-then-are_remembered-clause-within g c over = store_within (g.D.Disks.view c.args.disks.now) (g.D.Disks.view c.open_devices.new.disks) (setup_in c.args.shape over) None c.in-Ok.ensures.others

-- OR IS NOT, and then the disks do not tell

pub fault-requires : goal.fault-requires
fault-requires g c =
    let d = g.D.Disks.view c.args.disks.now in
    let e = g.D.Disks.view c.open_devices.new.disks in
    not_told e.told (λ now.
    let told : IsTrue d.told = sym c.in-Ok.ensures.others.shape.told ∙ now in
    let l = c.requires.left told in
    let there = remembered_there d e c.args.shape c.in-Ok.store _ c.in-Ok.ensures.ok told l.0 l.1 l.2 c.args.numbers c.args.pending l.3 in
    let is : IsTrue c.are_remembered.result = c.are_remembered.ensures.1 (subst (λ (m : Numbers). (m ≡ c.args.numbers) ⊎ Follow c.args.pending c.args.numbers m) (sym c.numbers_of.ensures) there) in
    let not = c.if-are_remembered.false in
    cc (is, not))

pub returns-in-Ok-clause-leaves : goal.returns-in-Ok-clause-leaves
returns-in-Ok-clause-leaves g c told =
    let d = g.D.Disks.view c.args.disks.now in
    let e = g.D.Disks.view c.open_devices.new.disks in
    let l = c.requires.left told in
    let there = remembered_there d e c.args.shape c.in-Ok.store _ c.in-Ok.ensures.ok told l.0 l.1 l.2 c.args.numbers c.args.pending l.3 in
    let is : IsTrue c.are_remembered.result = c.are_remembered.ensures.1 (subst (λ (m : Numbers). (m ≡ c.args.numbers) ⊎ Follow c.args.pending c.args.numbers m) (sym c.numbers_of.ensures) there) in
    let not = c.if-are_remembered.false in
    absurd (cc (is, not))

pub returns-in-Ok-clause-within : goal.returns-in-Ok-clause-within
returns-in-Ok-clause-within g c over =
    let d = g.D.Disks.view c.args.disks.now in
    let e = g.D.Disks.view c.open_devices.new.disks in
    within_on d e (setup_in c.args.shape over) (g.D.Disks.view c.fault.new.disks) (open_disk_err_of c.fault.result) (store_within d e (setup_in c.args.shape over) None c.in-Ok.ensures.others) c.fault.ensures.kept

pub returns-in-Ok-clause-cause : goal.returns-in-Ok-clause-cause
returns-in-Ok-clause-cause g c =
    cause_on (g.D.Disks.view c.args.disks.now) (g.D.Disks.view c.open_devices.new.disks) (g.D.Disks.view c.fault.new.disks) (open_disk_err_of c.fault.result) c.in-Ok.ensures.cause c.fault.ensures.cause

-- WHERE THE OPENING FAILS

pub returns-then-may_answer-clause-leaves : goal.returns-then-may_answer-clause-leaves
returns-then-may_answer-clause-leaves g c told a b h =
    opening_left (g.D.Disks.view c.args.disks.now) (g.D.Disks.view c.open_devices.new.disks) c.args.shape c.args.shape.parts (open_disk_err_of c.in-Err.e) c.requires.room told (c.in-Err.ensures.leaves told) a b h

pub returns-then-may_answer-clause-later : goal.returns-then-may_answer-clause-later
returns-then-may_answer-clause-later g c = c.may_answer.ensures.later c.if-may_answer.true

pub returns-then-may_answer-clause-known : goal.returns-then-may_answer-clause-known
returns-then-may_answer-clause-known g c told a b h remembers =
    fails_known (g.D.Disks.view c.args.disks.now) (g.D.Disks.view c.open_devices.new.disks) c.args.shape c.requires.parts c.requires.room a b told h (open_disk_err_of c.in-Err.e) c.in-Err.e (c.in-Err.ensures.refused told) (c.in-Err.ensures.err told)

pub returns-then-may_answer-clause-within : goal.returns-then-may_answer-clause-within
returns-then-may_answer-clause-within g c over = store_within (g.D.Disks.view c.args.disks.now) (g.D.Disks.view c.open_devices.new.disks) (setup_in c.args.shape over) (open_disk_err_of c.in-Err.e) c.in-Err.ensures.others

pub fault-requires-in-Err : goal.fault-requires-in-Err
fault-requires-in-Err g c =
    let d = g.D.Disks.view c.args.disks.now in
    let e = g.D.Disks.view c.open_devices.new.disks in
    not_told e.told (λ now.
    let told : IsTrue d.told = sym c.in-Err.ensures.others.shape.told ∙ now in
    let l = c.requires.left told in
    c.may_answer.ensures.not c.if-may_answer.false l.0 l.1 l.3 (left_fails d c.args.shape l.0 l.1 c.in-Err.e l.2 told (c.in-Err.ensures.err told)))

pub returns-clause-leaves : goal.returns-clause-leaves
returns-clause-leaves g c told =
    let d = g.D.Disks.view c.args.disks.now in
    let l = c.requires.left told in
    absurd (c.may_answer.ensures.not c.if-may_answer.false l.0 l.1 l.3 (left_fails d c.args.shape l.0 l.1 c.in-Err.e l.2 told (c.in-Err.ensures.err told)))

pub returns-clause-within : goal.returns-clause-within
returns-clause-within g c over =
    let d = g.D.Disks.view c.args.disks.now in
    let e = g.D.Disks.view c.open_devices.new.disks in
    within_on d e (setup_in c.args.shape over) (g.D.Disks.view c.fault-in-Err.new.disks) (open_disk_err_of c.fault-in-Err.result) (store_within d e (setup_in c.args.shape over) (open_disk_err_of c.in-Err.e) c.in-Err.ensures.others) c.fault-in-Err.ensures.kept

pub returns-then-may_answer-clause-full : goal.returns-then-may_answer-clause-full
returns-then-may_answer-clause-full g c dev is told = let same : c.in-Err.e ≡ Full dev = cc is in c.in-Err.ensures.full dev (ap Err same) told

pub returns-clause-cause : goal.returns-clause-cause
returns-clause-cause g c =
    let d = g.D.Disks.view c.args.disks.now in
    let e = g.D.Disks.view c.open_devices.new.disks in
    cause_on d e (g.D.Disks.view c.fault-in-Err.new.disks) (open_disk_err_of c.fault-in-Err.result)
    (subst (λ (answer : Option DiskErr). HasCause d e answer) (c.may_answer.ensures.none c.if-may_answer.false) c.in-Err.ensures.cause) c.fault-in-Err.ensures.cause
