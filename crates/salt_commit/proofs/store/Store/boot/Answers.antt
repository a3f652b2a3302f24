use Rattle.salt_bytes.specs.Coordinator.{Boots, spell_entry}
use Rattle.salt_commit.proofs.Filled.{entry_full}
use Rattle.salt_commit.proofs.Roomed.{boot_on, entry_device, ok_maps, others_on, room_full, stands_on}
use Rattle.salt_commit.proofs.store.Store.boot.Goals as goal
use Rattle.salt_commit.specs.Full.{next_boot}
use Rattle.salt_commit.specs.Stores.{last_boot, numbers_in}
use Rattle.salt_decisions.proofs.Appended.{on_err}
use Rattle.salt_disk.proofs.CallAfterCall.{cause_on}
use Rattle.std.proofs.Common.{Some, [], ap, arith, inl, refl, subst, ℕ, ◌+◌, ◌≡◌, ◌∙◌}
use Rattle.std.proofs.lemmas.Result.{err_from_is_err_and}
use Rattle.std.specs.Prelude.{IfOk, OnErr}
use Rattle.std.specs.Result.{result_err}

pub append_boot-requires-clause-stands : goal.append_boot-requires-clause-stands
append_boot-requires-clause-stands g c = stands_on (g.D.Disks.view c.args.disks.now) (g.D.Disks.view c.renew_full.new.disks) c.args.self.now c.renew_full.new.self [] c.in_ok-renew_full.ensures c.requires.stands

pub append_boot-requires-clause-below : goal.append_boot-requires-clause-below
append_boot-requires-clause-below g c = omega (arith, c.requires.below, ap (λ (n : ℕ × ℕ). n.0) c.in_ok-renew_full.ensures.numbers)

pub append_boot-requires-clause-room : goal.append_boot-requires-clause-room
append_boot-requires-clause-room g c = c.in_ok-renew_full.ensures.room refl

-- ROOM is not made

pub returns-in_err-renew_full-clause-same : goal.returns-in_err-renew_full-clause-same
returns-in_err-renew_full-clause-same g c = on_err _ c.in_err-renew_full.ensures.numbers

pub returns-in_err-renew_full-clause-images : goal.returns-in_err-renew_full-clause-images
returns-in_err-renew_full-clause-images g c which co v is told asked image left = inl (c.in_err-renew_full.ensures.images which co v is told asked image left)

pub returns-in_err-renew_full-clause-full : goal.returns-in_err-renew_full-clause-full
returns-in_err-renew_full-clause-full g c told =
    let p = err_from_is_err_and c.from_residual.result c.from_residual.ensures.1 in
    let e = g.D.Disks.view c.renew_full.new.disks in
    rw (p.1, p.2) (room_full e c.args.self.now next_boot (Some c.in_err-renew_full.field-0.0) (c.in_err-renew_full.ensures.full told))

-- THE ENTRY is appended behind it

pub returns-clause-ok : goal.returns-clause-ok
returns-clause-ok g c which co v is =
    let made = c.in_ok-renew_full.ensures in
    let now = made.on refl which co v is in
    ok_maps c.append_boot.result (λ z. (now.0, z)) (c.append_boot.ensures.ok now.0.which now.0.coordinator now.0.views now.1)

pub returns-clause-number : goal.returns-clause-number
returns-clause-number g c = subst (λ (n : ℕ). IfOk c.append_boot.result (λ k. k ≡ n + 1)) (ap (λ (n : ℕ × ℕ). n.0) c.in_ok-renew_full.ensures.numbers) c.append_boot.ensures.number

pub returns-clause-same : goal.returns-clause-same
returns-clause-same g c = subst (λ (n : ℕ × ℕ). OnErr c.append_boot.result (numbers_in c.append_boot.new.self ≡ n)) c.in_ok-renew_full.ensures.numbers c.append_boot.ensures.same

pub returns-clause-images : goal.returns-clause-images
returns-clause-images g c which co v is told =
    let made = c.in_ok-renew_full.ensures in
    let now = made.on refl which co v is in
    let e = g.D.Disks.view c.append_boot.new.disks in
    boot_on co v now.0 e (c.append_boot.ensures.images now.0.which now.0.coordinator now.0.views now.1 (made.others.shape.told ∙ told))

pub returns-clause-messages : goal.returns-clause-messages
returns-clause-messages g c = c.append_boot.ensures.messages ∙ c.in_ok-renew_full.ensures.messages

pub returns-clause-others : goal.returns-clause-others
returns-clause-others g c =
    let d = g.D.Disks.view c.args.disks.now in
    let m = g.D.Disks.view c.renew_full.new.disks in
    let e = g.D.Disks.view c.append_boot.new.disks in
    let made = c.in_ok-renew_full.ensures in
    let s = c.requires.stands in
    let now = made.on refl s.which s.c s.v s.is in
    others_on d m c.args.self.now c.renew_full.new.self [] made e (result_err c.append_boot.result) (entry_device m c.renew_full.new.self now.0.which now.0.coordinator now.0.views now.1 e (result_err c.append_boot.result) c.append_boot.ensures.others)

pub returns-clause-cause : goal.returns-clause-cause
returns-clause-cause g c =
    cause_on (g.D.Disks.view c.args.disks.now) (g.D.Disks.view c.renew_full.new.disks) (g.D.Disks.view c.append_boot.new.disks) (result_err c.append_boot.result) c.in_ok-renew_full.ensures.cause c.append_boot.ensures.cause

pub returns-clause-full : goal.returns-clause-full
returns-clause-full g c told =
    let m = g.D.Disks.view c.renew_full.new.disks in
    let e = g.D.Disks.view c.append_boot.new.disks in
    let y = c.renew_full.new.self in
    let made = c.in_ok-renew_full.ensures in
    let s = c.requires.stands in
    let now = made.on refl s.which s.c s.v s.is in
    let spells = ap (λ (n : ℕ). spell_entry (Boots (n + 1))) now.1.decisions.holds.boot in
    entry_full m e y now.0.which now.0.coordinator now.0.views now.1 (made.others.shape.told ∙ told) c.append_boot.ensures.others.shape c.args.self.now next_boot
    (spell_entry (Boots (last_boot y + 1))) spells c.append_boot.result c.append_boot.ensures.others c.append_boot.ensures.untouched c.append_boot.ensures.full
