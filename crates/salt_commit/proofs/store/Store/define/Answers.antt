use Rattle.salt_bytes.specs.Coordinator.{Defines, spell_entry}
use Rattle.salt_commit.proofs.Filled.{entry_full}
use Rattle.salt_commit.proofs.Roomed.{entry_device, definition_on, may_define_on, ok_maps, others_on, room_full, stands_on}
use Rattle.salt_commit.proofs.store.Store.define.Goals as goal
use Rattle.salt_commit.specs.Full.{next_definition}
use Rattle.salt_commit.specs.Stores.{last_decision, numbers_in}
use Rattle.salt_decisions.proofs.Appended.{on_err}
use Rattle.salt_disk.proofs.CallAfterCall.{cause_on}
use Rattle.std.proofs.Common.{Some, [], ap, arith, inl, refl, subst, sym, ℕ, ◌+◌, ◌≡◌, ◌∙◌}
use Rattle.std.proofs.lemmas.Result.{err_from_is_err_and}
use Rattle.std.specs.Prelude.{IfOk, OnErr}
use Rattle.std.specs.Result.{result_err}

pub append_definition-requires-clause-stands : goal.append_definition-requires-clause-stands
append_definition-requires-clause-stands g c = stands_on (g.D.Disks.view c.args.disks.now) (g.D.Disks.view c.renew_full.new.disks) c.args.self.now c.renew_full.new.self [] c.in_ok-renew_full.ensures c.requires.stands

pub append_definition-requires-clause-below : goal.append_definition-requires-clause-below
append_definition-requires-clause-below g c = omega (arith, c.requires.below, ap (λ (n : ℕ × ℕ). n.1) c.in_ok-renew_full.ensures.numbers)

pub append_definition-requires-clause-room : goal.append_definition-requires-clause-room
append_definition-requires-clause-room g c = c.in_ok-renew_full.ensures.room refl

-- ROOM is not made

pub returns-in_err-renew_full-clause-same : goal.returns-in_err-renew_full-clause-same
returns-in_err-renew_full-clause-same g c = on_err _ c.in_err-renew_full.ensures.numbers

pub returns-in_err-renew_full-clause-images : goal.returns-in_err-renew_full-clause-images
returns-in_err-renew_full-clause-images g c which co v def is may told asked image left = inl (c.in_err-renew_full.ensures.images which co v is told asked image left)

pub returns-in_err-renew_full-clause-full : goal.returns-in_err-renew_full-clause-full
returns-in_err-renew_full-clause-full g c told =
    let p = err_from_is_err_and c.from_residual.result c.from_residual.ensures.1 in
    let e = g.D.Disks.view c.renew_full.new.disks in
    rw (p.1, p.2) (room_full e c.args.self.now (next_definition c.args.text.now) (Some c.in_err-renew_full.field-0.0) (c.in_err-renew_full.ensures.full told))

-- THE ENTRY is appended behind it

pub returns-clause-ok : goal.returns-clause-ok
returns-clause-ok g c which co v def is may =
    let made = c.in_ok-renew_full.ensures in
    let now = made.on refl which co v is in
    ok_maps c.append_definition.result (λ z. (now.0, z))
    (c.append_definition.ensures.ok now.0.which now.0.coordinator now.0.views def now.1 (λ told. may_define_on co v now.0 c.args.text.now def (may (sym made.others.shape.told ∙ told))))

pub returns-clause-number : goal.returns-clause-number
returns-clause-number g c = subst (λ (n : ℕ). IfOk c.append_definition.result (λ k. k ≡ n + 1)) (ap (λ (n : ℕ × ℕ). n.1) c.in_ok-renew_full.ensures.numbers) c.append_definition.ensures.number

pub returns-clause-same : goal.returns-clause-same
returns-clause-same g c = subst (λ (n : ℕ × ℕ). OnErr c.append_definition.result (numbers_in c.append_definition.new.self ≡ n)) c.in_ok-renew_full.ensures.numbers c.append_definition.ensures.same

pub returns-clause-images : goal.returns-clause-images
returns-clause-images g c which co v def is may told =
    let made = c.in_ok-renew_full.ensures in
    let now = made.on refl which co v is in
    let e = g.D.Disks.view c.append_definition.new.disks in
    definition_on co v now.0 c.args.text.now def e
    (c.append_definition.ensures.images now.0.which now.0.coordinator now.0.views def now.1 (may_define_on co v now.0 c.args.text.now def may) (made.others.shape.told ∙ told))

pub returns-clause-messages : goal.returns-clause-messages
returns-clause-messages g c = c.append_definition.ensures.messages ∙ c.in_ok-renew_full.ensures.messages

pub returns-clause-others : goal.returns-clause-others
returns-clause-others g c =
    let d = g.D.Disks.view c.args.disks.now in
    let m = g.D.Disks.view c.renew_full.new.disks in
    let e = g.D.Disks.view c.append_definition.new.disks in
    let made = c.in_ok-renew_full.ensures in
    let s = c.requires.stands in
    let now = made.on refl s.which s.c s.v s.is in
    others_on d m c.args.self.now c.renew_full.new.self [] made e (result_err c.append_definition.result) (entry_device m c.renew_full.new.self now.0.which now.0.coordinator now.0.views now.1 e (result_err c.append_definition.result) c.append_definition.ensures.others)

pub returns-clause-cause : goal.returns-clause-cause
returns-clause-cause g c =
    cause_on (g.D.Disks.view c.args.disks.now) (g.D.Disks.view c.renew_full.new.disks) (g.D.Disks.view c.append_definition.new.disks) (result_err c.append_definition.result) c.in_ok-renew_full.ensures.cause c.append_definition.ensures.cause

pub returns-clause-full : goal.returns-clause-full
returns-clause-full g c told =
    let m = g.D.Disks.view c.renew_full.new.disks in
    let e = g.D.Disks.view c.append_definition.new.disks in
    let y = c.renew_full.new.self in
    let made = c.in_ok-renew_full.ensures in
    let s = c.requires.stands in
    let now = made.on refl s.which s.c s.v s.is in
    let spells = ap (λ (n : ℕ). spell_entry (Defines (record { number = n + 1; text = c.args.text.now }))) now.1.decisions.holds.decisions in
    entry_full m e y now.0.which now.0.coordinator now.0.views now.1 (made.others.shape.told ∙ told) c.append_definition.ensures.others.shape c.args.self.now (next_definition c.args.text.now)
    (spell_entry (Defines (record { number = last_decision y + 1; text = c.args.text.now }))) spells c.append_definition.result c.append_definition.ensures.others c.append_definition.ensures.untouched c.append_definition.ensures.full
