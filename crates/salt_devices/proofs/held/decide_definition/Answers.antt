use Rattle.salt_commit.specs.Full.{EntryOrRoomFills, next_definition}
use Rattle.salt_commit.specs.Stores.{last_boot}
use Rattle.salt_devices.proofs.Entered.{definition_counted, definition_held, definition_leaves, definition_stands, may_define, may_define_as, some_definition}
use Rattle.salt_devices.proofs.Filled.{filled}
use Rattle.salt_storage.proofs.Halted.{answer_is, full_is}
use Rattle.salt_devices.proofs.Stores.{entered_new, held_leaves, standing_on}
use Rattle.salt_devices.proofs.Either.{either}
use Rattle.salt_devices.proofs.Within.{nothing_within, stood_within}
use Rattle.salt_devices.proofs.held.decide_definition.Goals as goal
use Rattle.salt_devices.specs.Holding.{IsStanding}
use Rattle.salt_storage.specs.Storing.{defined}
use Rattle.std.proofs.Common.{None, Some, sym, ◌≡◌, ◌∙◌}
use Rattle.std.proofs.lemmas.Result.{err_from_is_err_and}

pub define-requires-clause-stands : goal.define-requires-clause-stands
define-requires-clause-stands g c = let s = c.requires.stands in standing_on (g.D.Disks.view c.args.disks.now) s.0 c.args.store.now s.1

pub returns-clause-stands : goal.returns-clause-stands
returns-clause-stands g c shape s =
    let d = g.D.Disks.view c.args.disks.now in
    let e = g.D.Disks.view c.define.new.disks in
    let x = c.args.store.now in
    let y = c.define.new.self in
    let stands = c.in_ok-number.ensures.ok s.which s.c s.v in
    either (IsStanding e shape y) d.told
    (λ told.
    let r = c.requires.may told in
    let made = stands r.3.0 s.is (λ now. may_define_as d e r.0 shape x r.1 r.2 s c.args.text.now r.3.0 r.3.1 r.3.2) in
    definition_stands d e shape x y s made.0 c.args.text.now r.3.0 made.1)
    (λ mute.
    let made = stands some_definition s.is (λ now. absurd (cc (now, mute))) in
    definition_stands d e shape x y s made.0 c.args.text.now some_definition made.1)

pub returns-clause-boot : goal.returns-clause-boot
returns-clause-boot g c =
    let d = g.D.Disks.view c.args.disks.now in
    let e = g.D.Disks.view c.define.new.disks in
    let s = c.requires.stands.1 in
    let stands = c.in_ok-number.ensures.ok s.which s.c s.v in
    either (last_boot c.define.new.self ≡ last_boot c.args.store.now) d.told
    (λ told.
    let r = c.requires.may told in
    let made = stands r.3.0 s.is (λ now. may_define_as d e r.0 c.requires.stands.0 c.args.store.now r.1 r.2 s c.args.text.now r.3.0 r.3.1 r.3.2) in
    definition_counted d e c.args.store.now c.define.new.self s.which s.c s.v s.is made.0 c.args.text.now r.3.0 made.1)
    (λ mute.
    let made = stands some_definition s.is (λ now. absurd (cc (now, mute))) in
    definition_counted d e c.args.store.now c.define.new.self s.which s.c s.v s.is made.0 c.args.text.now some_definition made.1)

pub returns-clause-holds : goal.returns-clause-holds
returns-clause-holds g c shape k def h reads may =
    let made = c.in_ok-number.ensures.ok h.which h.c h.v def h.is (λ told. may_define (g.D.Disks.view c.args.disks.now) (g.D.Disks.view c.define.new.disks) shape c.args.store.now k h c.args.text.now def reads may) in
    definition_held (g.D.Disks.view c.args.disks.now) (g.D.Disks.view c.define.new.disks) shape c.args.store.now k h c.define.new.self (c.in_ok-number.ensures.others.shape.told ∙ h.told) made.0 c.args.text.now def may made.1

pub returns-clause-is_new : goal.returns-clause-is_new
returns-clause-is_new g c u new told =
    let d = g.D.Disks.view c.args.disks.now in
    let e = g.D.Disks.view c.define.new.disks in
    let r = c.requires.may (sym c.in_ok-number.ensures.others.shape.told ∙ told) in
    let h = r.2 in
    let made = c.in_ok-number.ensures.ok h.which h.c h.v r.3.0 h.is (λ now. may_define d e r.0 c.args.store.now r.1 h c.args.text.now r.3.0 r.3.1 r.3.2) in
    entered_new d e c.args.store.now c.define.new.self h.which h.c h.v h.is c.in_ok-number.ensures.others.shape c.args.text.now r.3.0 made.0 made.1 u new told

pub returns-then-decisions-eq18446744073709551615-clause-leaves : goal.returns-then-decisions-eq18446744073709551615-clause-leaves
returns-then-decisions-eq18446744073709551615-clause-leaves g c shape k def h reads may = held_leaves (g.D.Disks.view c.args.disks.now) shape c.args.store.now k h (defined k def)

pub returns-then-decisions-eq18446744073709551615-clause-within : goal.returns-then-decisions-eq18446744073709551615-clause-within
returns-then-decisions-eq18446744073709551615-clause-within g c setup s = nothing_within (g.D.Disks.view c.args.disks.now) setup

pub returns-in_err-number-clause-leaves : goal.returns-in_err-number-clause-leaves
returns-in_err-number-clause-leaves g c =
    let p = err_from_is_err_and c.from_residual.result c.from_residual.ensures.1 in
    let d = g.D.Disks.view c.args.disks.now in
    let e = g.D.Disks.view c.define.new.disks in
    rw p.1 (λ shape k def h reads may. definition_leaves d e shape c.args.store.now k h c.args.text.now def (c.in_err-number.ensures.images h.which h.c h.v def h.is (may_define d e shape c.args.store.now k h c.args.text.now def reads may) h.told))

pub returns-in_err-number-clause-full : goal.returns-in_err-number-clause-full
returns-in_err-number-clause-full g c dev is shape k h told =
    let f = g.D.Disks.view c.define.new.disks in
    let p = err_from_is_err_and c.from_residual.result c.from_residual.ensures.1 in
    let e = full_is p.0 c.in_err-number.field-0.0 dev p.2 (cc (p.1, is)) in
    filled (g.D.Disks.view c.args.disks.now) shape c.args.store.now k h (λ s. EntryOrRoomFills f s (next_definition c.args.text.now)) c.in_err-number.field-0.0 dev e (c.in_err-number.ensures.full h.told)

pub returns-in_err-number-clause-cause : goal.returns-in_err-number-clause-cause
returns-in_err-number-clause-cause g c =
    let p = err_from_is_err_and c.from_residual.result c.from_residual.ensures.1 in
    rw (answer_is c.from_residual.result p.0 c.in_err-number.field-0.0 p.1 p.2) c.in_err-number.ensures.cause

pub returns-clause-within : goal.returns-clause-within
returns-clause-within g c setup s = stood_within (g.D.Disks.view c.args.disks.now) (g.D.Disks.view c.define.new.disks) setup c.args.store.now s None c.in_ok-number.ensures.others

pub returns-in_err-number-clause-within : goal.returns-in_err-number-clause-within
returns-in_err-number-clause-within g c setup s = stood_within (g.D.Disks.view c.args.disks.now) (g.D.Disks.view c.define.new.disks) setup c.args.store.now s (Some c.in_err-number.field-0.0) c.in_err-number.ensures.others
