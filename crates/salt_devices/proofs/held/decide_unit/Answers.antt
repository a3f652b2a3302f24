use Rattle.salt_bytes.specs.Conts.{move_in, spell_move}
use Rattle.law_definitions.specs.Texts.{definition_in}
use Rattle.salt_codec.specs.Moves.{IsShortMove}
use Rattle.salt_commit.specs.Commits.{fits_its_part}
use Rattle.salt_commit.specs.Full.{CommitFills}
use Rattle.salt_commit.specs.Stores.{last_boot, reading}
use Rattle.salt_commit.specs.Messages.{IsNewIn}
use Rattle.salt_stands.specs.Fitting.{tables_defined}
use Rattle.salt_devices.proofs.Booting.{boot_is}
use Rattle.salt_devices.proofs.Committing.{short_move}
use Rattle.salt_devices.proofs.Deciding.{MayBeCommitted, committed_stands, held_committed, mute_committed, others_stay_new, stands_to_commit, unit_holds, unit_leaves_either}
use Rattle.salt_devices.proofs.InHand.{keys_are_values}
use Rattle.salt_devices.proofs.Filled.{filled}
use Rattle.salt_devices.proofs.Stores.{held_leaves}
use Rattle.salt_devices.proofs.Either.{either}
use Rattle.salt_devices.proofs.Within.{kept_within, nothing_within, stood_within}
use Rattle.salt_devices.proofs.held.decide_unit.Goals as goal
use Rattle.salt_model.specs.Kept.{Definition}
use Rattle.salt_stands.specs.Coordinator.{Coordinator}
use Rattle.salt_storage.proofs.Halted.{answer_is, full_is}
use Rattle.salt_storage.specs.Answers.{disk_err_of}
use Rattle.salt_storage.specs.Storing.{decided}
use Rattle.law_types.specs.Typed.{AreChangesOf}
use Rattle.std.proofs.Common.{IsTrue, None, Some, arith, subst, sym, true, ◌≡◌, ◌≤◌, ◌∙◌}
use Rattle.std.proofs.lemmas.Result.{err_from_is_err_and}
use Rattle.std.specs.List.{list_all}

pub returns-then-decisions-eq18446744073709551615-clause-leaves : goal.returns-then-decisions-eq18446744073709551615-clause-leaves
returns-then-decisions-eq18446744073709551615-clause-leaves g c shape k conts h may = held_leaves (g.D.Disks.view c.args.disks.now) shape c.args.store.now k h (decided k c.args.changes.now conts)

pub returns-then-decisions-eq18446744073709551615-clause-within : goal.returns-then-decisions-eq18446744073709551615-clause-within
returns-then-decisions-eq18446744073709551615-clause-within g c setup s = nothing_within (g.D.Disks.view c.args.disks.now) setup

pub reject-requires : goal.reject-requires
reject-requires g c = c.is_astray.ensures.mute c.if-is_astray.true

pub returns-then-is_astray-clause-leaves : goal.returns-then-is_astray-clause-leaves
returns-then-is_astray-clause-leaves g c shape k conts h may = absurd (cc (h.told, c.is_astray.ensures.mute c.if-is_astray.true))

pub returns-then-is_astray-clause-within : goal.returns-then-is_astray-clause-within
returns-then-is_astray-clause-within g c setup s = kept_within (g.D.Disks.view c.args.disks.now) (g.D.Disks.view c.reject.new.disks) setup (Some (disk_err_of c.reject.result)) c.reject.ensures.kept

pub spelled_move-requires : goal.spelled_move-requires
spelled_move-requires g c =
    either (IsShortMove c.args.made.now) (g.D.Disks.view c.args.disks.now).told
    (λ told. let r = c.requires.may told in short_move r.1 c.args.unit c.args.changes.now c.args.made.now r.3.0 r.3.1)
    (λ mute. (c.is_astray.ensures.fits c.if-is_astray.false mute).short)

pub returns-in_err-spelled-clause-leaves : goal.returns-in_err-spelled-clause-leaves
returns-in_err-spelled-clause-leaves g c =
    let p = err_from_is_err_and c.from_residual.result c.from_residual.ensures.1 in
    rw p.1 (λ shape k conts h may. held_leaves (g.D.Disks.view c.args.disks.now) shape c.args.store.now k h (decided k c.args.changes.now conts))

pub returns-in_err-spelled-clause-within : goal.returns-in_err-spelled-clause-within
returns-in_err-spelled-clause-within g c setup s = nothing_within (g.D.Disks.view c.args.disks.now) setup

pub commit-requires-clause-stands : goal.commit-requires-clause-stands
commit-requires-clause-stands g c =
    let made = c.args.made.now in
    let reads : move_in 3 (spell_move 3 made) ≡ Some made = c.moves_are_read.ensures 3 made c.told_move.ensures in
    let sound : (co : Coordinator Definition) → AreChangesOf (tables_defined co.definitions) c.args.changes.now → list_all (fits_its_part reading co) c.args.changes.now ≡ true = λ co fits. c.typed_changes_are_sound.ensures.all definition_in co c.args.changes.now fits in
    let spells : c.deref.result.now ≡ spell_move 3 made = c.deref.ensures.value ∙ c.in_ok-spelled.ensures in
    let d = g.D.Disks.view c.args.disks.now in
    let x = c.args.store.now in
    let may =
    either (MayBeCommitted d x c.args.unit c.args.changes.now c.deref.result.now) d.told
    (λ told. let r = c.requires.may told in held_committed d r.0 x r.1 r.2 c.args.unit c.args.changes.now made r.3.0 r.3.1 c.requires.new reads sound c.deref.result.now spells)
    (λ mute. let s = c.requires.stands in let w = c.is_astray.ensures.fits c.if-is_astray.false mute in mute_committed d x c.args.unit c.args.changes.now c.deref.result.now s.0 made mute s.1 w.ordered w.put) in
    stands_to_commit d x c.args.unit c.args.changes.now c.deref.result.now may

pub commit-requires-clause-new : goal.commit-requires-clause-new
commit-requires-clause-new g c =
    either (IsNewIn c.args.store.now c.args.unit) (g.D.Disks.view c.args.disks.now).told c.requires.new_in (λ mute. (c.is_astray.ensures.fits c.if-is_astray.false mute).new)

pub returns-clause-stands : goal.returns-clause-stands
returns-clause-stands g c =
    let made = c.args.made.now in
    let reads : move_in 3 (spell_move 3 made) ≡ Some made = c.moves_are_read.ensures 3 made c.told_move.ensures in
    let sound : (co : Coordinator Definition) → AreChangesOf (tables_defined co.definitions) c.args.changes.now → list_all (fits_its_part reading co) c.args.changes.now ≡ true = λ co fits. c.typed_changes_are_sound.ensures.all definition_in co c.args.changes.now fits in
    let spells : c.deref.result.now ≡ spell_move 3 made = c.deref.ensures.value ∙ c.in_ok-spelled.ensures in
    let d = g.D.Disks.view c.args.disks.now in
    let x = c.args.store.now in
    let may =
    either (MayBeCommitted d x c.args.unit c.args.changes.now c.deref.result.now) d.told
    (λ told. let r = c.requires.may told in held_committed d r.0 x r.1 r.2 c.args.unit c.args.changes.now made r.3.0 r.3.1 c.requires.new reads sound c.deref.result.now spells)
    (λ mute. let s = c.requires.stands in let w = c.is_astray.ensures.fits c.if-is_astray.false mute in mute_committed d x c.args.unit c.args.changes.now c.deref.result.now s.0 made mute s.1 w.ordered w.put) in
    committed_stands d x c.args.unit c.args.changes.now c.deref.result.now (g.D.Disks.view c.commit.new.disks) c.commit.new.self may c.in_ok-number.ensures.ok

pub returns-clause-begun : goal.returns-clause-begun
returns-clause-begun g c =
    let d = g.D.Disks.view c.args.disks.now in
    either (c.args.unit.boot ≤ last_boot c.args.store.now) d.told
    (λ told. let r = c.requires.may told in let same = boot_is d r.0 c.args.store.now r.1 r.2 in omega (arith, same, r.3.1.boot))
    (λ mute. (c.is_astray.ensures.fits c.if-is_astray.false mute).begun)

pub returns-clause-holds : goal.returns-clause-holds
returns-clause-holds g c shape k conts h may =
    let made = c.args.made.now in
    let reads : move_in 3 (spell_move 3 made) ≡ Some made = c.moves_are_read.ensures 3 made c.told_move.ensures in
    let sound : (co : Coordinator Definition) → AreChangesOf (tables_defined co.definitions) c.args.changes.now → list_all (fits_its_part reading co) c.args.changes.now ≡ true = λ co fits. c.typed_changes_are_sound.ensures.all definition_in co c.args.changes.now fits in
    let spells : c.deref.result.now ≡ spell_move 3 made = c.deref.ensures.value ∙ c.in_ok-spelled.ensures in
    let keys = keys_are_values c.args.changes.now c.told_changes.ensures in
    unit_holds (g.D.Disks.view c.args.disks.now) shape c.args.store.now k h c.args.unit c.args.changes.now made conts may c.requires.new reads sound c.deref.result.now spells
    (g.D.Disks.view c.commit.new.disks) c.commit.new.self c.in_ok-number.ensures.others.shape keys c.in_ok-number.ensures.ok

pub returns-clause-is_new : goal.returns-clause-is_new
returns-clause-is_new g c u other new now =
    let made = c.args.made.now in
    let reads : move_in 3 (spell_move 3 made) ≡ Some made = c.moves_are_read.ensures 3 made c.told_move.ensures in
    let sound : (co : Coordinator Definition) → AreChangesOf (tables_defined co.definitions) c.args.changes.now → list_all (fits_its_part reading co) c.args.changes.now ≡ true = λ co fits. c.typed_changes_are_sound.ensures.all definition_in co c.args.changes.now fits in
    let spells : c.deref.result.now ≡ spell_move 3 made = c.deref.ensures.value ∙ c.in_ok-spelled.ensures in
    let keys = keys_are_values c.args.changes.now c.told_changes.ensures in
    let told : IsTrue (g.D.Disks.view c.args.disks.now).told = sym c.in_ok-number.ensures.others.shape.told ∙ now in
    let r = c.requires.may told in
    others_stay_new (g.D.Disks.view c.args.disks.now) r.0 c.args.store.now r.1 r.2 c.args.unit c.args.changes.now made r.3.0 r.3.1 c.requires.new reads sound c.deref.result.now spells
    (g.D.Disks.view c.commit.new.disks) c.commit.new.self c.in_ok-number.ensures.others.shape keys c.in_ok-number.ensures.ok u other new now

pub returns-in_err-number-clause-leaves : goal.returns-in_err-number-clause-leaves
returns-in_err-number-clause-leaves g c =
    let p = err_from_is_err_and c.from_residual-in_err-number.result c.from_residual-in_err-number.ensures.1 in
    let made = c.args.made.now in
    let reads : move_in 3 (spell_move 3 made) ≡ Some made = c.moves_are_read.ensures 3 made c.told_move.ensures in
    let sound : (co : Coordinator Definition) → AreChangesOf (tables_defined co.definitions) c.args.changes.now → list_all (fits_its_part reading co) c.args.changes.now ≡ true = λ co fits. c.typed_changes_are_sound.ensures.all definition_in co c.args.changes.now fits in
    let spells : c.deref.result.now ≡ spell_move 3 made = c.deref.ensures.value ∙ c.in_ok-spelled.ensures in
    let keys = keys_are_values c.args.changes.now c.told_changes.ensures in
    rw p.1 (λ shape k conts h may.
    unit_leaves_either (g.D.Disks.view c.args.disks.now) shape c.args.store.now k h c.args.unit c.args.changes.now made conts may c.requires.new reads sound c.deref.result.now spells
    (g.D.Disks.view c.commit.new.disks) c.commit.new.self c.in_err-number.ensures.others.shape keys c.in_err-number.ensures.images)

pub returns-in_err-number-clause-full : goal.returns-in_err-number-clause-full
returns-in_err-number-clause-full g c dev is shape k h told =
    let f = g.D.Disks.view c.commit.new.disks in
    let u = c.args.unit in
    let cs = c.args.changes.now in
    let spells : c.deref.result.now ≡ spell_move 3 c.args.made.now = c.deref.ensures.value ∙ c.in_ok-spelled.ensures in
    let p = err_from_is_err_and c.from_residual-in_err-number.result c.from_residual-in_err-number.ensures.1 in
    let e = full_is p.0 c.in_err-number.field-0.0 dev p.2 (cc (p.1, is)) in
    subst (λ mv. CommitFills f shape u cs mv dev) spells
    (filled (g.D.Disks.view c.args.disks.now) shape c.args.store.now k h (λ s. CommitFills f s u cs c.deref.result.now) c.in_err-number.field-0.0 dev e (c.in_err-number.ensures.full h.told))

pub returns-in_err-number-clause-cause : goal.returns-in_err-number-clause-cause
returns-in_err-number-clause-cause g c =
    let p = err_from_is_err_and c.from_residual-in_err-number.result c.from_residual-in_err-number.ensures.1 in
    rw (answer_is c.from_residual-in_err-number.result p.0 c.in_err-number.field-0.0 p.1 p.2) c.in_err-number.ensures.cause

pub returns-clause-within : goal.returns-clause-within
returns-clause-within g c setup s = stood_within (g.D.Disks.view c.args.disks.now) (g.D.Disks.view c.commit.new.disks) setup c.args.store.now s None c.in_ok-number.ensures.others

pub returns-in_err-number-clause-within : goal.returns-in_err-number-clause-within
returns-in_err-number-clause-within g c setup s =
    stood_within (g.D.Disks.view c.args.disks.now) (g.D.Disks.view c.commit.new.disks) setup c.args.store.now s (Some c.in_err-number.field-0.0) c.in_err-number.ensures.others
