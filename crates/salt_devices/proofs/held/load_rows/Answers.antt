use Rattle.salt_commit.specs.Loads.{IsPartOf}
use Rattle.salt_devices.proofs.Entered.{leaves_on}
use Rattle.salt_devices.proofs.Loading.{rows_keyed}
use Rattle.salt_devices.proofs.Either.{either}
use Rattle.salt_storage.proofs.Halted.{answer_is, full_is}
use Rattle.salt_devices.proofs.Stores.{held_again, held_leaves, held_schema, new_again, one_schema, standing_again, standing_on}
use Rattle.salt_devices.proofs.held.load_rows.Goals as goal
use Rattle.salt_disk.specs.Disks.{OnlyFails}
use Rattle.salt_model.specs.Kept.{Kept}
use Rattle.std.proofs.Common.{Some, ap, length, subst, sym, ◌<◌, ◌∙◌}
use Rattle.std.proofs.lemmas.Result.{err_from_is_err_and}

pub reject-requires : goal.reject-requires
reject-requires g c = c.is_undefined.ensures.mute c.if-is_undefined.true

pub returns-then-is_undefined-clause-leaves : goal.returns-then-is_undefined-clause-leaves
returns-then-is_undefined-clause-leaves g c shape k h = absurd (cc (h.told, c.is_undefined.ensures.mute c.if-is_undefined.true))

pub load-requires-clause-stands : goal.load-requires-clause-stands
load-requires-clause-stands g c = let s = c.requires.stands in standing_on (g.D.Disks.view c.args.disks.now) s.0 c.args.store.now s.1

pub load-requires-clause-table : goal.load-requires-clause-table
load-requires-clause-table g c =
    either (c.args.reach.now.table < length c.args.schema.now) (g.D.Disks.view c.args.disks.now).told
    (λ told. let r = c.requires.reach told in subst (λ s. c.args.reach.now.table < length s) (sym r.3) r.4)
    (λ mute. c.is_undefined.ensures.defined c.if-is_undefined.false mute)

pub load-requires-clause-schema : goal.load-requires-clause-schema
load-requires-clause-schema g c which co v is told =
    let r = c.requires.reach told in
    let d = g.D.Disks.view c.args.disks.now in
    r.3 ∙ held_schema d r.0 c.args.store.now r.1 r.2 ∙ one_schema d c.args.store.now told r.2.which which r.2.c co r.2.v v r.2.is is

pub returns-clause-stands : goal.returns-clause-stands
returns-clause-stands g c shape s =
    standing_again (g.D.Disks.view c.args.disks.now) shape c.args.store.now s (g.D.Disks.view c.load.new.disks) c.load.new.self (c.in_ok-rows.ensures.stands s.which s.c s.v s.is)

pub returns-clause-keyed : goal.returns-clause-keyed
returns-clause-keyed g c = rows_keyed c.args.schema.now c.in_ok-rows.rows c.in_ok-rows.ensures.typed

pub returns-clause-rows : goal.returns-clause-rows
returns-clause-rows g c shape k h =
    subst (λ t. IsPartOf c.args.reach.now c.in_ok-rows.rows t) (ap (λ (z : Kept). z.tables) h.keeps) (c.in_ok-rows.ensures.rows h.which h.c h.v h.is h.told)

pub returns-clause-holds : goal.returns-clause-holds
returns-clause-holds g c shape k h =
    held_again (g.D.Disks.view c.args.disks.now) (g.D.Disks.view c.load.new.disks) shape c.args.store.now c.load.new.self k (c.in_ok-rows.ensures.kept.shape.told ∙ h.told) h (c.in_ok-rows.ensures.stands h.which h.c h.v h.is)

pub returns-clause-is_new : goal.returns-clause-is_new
returns-clause-is_new g c u new =
    let s = c.requires.stands.1 in
    new_again (g.D.Disks.view c.args.disks.now) (g.D.Disks.view c.load.new.disks) c.args.store.now c.load.new.self s.which s.c s.v s.is (c.in_ok-rows.ensures.stands s.which s.c s.v s.is) c.in_ok-rows.ensures.kept.shape u new

pub returns-in_err-rows-clause-leaves : goal.returns-in_err-rows-clause-leaves
returns-in_err-rows-clause-leaves g c =
    let p = err_from_is_err_and c.from_residual.result c.from_residual.ensures.1 in
    let keeps = c.in_err-rows.ensures.kept in
    let d = g.D.Disks.view c.args.disks.now in
    rw p.1 (λ shape k h. leaves_on d (g.D.Disks.view c.load.new.disks) shape k k keeps.shape (λ dev. keeps.images dev (λ none. none)) (held_leaves d shape c.args.store.now k h k))

pub returns-in_err-rows-clause-full : goal.returns-in_err-rows-clause-full
returns-in_err-rows-clause-full g c dev is =
    let p = err_from_is_err_and c.from_residual.result c.from_residual.ensures.1 in
    subst (λ e. OnlyFails (Some e)) (full_is p.0 c.in_err-rows.field-0.0 dev p.2 (cc (p.1, is))) c.in_err-rows.ensures.answers

pub returns-in_err-rows-clause-cause : goal.returns-in_err-rows-clause-cause
returns-in_err-rows-clause-cause g c =
    let p = err_from_is_err_and c.from_residual.result c.from_residual.ensures.1 in
    rw (answer_is c.from_residual.result p.0 c.in_err-rows.field-0.0 p.1 p.2) c.in_err-rows.ensures.cause

pub returns-in_err-rows-clause-kept : goal.returns-in_err-rows-clause-kept
returns-in_err-rows-clause-kept g c =
    let p = err_from_is_err_and c.from_residual.result c.from_residual.ensures.1 in
    rw (answer_is c.from_residual.result p.0 c.in_err-rows.field-0.0 p.1 p.2) c.in_err-rows.ensures.kept
