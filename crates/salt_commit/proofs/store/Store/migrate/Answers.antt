use Rattle.salt_commit.proofs.Fields.{shown}
use Rattle.salt_commit.proofs.Migrated.{has_migrated}
use Rattle.salt_commit.proofs.Roomed.{as_store}
use Rattle.salt_commit.proofs.store.Store.migrate.Goals as goal
use Rattle.salt_commit.specs.Migrations.{HasMigrated}
use Rattle.salt_commit.specs.Stores.{StandsOnDevices}
use Rattle.salt_commit.specs.declared.store.Store.{Store}
use Rattle.salt_place.specs.declared.placement.Shape.{Shape}
use Rattle.std.proofs.Common.{None, Some, ap, refl, subst, sym, ◌∙◌}
use Rattle.std.proofs.lemmas.Result.{err_from_is_err_and}

pub migrate-requires : goal.migrate-requires
migrate-requires g c =
    let d = g.D.Disks.view c.args.disks.now in
    as_store d (shown c.self.inside) (subst (λ (y : Store). StandsOnDevices d y) (sym c.self.view_is) c.requires)

pub invariant_of-self : goal.invariant_of-self
invariant_of-self g c = c.migrate.ensures.size ∙ c.self.invariant ∙ ap (λ (s : Shape). s.parts) (sym c.migrate.ensures.shape)

pub invariant_of-self-2 : goal.invariant_of-self-2
invariant_of-self-2 g c = c.migrate.ensures.size ∙ c.self.invariant ∙ ap (λ (s : Shape). s.parts) (sym c.migrate.ensures.shape)

pub returns-in_err-migrate : goal.returns-in_err-migrate
returns-in_err-migrate g c =
    let d = g.D.Disks.view c.args.disks.now in
    let e = g.D.Disks.view c.migrate.new.disks in
    let x = shown c.self.inside in
    let y : Store = record { decisions = c.migrate.new.decisions; parts = c.migrate.new.parts.items; messages = x.messages } in
    let p = err_from_is_err_and c.from_residual.result c.from_residual.ensures.1 in
    rw (p.1, p.2) (subst (λ (z : Store). HasMigrated d e z y (Some c.in_err-migrate.field-0.0)) c.self.view_is (has_migrated d e x y (Some c.in_err-migrate.field-0.0) c.self.invariant c.in_err-migrate.ensures refl))

pub returns : goal.returns
returns g c =
    let d = g.D.Disks.view c.args.disks.now in
    let e = g.D.Disks.view c.migrate.new.disks in
    let x = shown c.self.inside in
    let y : Store = record { decisions = c.migrate.new.decisions; parts = c.migrate.new.parts.items; messages = x.messages } in
    subst (λ (z : Store). HasMigrated d e z y None) c.self.view_is (has_migrated d e x y None c.self.invariant c.in_ok-migrate.ensures refl)
