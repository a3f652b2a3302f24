use Rattle.salt_commit.proofs.Fields.{shown}
use Rattle.salt_commit.proofs.Roomed.{as_store, room_made}
use Rattle.salt_commit.proofs.store.Store.renew_full.Goals as goal
use Rattle.salt_commit.specs.Rooms.{HasMadeRoom}
use Rattle.salt_commit.specs.Stores.{StandsOnDevices}
use Rattle.salt_commit.specs.declared.store.Store.{Store}
use Rattle.salt_place.specs.declared.placement.Shape.{Shape}
use Rattle.std.proofs.Common.{None, Some, [], ap, refl, subst, sym, ◌∙◌}
use Rattle.std.proofs.lemmas.Result.{err_from_is_err_and}

pub renew_full-requires : goal.renew_full-requires
renew_full-requires g c =
    let d = g.D.Disks.view c.args.disks.now in
    as_store d (shown c.self.inside) (subst (λ (y : Store). StandsOnDevices d y) (sym c.self.view_is) c.requires)

pub invariant_of-self : goal.invariant_of-self
invariant_of-self g c = c.renew_full.ensures.makes.size ∙ c.self.invariant ∙ ap (λ (s : Shape). s.parts) (sym c.renew_full.ensures.makes.shape)

pub invariant_of-self-2 : goal.invariant_of-self-2
invariant_of-self-2 g c = c.renew_full.ensures.makes.size ∙ c.self.invariant ∙ ap (λ (s : Shape). s.parts) (sym c.renew_full.ensures.makes.shape)

pub returns-in_err-renew_full : goal.returns-in_err-renew_full
returns-in_err-renew_full g c =
    let d = g.D.Disks.view c.args.disks.now in
    let e = g.D.Disks.view c.renew_full.new.disks in
    let x = shown c.self.inside in
    let y : Store = record { decisions = c.renew_full.new.decisions; parts = c.renew_full.new.parts.items; messages = x.messages } in
    let p = err_from_is_err_and c.from_residual.result c.from_residual.ensures.1 in
    rw (p.1, p.2) (subst (λ (z : Store). HasMadeRoom d e z y [] (Some c.in_err-renew_full.field-0.0)) c.self.view_is (room_made d e x y [] (Some c.in_err-renew_full.field-0.0) c.self.invariant c.in_err-renew_full.ensures.makes refl))

pub returns : goal.returns
returns g c =
    let d = g.D.Disks.view c.args.disks.now in
    let e = g.D.Disks.view c.renew_full.new.disks in
    let x = shown c.self.inside in
    let y : Store = record { decisions = c.renew_full.new.decisions; parts = c.renew_full.new.parts.items; messages = x.messages } in
    subst (λ (z : Store). HasMadeRoom d e z y [] None) c.self.view_is (room_made d e x y [] None c.self.invariant c.in_ok-renew_full.ensures.makes refl)
