use Rattle.salt_commit.proofs.Fields.{shown}
use Rattle.salt_commit.proofs.Roomed.{as_store, room_made}
use Rattle.salt_commit.proofs.store.Store.make_room.Goals as goal
use Rattle.salt_commit.specs.Rooms.{HasMadeRoom}
use Rattle.salt_commit.specs.Stores.{StandsOnDevices}
use Rattle.salt_commit.specs.declared.store.Store.{Store}
use Rattle.salt_place.specs.declared.placement.Shape.{Shape}
use Rattle.std.proofs.Common.{None, Some, ap, length, refl, subst, sym, ◌∙◌}
use Rattle.std.proofs.lemmas.Result.{err_from_is_err_and}

pub make_room-requires-clause-stand : goal.make_room-requires-clause-stand
make_room-requires-clause-stand g c =
    let d = g.D.Disks.view c.args.disks.now in
    as_store d (shown c.self.inside) (subst (λ (y : Store). StandsOnDevices d y) (sym c.self.view_is) c.requires.stands)

pub make_room-requires-clause-size : goal.make_room-requires-clause-size
make_room-requires-clause-size g c = c.requires.size ∙ ap (λ (y : Store). length y.parts) (sym c.self.view_is)

pub invariant_of-self : goal.invariant_of-self
invariant_of-self g c = c.make_room.ensures.makes.size ∙ c.self.invariant ∙ ap (λ (s : Shape). s.parts) (sym c.make_room.ensures.makes.shape)

pub invariant_of-self-2 : goal.invariant_of-self-2
invariant_of-self-2 g c = c.make_room.ensures.makes.size ∙ c.self.invariant ∙ ap (λ (s : Shape). s.parts) (sym c.make_room.ensures.makes.shape)

pub returns-in_err-make_room-clause-makes : goal.returns-in_err-make_room-clause-makes
returns-in_err-make_room-clause-makes g c =
    let d = g.D.Disks.view c.args.disks.now in
    let e = g.D.Disks.view c.make_room.new.disks in
    let x = shown c.self.inside in
    let y : Store = record { decisions = c.make_room.new.decisions; parts = c.make_room.new.parts.items; messages = x.messages } in
    let p = err_from_is_err_and c.from_residual.result c.from_residual.ensures.1 in
    rw (p.1, p.2) (subst (λ (z : Store). HasMadeRoom d e z y c.args.shares.now (Some c.in_err-make_room.field-0.0)) c.self.view_is (room_made d e x y c.args.shares.now (Some c.in_err-make_room.field-0.0) c.self.invariant c.in_err-make_room.ensures.makes refl))

pub returns-clause-makes : goal.returns-clause-makes
returns-clause-makes g c =
    let d = g.D.Disks.view c.args.disks.now in
    let e = g.D.Disks.view c.make_room.new.disks in
    let x = shown c.self.inside in
    let y : Store = record { decisions = c.make_room.new.decisions; parts = c.make_room.new.parts.items; messages = x.messages } in
    subst (λ (z : Store). HasMadeRoom d e z y c.args.shares.now None) c.self.view_is (room_made d e x y c.args.shares.now None c.self.invariant c.in_ok-make_room.ensures.makes refl)

pub returns-clause-room : goal.returns-clause-room
returns-clause-room g c = c.in_ok-make_room.ensures.room
