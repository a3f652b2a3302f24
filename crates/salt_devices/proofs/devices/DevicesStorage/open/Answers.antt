use Rattle.salt_storage.specs.OpenErr.TheVariants as opening
use Rattle.salt_devices.proofs.Begun.{no_more, opened_finds, opened_held, opens_behind, refused_bytes, rests_behind, tried_behind, upon_bytes}
use Rattle.salt_devices.proofs.Standing.{opened_callable}
use Rattle.salt_devices.proofs.Started.{called}
use Rattle.salt_devices.proofs.devices.DevicesStorage.open.Goals as goal
use Rattle.salt_devices.specs.Holding.{IsGoing}
use Rattle.salt_devices.specs.Leaving.{CanOpen}
use Rattle.std.proofs.Common.{Bool, Err, ap, refl, subst, sym, ◌≡◌, ◌∙◌}
use Rattle.std.specs.Prelude.{IfSome}

pub open_first-requires-clause-room : goal.open_first-requires-clause-room
open_first-requires-clause-room g c = record { known = c.requires.settled.able.room; settled = c.requires.settled.settled.each }

pub open_first-requires-clause-opens : goal.open_first-requires-clause-opens
open_first-requires-clause-opens g c =
    subst (λ (b : Bool). CanOpen c.args.self.now.pending b (g.D.Disks.view c.args.disks.now) c.args.self.now.shape) c.requires.settled.started_now c.requires.settled.opens

pub returns-in-Ok-clause-found : goal.returns-in-Ok-clause-found
returns-in-Ok-clause-found g c =
    let d = g.D.Disks.view c.args.disks.now in
    let e = g.D.Disks.view c.open_first.new.disks in
    let o = c.in-Ok.ensures.ok in
    let x = c.args.self.now in
    let same = (c.in-Ok.ensures.within x.over_net).shape in (
      o.kept,
      o.is_found,
      o.sound,
      opened_finds d e x.shape c.in-Ok.store c.in-Ok.found o x.started c.requires.settled.started_now,
      λ told. opened_held d e x.shape c.in-Ok.store c.in-Ok.found o c.put_over.result c.requires.settled.able same
          (record { rests = c.put_over.ensures.rests; new = c.put_over.ensures.new; rest = c.put_over.ensures.rest }) (same.told ∙ told),
    )

pub returns-in-Ok-clause-able : goal.returns-in-Ok-clause-able
returns-in-Ok-clause-able g c =
    let x = c.args.self.now in
    opened_callable (g.D.Disks.view c.args.disks.now) (g.D.Disks.view c.open_first.new.disks) x.shape c.in-Ok.store c.put_over.result (c.in-Ok.ensures.within x.over_net).shape c.requires.settled.able
    (record { rests = c.put_over.ensures.rests; new = c.put_over.ensures.new; rest = c.put_over.ensures.rest }) c.in-Ok.ensures.ok.stands

pub returns-in-Err-clause-refuses : goal.returns-in-Err-clause-refuses
returns-in-Err-clause-refuses g c told = upon_bytes (g.D.Disks.view c.args.disks.now) c.args.self.now.started _ c.requires.settled.started_now (c.in-Err.ensures.err told)

pub returns-in-Err-clause-still : goal.returns-in-Err-clause-still
returns-in-Err-clause-still g c =
    no_more (g.D.Disks.view c.args.disks.now) (g.D.Disks.view c.open_first.new.disks) c.args.self.now.shape (c.in-Err.ensures.within c.args.self.now.over_net).shape c.args.self.now.started _ c.requires.settled.started_now refl c.in-Err.ensures.still

pub returns-in-Err-clause-rests : goal.returns-in-Err-clause-rests
returns-in-Err-clause-rests g c k h =
    let x = c.args.self.now in
    rests_behind (g.D.Disks.view c.args.disks.now) (g.D.Disks.view c.open_first.new.disks) x.shape (c.in-Err.ensures.within c.args.self.now.over_net).shape c.requires.settled.able x.started c.requires.settled.started_now c.in-Err.ensures.rests k h

pub returns-in-Err-clause-tried : goal.returns-in-Err-clause-tried
returns-in-Err-clause-tried g c is = tried_behind _ c.in-Err.e c.pending_opening-self.ensures (cc is)

pub returns-in-Err-clause-able : goal.returns-in-Err-clause-able
returns-in-Err-clause-able g c =
    let d = g.D.Disks.view c.args.disks.now in
    let e = g.D.Disks.view c.open_first.new.disks in
    let same = (c.in-Err.ensures.within c.args.self.now.over_net).shape in
    record {
      can = called _ _ _ d e refl same c.requires.settled.able (opens_behind d e c.args.self.now.shape _ c.in-Err.e same c.pending_opening-self.ensures (λ is. c.in-Err.ensures.stopped (ap Err is)));
      store = subst (λ v. IfSome v (IsGoing c.args.self.now.shape _ c.pending_opening-self.result e)) (sym c.requires.unopened) tt;
    }

pub returns-in-Err-clause-full : goal.returns-in-Err-clause-full
returns-in-Err-clause-full g c dev is = let full : c.in-Err.e ≡ opening.Full dev = cc is in c.in-Err.ensures.full dev (ap Err full)

pub returns-in-Ok-clause-unwritten : goal.returns-in-Ok-clause-unwritten
returns-in-Ok-clause-unwritten g c refusal is refuses told =
    let x = c.args.self.now in
    c.in-Ok.ensures.unwritten refusal is (refused_bytes (g.D.Disks.view c.args.disks.now) x.shape x.started refusal c.requires.settled.started_now c.requires.settled.able (refuses told)) told

pub returns-in-Err-clause-unwritten : goal.returns-in-Err-clause-unwritten
returns-in-Err-clause-unwritten g c refusal is refuses told =
    let x = c.args.self.now in
    c.in-Err.ensures.unwritten refusal is (refused_bytes (g.D.Disks.view c.args.disks.now) x.shape x.started refusal c.requires.settled.started_now c.requires.settled.able (refuses told)) told

pub returns-in-Ok-clause-net : goal.returns-in-Ok-clause-net
returns-in-Ok-clause-net g c = c.put_over.ensures.net

pub returns-in-Ok-clause-within : goal.returns-in-Ok-clause-within
returns-in-Ok-clause-within g c = c.in-Ok.ensures.within c.args.self.now.over_net

pub returns-in-Err-clause-within : goal.returns-in-Err-clause-within
returns-in-Err-clause-within g c = c.in-Err.ensures.within c.args.self.now.over_net
