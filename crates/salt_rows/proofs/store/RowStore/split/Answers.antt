use Rattle.salt_model.specs.Tables.{Tables}
use Rattle.salt_rows.proofs.Parting.{images_put, images_room, named_room, some_standing}
use Rattle.salt_rows.proofs.Put.{stands_in}
use Rattle.salt_rows.proofs.store.RowStore.split.Goals as goal
use Rattle.salt_rows.specs.Stores.{IsRowStore, IsStanding}
use Rattle.std.proofs.Common.{List, Some, ap, arith, length, ℕ}

pub halve-requires : goal.halve-requires
halve-requires g c =
    let d = g.D.Disks.view c.args.disks.now in
    let e1 = g.D.Disks.view c.make_room_for_two.new.disks in
    let room = c.in_ok-make_room_for_two.ensures in
    record {
      stands = stands_in d e1 c.args.self.now c.make_room_for_two.new.self (λ t. t) room.rows c.requires.stands;
      below = omega (arith, c.requires.below, ap (λ (l : List ℕ). length l) room.sides);
      room = room.room;
    }

pub make_room-requires : goal.make_room-requires
make_room-requires g c =
    let d = g.D.Disks.view c.args.disks.now in
    let e2 = g.D.Disks.view c.halve.new.disks in
    some_standing d d e2 e2 c.args.self.now c.halve.new.self c.halve.new.self (λ (t : Tables). t) (λ dev named t is. c.in_ok-halve.ensures.rows dev named t (c.in_ok-make_room_for_two.ensures.rows dev named t is)) c.requires.stands

pub returns-in_err-halve-clause-images : goal.returns-in_err-halve-clause-images
returns-in_err-halve-clause-images g c =
    images_put (g.D.Disks.view c.args.disks.now) (g.D.Disks.view c.make_room_for_two.new.disks) (g.D.Disks.view c.halve.new.disks) c.args.self.now c.in_ok-make_room_for_two.ensures.others (Some c.in_err-halve.field-0.0) c.in_err-halve.ensures.kept c.in_ok-make_room_for_two.ensures.images

pub returns-clause-rows : goal.returns-clause-rows
returns-clause-rows g c = λ dev named t is. c.make_room.ensures.rows dev named t (c.in_ok-halve.ensures.rows dev named t (c.in_ok-make_room_for_two.ensures.rows dev named t is))

pub returns-clause-images : goal.returns-clause-images
returns-clause-images g c =
    let d = g.D.Disks.view c.args.disks.now in
    let e1 = g.D.Disks.view c.make_room_for_two.new.disks in
    let e2 = g.D.Disks.view c.halve.new.disks in
    let e3 = g.D.Disks.view c.make_room.new.disks in
    let stands : (dev : ℕ) (named : List ℕ) (t : Tables) → IsRowStore d c.args.self.now dev named t → IsStanding e2 c.halve.new.self dev named t = λ dev named t is. c.in_ok-halve.ensures.rows dev named t (c.in_ok-make_room_for_two.ensures.rows dev named t is) in
    images_room d e1 e2 e3 c.args.self.now c.halve.new.self c.make_room.new.self (λ (t : Tables). t) stands c.in_ok-make_room_for_two.ensures.others c.in_ok-halve.ensures.kept c.in_ok-make_room_for_two.ensures.images c.make_room.ensures.images

pub returns-clause-named : goal.returns-clause-named
returns-clause-named g c =
    let d = g.D.Disks.view c.args.disks.now in
    let e1 = g.D.Disks.view c.make_room_for_two.new.disks in
    let e2 = g.D.Disks.view c.halve.new.disks in
    let e3 = g.D.Disks.view c.make_room.new.disks in
    let stands : (dev : ℕ) (named : List ℕ) (t : Tables) → IsRowStore d c.args.self.now dev named t → IsStanding e2 c.halve.new.self dev named t = λ dev named t is. c.in_ok-halve.ensures.rows dev named t (c.in_ok-make_room_for_two.ensures.rows dev named t is) in
    named_room d e1 e2 e3 c.args.self.now c.halve.new.self c.make_room.new.self (λ (t : Tables). t) stands c.in_ok-make_room_for_two.ensures.others c.in_ok-halve.ensures.kept c.make_room.result c.in_ok-make_room_for_two.ensures.named c.make_room.ensures.named
