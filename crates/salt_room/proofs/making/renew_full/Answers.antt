use Rattle.salt_room.proofs.Made.{nothing_made, ok_maps, renewal_made}
use Rattle.salt_room.proofs.Rooms.{room_of_none}
use Rattle.salt_room.proofs.making.renew_full.Goals as goal
use Rattle.std.proofs.Common.{length}

pub returns-then-not-is_full-clause-makes : goal.returns-then-not-is_full-clause-makes
returns-then-not-is_full-clause-makes g c = nothing_made (g.D.Disks.view c.args.disks.now) c.args.decisions.now c.args.parts.now.items (c.is_full.ensures.room c.if-not-is_full.true)

pub returns-clause-makes : goal.returns-clause-makes
returns-clause-makes g c =
    renewal_made (g.D.Disks.view c.args.disks.now) (g.D.Disks.view c.renew.new.disks) c.args.decisions.now c.renew.new.decisions c.args.parts.now.items c.renew.new.parts.items c.renew.result c.requires
    c.renew.ensures.ok c.renew.ensures.entries c.renew.ensures.images c.renew.ensures.numbers c.renew.ensures.shape c.renew.ensures.size c.renew.ensures.others c.renew.ensures.cause (c.is_full.ensures.many c.if-not-is_full.false) c.renew.ensures.passes

pub returns-clause-room : goal.returns-clause-room
returns-clause-room g c shares room = ok_maps c.renew.result (room_of_none (length c.renew.new.parts.items) c.renew.new.parts.items shares) c.renew.ensures.empty
