use Rattle.salt_devices.proofs.Begun.{not_refused}
use Rattle.salt_devices.proofs.Within.{store_within, within_on}
use Rattle.salt_devices.proofs.open.open_first.Goals as goal
use Rattle.salt_gatelog.proofs.Entries.{not_told}
use Rattle.salt_storage.specs.Answers.{open_disk_err_of}
use Rattle.salt_devices.specs.Holding.{setup_in}
use Rattle.std.proofs.Common.{IsTrue, None, sym, ◌∙◌}

pub fault-requires : goal.fault-requires
fault-requires g c =
    let d = g.D.Disks.view c.args.disks.now in
    let e = g.D.Disks.view c.open_devices.new.disks in
    not_told e.told (λ now.
    let told : IsTrue d.told = sym c.in-Err.ensures.others.shape.told ∙ now in
    c.refuses.ensures.refused c.if-refuses.true (not_refused d c.args.shape c.args.pending c.in-Err.e c.requires.opens (c.is_opening.ensures.0 c.if-not-is_opening.false) told (c.in-Err.ensures.err told)))

pub returns-then-refuses-clause-still : goal.returns-then-refuses-clause-still
returns-then-refuses-clause-still g c told image left =
    let d = g.D.Disks.view c.args.disks.now in
    absurd (c.refuses.ensures.refused c.if-refuses.true (not_refused d c.args.shape c.args.pending c.in-Err.e c.requires.opens (c.is_opening.ensures.0 c.if-not-is_opening.false) told (c.in-Err.ensures.err told)))

pub returns-then-refuses-clause-rests : goal.returns-then-refuses-clause-rests
returns-then-refuses-clause-rests g c told image left =
    let d = g.D.Disks.view c.args.disks.now in
    absurd (c.refuses.ensures.refused c.if-refuses.true (not_refused d c.args.shape c.args.pending c.in-Err.e c.requires.opens (c.is_opening.ensures.0 c.if-not-is_opening.false) told (c.in-Err.ensures.err told)))

pub returns-then-refuses-clause-unwritten : goal.returns-then-refuses-clause-unwritten
returns-then-refuses-clause-unwritten g c refusal is refused told =
    let d = g.D.Disks.view c.args.disks.now in
    absurd (c.refuses.ensures.refused c.if-refuses.true (not_refused d c.args.shape c.args.pending c.in-Err.e c.requires.opens (c.is_opening.ensures.0 c.if-not-is_opening.false) told (c.in-Err.ensures.err told)))

pub returns-in-Ok-clause-within : goal.returns-in-Ok-clause-within
returns-in-Ok-clause-within g c over = store_within (g.D.Disks.view c.args.disks.now) (g.D.Disks.view c.open_devices.new.disks) (setup_in c.args.shape over) None c.in-Ok.ensures.others

pub returns-then-not-is_opening-clause-within : goal.returns-then-not-is_opening-clause-within
returns-then-not-is_opening-clause-within g c over = store_within (g.D.Disks.view c.args.disks.now) (g.D.Disks.view c.open_devices.new.disks) (setup_in c.args.shape over) (open_disk_err_of c.in-Err.e) c.in-Err.ensures.others

pub returns-then-refuses-clause-within : goal.returns-then-refuses-clause-within
returns-then-refuses-clause-within g c over =
    within_on (g.D.Disks.view c.args.disks.now) (g.D.Disks.view c.open_devices.new.disks) (setup_in c.args.shape over) (g.D.Disks.view c.fault.new.disks) (open_disk_err_of c.fault.result)
    (store_within (g.D.Disks.view c.args.disks.now) (g.D.Disks.view c.open_devices.new.disks) (setup_in c.args.shape over) (open_disk_err_of c.in-Err.e) c.in-Err.ensures.others) c.fault.ensures.kept

pub returns-else-refuses-clause-within : goal.returns-else-refuses-clause-within
returns-else-refuses-clause-within g c over = store_within (g.D.Disks.view c.args.disks.now) (g.D.Disks.view c.open_devices.new.disks) (setup_in c.args.shape over) (open_disk_err_of c.in-Err.e) c.in-Err.ensures.others
