use Rattle.salt_partition.proofs.Reopened.{last_decided, reopened}
use Rattle.salt_partition.proofs.partition.Partition.opened_anew.Goals as goal
use Rattle.salt_stands.specs.Partition.{part_tables}
use Rattle.std.proofs.Common.{refl}

pub returns-clause-ok : goal.returns-clause-ok
returns-clause-ok g c p v applied now is goes named same =
    let d = g.D.Disks.view c.args.disks.now in
    let e = g.D.Disks.view c.found_later.new.disks in
    let h = c.in_ok-opened.ensures in
    let y = c.in_ok-opened.opened in
    let later = h.later (part_tables applied v.log v.rows) is.rows in
    reopened d e c.args.self.now y c.args.boot c.args.decided.now h.kept h.opens p v applied now c.args.changes.now is goes y later h.opens.is.part later.nulls
    (last_decided d e c.args.self.now y c.args.boot c.args.decided.now h.kept h.opens p v applied now c.args.changes.now is goes y named) refl refl
