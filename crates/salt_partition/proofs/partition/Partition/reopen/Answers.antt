use Rattle.salt_partition.proofs.Reopened.{last_stays, reopened}
use Rattle.salt_partition.proofs.partition.Partition.reopen.Goals as goal
use Rattle.salt_partition.specs.declared.partition.Partition.{Partition}
use Rattle.salt_stands.specs.Partition.{part_tables}
use Rattle.std.proofs.Common.{ap}

pub returns-clause-ok : goal.returns-clause-ok
returns-clause-ok g c p v applied now is goes same =
    let d = g.D.Disks.view c.args.disks.now in
    let e = g.D.Disks.view c.found_later.new.disks in
    let x = c.args.self.now in
    let y = c.in_ok-opened.opened in
    let z : Partition = record { part = c.self.inside.part; nulls = c.self.inside.nulls; log = c.opened.inside.log; last = c.self.inside.last; rows = c.opened.inside.rows.entries } in
    let h = c.in_ok-opened.ensures in
    let later = h.later (part_tables applied v.log v.rows) is.rows in
    reopened d e x y c.args.boot c.args.decided.now h.kept h.opens p v applied now c.args.changes.now is goes z later (ap (λ (z : Partition). z.part) c.self.view_is) (ap (λ (z : Partition). z.nulls) c.self.view_is)
    (last_stays d e x y c.args.boot c.args.decided.now h.kept h.opens p v applied now c.args.changes.now is goes z (ap (λ (z : Partition). z.last) c.self.view_is)) (ap (λ (z : Partition). z.log) c.opened.view_is) (ap (λ (z : Partition). z.rows) c.opened.view_is)
