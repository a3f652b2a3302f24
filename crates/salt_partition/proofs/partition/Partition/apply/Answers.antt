use Rattle.salt_model.specs.Tables.{with_changes}
use Rattle.salt_partition.proofs.Lasts.{changes_kept, last_is}
use Rattle.salt_partition.proofs.Standing.{with_applied}
use Rattle.salt_partition.proofs.partition.Partition.apply.Goals as goal
use Rattle.salt_partition.specs.Partitions.{IsPartition, prepared}
use Rattle.salt_partition.specs.declared.partition.Partition.{Partition}
use Rattle.salt_stands.specs.Partition.{part_tables}
use Rattle.salt_values.specs.declared.change.Change.{Change}
use Rattle.std.proofs.Common.{List, Some, ap, refl, subst, sym, ◌≡◌, ◌∙◌}

pub returns-in_ok-make_changes-clause-ok : goal.returns-in_ok-make_changes-clause-ok
returns-in_ok-make_changes-clause-ok g c p v applied is last =
    let d = g.D.Disks.view c.args.disks.now in
    let x = c.self.inside in
    let was = subst (λ (x : Partition). IsPartition d x p v applied) (sym c.self.view_is) is in
    let u = c.args.unit in
    let rows = part_tables applied v.log v.rows in
    let taken : x.last ≡ Some c.in-Some.prepared = sym c.take.ensures.value ∙ c.in-Some.is in
    let changes : c.in-Some.prepared.changes.items ≡ last.changes = changes_kept c.in-Some.prepared x.last (prepared u last.changes) taken (last_is v applied u x.last was.last last) in
    with_applied d _ _ p v applied u was last refl refl refl
    (c.in_ok-make_changes.ensures rows was.rows ∙ ap (λ (cs : List Change). (with_changes cs rows).list) changes)
