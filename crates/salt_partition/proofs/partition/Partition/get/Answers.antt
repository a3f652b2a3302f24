use Rattle.salt_eval.proofs.InOrder.{row_at-tables_of}
use Rattle.salt_model.specs.Tables.{place, place_cmp}
use Rattle.salt_partition.proofs.Standing.{rows_shown}
use Rattle.salt_partition.proofs.partition.Partition.get.Goals as goal
use Rattle.salt_partition.specs.Partitions.{IsPartition}
use Rattle.salt_partition.specs.declared.partition.Partition.{Partition}
use Rattle.salt_stands.specs.Partition.{part_tables}
use Rattle.std.proofs.Common.{Some, ap, subst, sym, ◌∙◌}
use Rattle.std.specs.BTreeMap.{is_at}
use Rattle.std.specs.FinMap.Entries.{find}
use Rattle.std.specs.Map.{lookup}
use Rattle.std.specs.Option.{option_copied}

pub returns-in-Some-clause-row : goal.returns-in-Some-clause-row
returns-in-Some-clause-row g c p v applied is =
    let q = place c.args.table c.args.key.now in
    let es = c.self.inside.rows.entries in
    let was = subst (λ (x : Partition). IsPartition (g.D.Disks.view c.args.disks.now) x p v applied) (sym c.self.view_is) is in
    ap Some c.in_ok-copy-in-Some.ensures
    ∙ sym (ap option_copied c.in-Some.is)
    ∙ c.get.ensures.value
    ∙ ap (λ k. lookup (is_at (place_cmp (place c.args.table k))) es) c.in_ok-copy.ensures
    ∙ sym (row_at-tables_of q es)
    ∙ ap (find place_cmp q) (rows_shown es (part_tables applied v.log v.rows) was.rows)

pub returns-clause-row : goal.returns-clause-row
returns-clause-row g c p v applied is =
    let q = place c.args.table c.args.key.now in
    let es = c.self.inside.rows.entries in
    let was = subst (λ (x : Partition). IsPartition (g.D.Disks.view c.args.disks.now) x p v applied) (sym c.self.view_is) is in
    sym (ap option_copied c.in-None.is)
    ∙ c.get.ensures.value
    ∙ ap (λ k. lookup (is_at (place_cmp (place c.args.table k))) es) c.in_ok-copy.ensures
    ∙ sym (row_at-tables_of q es)
    ∙ ap (find place_cmp q) (rows_shown es (part_tables applied v.log v.rows) was.rows)
