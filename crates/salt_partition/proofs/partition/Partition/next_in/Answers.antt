use Rattle.salt_eval.specs.Views.{is_next}
use Rattle.salt_model.specs.Tables.{place_cmp}
use Rattle.salt_model.specs.Words.{first_of_list}
use Rattle.salt_partition.proofs.Standing.{rows_shown}
use Rattle.salt_partition.proofs.partition.Partition.next_in.Goals as goal
use Rattle.salt_partition.specs.Partitions.{IsPartition}
use Rattle.salt_partition.specs.declared.partition.Partition.{Partition}
use Rattle.salt_stands.specs.Partition.{part_tables}
use Rattle.std.proofs.Common.{ap, subst, sym, ◌∙◌}
use Rattle.std.specs.FinMap.Entries.{where_key}
use Rattle.std.specs.Option.{option_copied}
use Rattle.std.specs.Prelude.{option_map}

pub returns-clause-row : goal.returns-clause-row
returns-clause-row g c p v applied is =
    let after = option_copied c.args.after in
    let was = subst (λ (x : Partition). IsPartition (g.D.Disks.view c.args.disks.now) x p v applied) (sym c.self.view_is) is in
    c.in_ok-row.ensures
    ∙ ap (λ es. option_map (λ e. e.1) (first_of_list (where_key place_cmp (is_next c.args.table c.args.range.now after) es))) (rows_shown c.self.inside.rows.entries (part_tables applied v.log v.rows) was.rows)
