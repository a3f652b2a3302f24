use Rattle.salt_partition.proofs.Copied.{row_decides}
use Rattle.salt_partition.proofs.compared.is_same_row.Goals as goal
use Rattle.std.proofs.Common.{sym, ◌∙◌}

pub returns : goal.returns
returns c =
    let same = row_decides c.args.a.now c.args.b.now in
    (λ e. same.0 (sym c.eq.ensures ∙ e), λ e. c.eq.ensures ∙ same.1 e)
