use Rattle.salt_ast.proofs.Joins.{all_sent}
use Rattle.salt_workload.proofs.summary.print_summary.Goals as goal
use Rattle.std.proofs.Common.{refl, rules}

pub returns : goal.returns
returns g c =
    let sent = all_sent c.print_line.new.out.outcome c.new.ensures c.print_line.ensures.empty refl c.print_line.ensures.prints.printed in
    search rules
