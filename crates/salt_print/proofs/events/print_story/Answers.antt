use Rattle.std.proofs.Common.{refl, rules}
use Rattle.salt_ast.proofs.Joins.{all_sent}
use Rattle.salt_print.proofs.events.print_story.Goals as goal

pub returns : goal.returns
returns g c =
    let sent = all_sent c.print_events.new.out.outcome c.new.ensures c.print_events.ensures.empty refl c.print_events.ensures.prints.printed in
    search rules
