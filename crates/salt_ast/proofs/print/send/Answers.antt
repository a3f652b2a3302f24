use Rattle.std.proofs.Common.{append-nil, rules}
use Rattle.salt_ast.proofs.Joins.{all_sent, ◌⨾◌}
use Rattle.salt_ast.proofs.print.send.Goals as goal

pub returns : goal.returns
returns g c =
    let all = c.print.ensures ⨾ c.flush.ensures.prints in
    let sent = all_sent c.flush.new.self.outcome c.new.ensures c.flush.ensures.empty (append-nil (g.T.Canonical.text c.args.tree.now)) all.printed in
    search rules
