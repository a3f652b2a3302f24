use Rattle.salt_locks.proofs.Puts.{locks_beside}
use Rattle.salt_locks.proofs.table.LockTable.count.Goals as goal
use Rattle.salt_locks.specs.Tables.{locks_in}
use Rattle.std.proofs.Common.{ap, length, sym, ◌∙◌}

pub returns : goal.returns
returns c =
    let ls = c.self.inside.locks in
    c.len.ensures ∙ (ls.ok.0 ∙ ap length (sym (locks_beside c.self.inside.numbers.items ls.items c.self.invariant.0) ∙ ap locks_in c.self.view_is))
