use Rattle.salt_directory.proofs.Exchanged.{in_its_place}
use Rattle.salt_directory.proofs.page.exchange.Goals as goal
use Rattle.std.proofs.Common.{refl}

pub returns-then-replace-clause-put : goal.returns-then-replace-clause-put
returns-then-replace-clause-put c = λ key found put.
    in_its_place c.args.table key c.args.row.now c.args.page.now c.args.i found c.replace.new.self (c.if-replace.ensures.set found.0 found.1 refl)
