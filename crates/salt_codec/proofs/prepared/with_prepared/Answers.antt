use Rattle.salt_codec.proofs.Puttable.{read_again}
use Rattle.salt_codec.proofs.prepared.with_prepared.Goals as goal
use Rattle.std.proofs.Common.{arith}

pub returns-clause-read : goal.returns-clause-read
returns-clause-read c =
    read_again (record { unit = c.args.unit; changes = c.args.changes.now }) (record { boot = omega arith; seq = omega arith }) (omega arith) c.told_changes.ensures
