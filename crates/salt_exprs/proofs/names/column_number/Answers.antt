use Rattle.salt_exprs.proofs.Numbers.{position-is_number}
use Rattle.salt_exprs.proofs.names.column_number.Goals as goal

pub returns : goal.returns
returns c = rw c.position_of.ensures (position-is_number c.args.columns.now c.args.name.now)
