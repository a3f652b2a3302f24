use Rattle.salt_codec.proofs.Fronts.{are_bytes, at_front, rest_within}
use Rattle.salt_codec.proofs.rows.take_row.Goals as goal
use Rattle.std.proofs.Common.{arith}

pub overflow_sub-result : goal.overflow_sub-result
overflow_sub-result c = rest_within c.args.nulls c.args.bytes.now c.in-Ok.row c.in-Ok.rest.now (are_bytes c.args.bytes.now (λ k. omega (arith, c.type_inv.bytes k))) c.in-Ok.ensures

pub returns-in-Ok-clause-row : goal.returns-in-Ok-clause-row
returns-in-Ok-clause-row c = at_front c.args.nulls c.args.bytes.now c.in-Ok.row c.in-Ok.rest.now (are_bytes c.args.bytes.now (λ k. omega (arith, c.type_inv.bytes k))) c.in-Ok.ensures
