use Rattle.salt_rows.proofs.Few.{dirty_fewer}
use Rattle.salt_rows.proofs.store.RowStore.make_room.Goals as goal

pub returns-else-is_full-clause-rows : goal.returns-else-is_full-clause-rows
returns-else-is_full-clause-rows g c = λ dev named t is. record { is = is; few = dirty_fewer c.args.self.now.pool is.kept.is_pool c.is_full.result c.is_full.ensures c.if-is_full.false }
