use Rattle.salt_loaded.proofs.Meeting.{other_count}
use Rattle.salt_loaded.proofs.meets.has_columns.Goals as goal

pub returns-else-count-columns : goal.returns-else-count-columns
returns-else-count-columns c = other_count c.args.columns.now c.args.row.now c.in-len1-up.len_at_least c.if-count-columns.false
