use Rattle.salt_loaded.proofs.Meeting.{of_first}
use Rattle.salt_loaded.proofs.meets.+are_of_columns.Goals as goal

pub returns-then-is_of_column : goal.returns-then-is_of_column
returns-then-is_of_column t c =
    of_first c.args.columns.now c.column-item.result c.args.bytes.now c.in-Some.behind.now c.is_of_column.result c.are_of_columns.result c.in-len1-up.len_at_least c.column-item.is
    c.in-Some.ensures c.is_of_column.ensures c.if-is_of_column.true c.are_of_columns.ensures
