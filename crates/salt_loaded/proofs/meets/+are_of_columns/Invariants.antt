use Rattle.salt_loaded.proofs.meets.+are_of_columns.Given as goal
use Rattle.std.proofs.Common.{length}

abbrev pub decreases-are_of_columns : goal.decreases-are_of_columns
decreases-are_of_columns l = length l.columns.now
