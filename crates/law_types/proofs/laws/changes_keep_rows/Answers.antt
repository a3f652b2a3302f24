use Rattle.law_types.proofs.Rows.{edits-put, rows-changed}
use Rattle.law_types.proofs.laws.changes_keep_rows.Goals as goal

pub returns : goal.returns
returns c = record { rows = rows-changed; edits = edits-put }
