use Rattle.law_openings.proofs.EarlyOpening.{each-idles, early-idles}
use Rattle.law_openings.proofs.laws.early_openings_do_no_statement.Goals as goal

pub returns : goal.returns
returns c = record { one = early-idles; all = each-idles }
