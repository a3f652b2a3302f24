use Rattle.law_openings.proofs.Doing.{does-its-rests, does-no-more, left-most, statements-fall}
use Rattle.law_openings.proofs.laws.drains_do_their_rests.Goals as goal

pub returns : goal.returns
returns c = record { one = statements-fall; all = does-no-more; next = does-its-rests; most = left-most }
