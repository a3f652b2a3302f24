use Rattle.law_openings.proofs.EachOpening.{trace-falls, trace-falls-again, trace-opens, trace-stops}
use Rattle.law_openings.proofs.laws.traces_open_their_points.Goals as goal

pub returns : goal.returns
returns c = record { stops = trace-stops; falls = trace-falls; falls_again = trace-falls-again; opens = trace-opens }
