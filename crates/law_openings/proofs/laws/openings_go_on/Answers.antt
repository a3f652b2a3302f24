use Rattle.law_openings.proofs.Opening.{early-idle, falls-again, falls-in-opening, none-to-go, opens-point, ready-idle, start-point}
use Rattle.law_openings.proofs.laws.openings_go_on.Goals as goal

pub returns : goal.returns
returns c = record { start = start-point; falls = falls-in-opening; falls_again = falls-again; opens = opens-point; ready = ready-idle; early = early-idle; none_to_go = none-to-go }
