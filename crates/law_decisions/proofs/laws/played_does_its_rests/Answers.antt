use Rattle.law_decisions.proofs.Resting.{drains-always}
use Rattle.law_decisions.proofs.laws.played_does_its_rests.Goals as goal

pub returns : goal.returns
returns c = λ trace played sound lines.
    c.openings_do_their_rests.ensures trace (record { played = played; well = sound.well }) (drains-always c.read_lines_are_spelled.ensures.keys c.played_is_typed.ensures.here trace played sound lines)
