use Rattle.std.proofs.Common.{sym, ◌∙◌}
use Rattle.std.specs.Option.{option_or}
use Rattle.salt_script.proofs.Lines.{turn_passes, turn_within}
use Rattle.salt_script.proofs.line.turn_line.Goals as goal

pub returns-in-None : goal.returns-in-None
returns-in-None c = λ ts e. turn_within ts c.args.base.boot c.args.base.seq e
    ((λ t. option_or (sym c.number_limit.ensures t) (sym c.number_limit-2.ensures t)) ∙ sym c.in-None.ensures)

pub returns-in-Some : goal.returns-in-Some
returns-in-Some c = λ ts e. turn_passes ts c.args.base.boot c.args.base.seq c.in-Some.limit e
    ((λ t. option_or (sym c.number_limit.ensures t) (sym c.number_limit-2.ensures t)) ∙ sym c.in-Some.ensures)
