use Rattle.law_texts.proofs.Lines.{lines_inline, event_is_lines, lines_one}
use Rattle.law_texts.proofs.laws.lines_of_event.Goals as goal

pub returns-clause-are : goal.returns-clause-are
returns-clause-are c = event_is_lines

pub returns-clause-whole : goal.returns-clause-whole
returns-clause-whole c = lines_inline c.laws_below.ensures

pub returns-clause-one : goal.returns-clause-one
returns-clause-one c = lines_one
