use Rattle.salt_parse.proofs.Whole.{row_printable}
use Rattle.salt_parse.proofs.laws.printable_symbols.Goals as goal

pub returns : goal.returns
returns c = row_printable c.quoted_text.ensures
