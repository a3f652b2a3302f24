use Rattle.law_definitions.proofs.Texts.{read_exactly}
use Rattle.law_definitions.proofs.laws.definitions_are_read.Goals as goal

pub returns : goal.returns
returns c = read_exactly c.quoted_text.ensures c.canonical_table.ensures c.canonical_program.ensures
