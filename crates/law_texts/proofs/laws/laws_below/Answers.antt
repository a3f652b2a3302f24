use Rattle.law_texts.proofs.laws.laws_below.Goals as goal

pub returns : goal.returns
returns c = record {
  signs = c.sign_spellings.ensures;
  statement = c.canonical_statement.ensures;
  table = c.canonical_table.ensures;
  program = c.canonical_program.ensures;
  one = c.one_statement.ensures;
  deepens = c.row_statement.ensures.deepens;
}
