use Rattle.salt_ast.proofs.laws.written_tokens.Goals as goal

pub returns : goal.returns
returns c = record {
  words = c.keyword_spellings.ensures.words;
  keywords = c.keyword_spellings.ensures.read;
  signs = c.sign_spellings.ensures;
  texts = c.quoted_text.ensures;
  numbers = c.written_number.ensures.tokens;
  values = c.written_number.ensures.read;
}
