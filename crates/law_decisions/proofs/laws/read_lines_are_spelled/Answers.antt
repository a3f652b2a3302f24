use Rattle.law_decisions.proofs.Keyed.{spelled-keys}
use Rattle.law_decisions.proofs.Reading.{all-spelled, asked-spelled, few-parts}
use Rattle.law_decisions.proofs.laws.read_lines_are_spelled.Goals as goal

pub returns : goal.returns
returns c = record {
  one = asked-spelled c.row_table.ensures.deepens c.row_program.ensures.deepens;
  all = all-spelled c.row_table.ensures.deepens c.row_program.ensures.deepens;
  keys = spelled-keys c.spelled_tables_have_keys.ensures;
  parts = few-parts;
}
