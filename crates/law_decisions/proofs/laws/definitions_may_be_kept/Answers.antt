use Rattle.salt_ast.specs.ProgramTexts.{program_text}
use Rattle.salt_ast.specs.Texts.{table_text}
use Rattle.salt_model.specs.Kept.{OfProgram, OfTable}
use Rattle.law_decisions.proofs.Defining.{defines, may-define, program-accepted, program-free, table-accepted, table-free}
use Rattle.law_decisions.proofs.laws.definitions_may_be_kept.Goals as goal
use Rattle.std.specs.Prelude.{refl}

pub returns : goal.returns
returns c = record {
  table = λ s d sound line spelled free.
      defines s (table_text d) (OfTable d) line ((c.definitions_are_read.ensures (table_text d) (OfTable d)).1 (spelled, refl))
      (may-define s.kept (OfTable d) sound (table-accepted s.kept d free) spelled
      (c.definitions_keep_types.ensures.table s.kept d sound.typed (table-free s.kept d free) (c.spelled_tables_have_keys.ensures spelled.text d spelled.spells)));
  program = λ s p sound line spelled free.
      defines s (program_text p) (OfProgram p) line ((c.definitions_are_read.ensures (program_text p) (OfProgram p)).1 (spelled, refl))
      (may-define s.kept (OfProgram p) sound (program-accepted s.kept p free) spelled
      (c.definitions_keep_types.ensures.program s.kept p sound.typed (program-free s.kept p free)));
}
