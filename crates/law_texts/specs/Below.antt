-- What the laws of the crates below say.
use Rattle.salt_ast.specs.Limits.{statement_limit, table_limit}
use Rattle.salt_ast.specs.ProgramLimits.{program_limit}
use Rattle.salt_ast.specs.ProgramTexts.{program_text}
use Rattle.salt_ast.specs.Spelling.{SpellsProgram, SpellsShallowProgram, SpellsShallowStatement, SpellsShallowTable, SpellsStatement, SpellsTable}
use Rattle.salt_ast.specs.Texts.{statement_text, table_text}
use Rattle.salt_ast.specs.declared.programs.ProgramDef.{ProgramDef}
use Rattle.salt_ast.specs.declared.trees.Statement.{Statement}
use Rattle.salt_ast.specs.declared.trees.TableDef.{TableDef}
use Rattle.salt_parse.specs.Settling.{DeepStatement, ShallowStatement}
use Rattle.salt_ast.specs.TokenSpelling.{sign_of, sign_spelling}
use Rattle.salt_ast.specs.Symbols.{Symbols}
use Rattle.salt_ast.specs.declared.sign.Sign.{Sign}
use Rattle.std.specs.Prelude.{List, None, Some, ℕ, ◌≡◌}

-- of signs, and of the texts of statements, tables and programs
pub record LawsBelow : Type 0 where
  pub signs : (s : Sign) → sign_of (sign_spelling s) ≡ Some s
  pub statement : (bytes : List ℕ) (st : Statement) → SpellsStatement bytes st → statement_limit st ≡ None →
      SpellsShallowStatement (statement_text st) st
  pub table : (bytes : List ℕ) (d : TableDef) → SpellsTable bytes d → table_limit d ≡ None → SpellsShallowTable (table_text d) d
  pub program : (bytes : List ℕ) (p : ProgramDef) → SpellsProgram bytes p → program_limit p ≡ None → SpellsShallowProgram (program_text p) p
  pub one : (bytes : List ℕ) (a b : Statement) → SpellsStatement bytes a → SpellsStatement bytes b → a ≡ b
  pub deepens : (ts : Symbols) (st : Statement) → ShallowStatement ts st → DeepStatement ts st
