-- What a text tells: a table, or a program, or neither.
use Rattle.salt_ast.specs.declared.lines.Line.TheVariants as line
use Rattle.salt_ast.specs.declared.lines.Line.{Line}
use Rattle.salt_ast.specs.declared.programs.ProgramDef.{ProgramDef}
use Rattle.salt_ast.specs.declared.trees.TableDef.{TableDef}
use Rattle.law_definitions.specs.Texts.{IsTextOf}
use Rattle.salt_model.specs.Kept.{Definition, OfProgram, OfTable}
use Rattle.std.specs.Prelude.{List, None, Option, Some, ℕ}

abbrev pub TellsTable : Option TableDef → List ℕ → Type 0
TellsTable (Some d) text = IsTextOf (OfTable d) text
TellsTable None text = (d : TableDef) → IsTextOf (OfTable d) text → ⊥

abbrev pub TellsProgram : Option ProgramDef → List ℕ → Type 0
TellsProgram (Some p) text = IsTextOf (OfProgram p) text
TellsProgram None text = (p : ProgramDef) → IsTextOf (OfProgram p) text → ⊥

-- the line that asks for it
abbrev pub line_defining : Definition → Line
line_defining (OfTable d) = line.Table d
line_defining (OfProgram p) = line.Program p
