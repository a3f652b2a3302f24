-- Which bytes spell which tree, and which count they pass.
use Rattle.salt_values.specs.declared.limits.TheConstants.{DEPTH_MOST, PARENTHESES_MOST}
use Rattle.salt_ast.specs.Grammar.{Within}
use Rattle.salt_ast.specs.Limits.{statement_limit, table_limit}
use Rattle.salt_ast.specs.Lines.{IsLine}
use Rattle.salt_ast.specs.ProgramLimits.{line_limit, program_limit}
use Rattle.salt_ast.specs.Programs.{IsProgram}
use Rattle.salt_ast.specs.Statements.{IsStatement}
use Rattle.salt_ast.specs.Tables.{IsTable}
use Rattle.salt_ast.specs.declared.limit.LimitName.{LimitName}
use Rattle.salt_ast.specs.declared.limit.LimitName.TheVariants as limit
use Rattle.salt_ast.specs.declared.lines.Line.{Line}
use Rattle.salt_ast.specs.declared.programs.ProgramDef.{ProgramDef}
use Rattle.salt_ast.specs.declared.trees.Statement.{Statement}
use Rattle.salt_ast.specs.declared.trees.TableDef.{TableDef}
use Rattle.salt_ast.specs.Pieces.{Lexes, Piece}
use Rattle.salt_ast.specs.Symbols.{Symbols, symbols_of}
use Rattle.std.specs.Prelude.{List, None, Option, Some, ℕ, ◌-◌, ◌≡◌}

-- The bytes are tokens that spell the tree.
pub record Spells {Tree : Type 0} (IsTree : Symbols → Tree → Type 0) (bytes : List ℕ) (tree : Tree) : Type 0 where
  pub tokens : List Piece
  pub lexes : Lexes bytes tokens
  pub spelled : IsTree (symbols_of tokens) tree

-- no token stands within more open parentheses than a text may have; one is that of `values` or of `create table`
abbrev pub SpellsStatement : List ℕ → Statement → Type 0
SpellsStatement = Spells (IsStatement (Within PARENTHESES_MOST) (Within (PARENTHESES_MOST - 1)))

abbrev pub SpellsTable : List ℕ → TableDef → Type 0
SpellsTable = Spells (IsTable (Within (PARENTHESES_MOST - 1)))

abbrev pub SpellsProgram : List ℕ → ProgramDef → Type 0
SpellsProgram = Spells (IsProgram (Within PARENTHESES_MOST) (Within (PARENTHESES_MOST - 1)))

-- a line that does something
abbrev pub SpellsLine : List ℕ → Line → Type 0
SpellsLine = Spells (IsLine (Within PARENTHESES_MOST) (Within (PARENTHESES_MOST - 1)))

-- nor does a token of an expression stand deeper within the parentheses of the expression
abbrev pub SpellsShallowStatement : List ℕ → Statement → Type 0
SpellsShallowStatement = Spells (IsStatement (Within DEPTH_MOST) (Within DEPTH_MOST))

abbrev pub SpellsShallowTable : List ℕ → TableDef → Type 0
SpellsShallowTable = Spells (IsTable (Within DEPTH_MOST))

abbrev pub SpellsShallowProgram : List ℕ → ProgramDef → Type 0
SpellsShallowProgram = Spells (IsProgram (Within DEPTH_MOST) (Within DEPTH_MOST))

abbrev pub SpellsShallowLine : List ℕ → Line → Type 0
SpellsShallowLine = Spells (IsLine (Within DEPTH_MOST) (Within DEPTH_MOST))

-- This limit is passed first: one of the tree, or else the depth, by the parentheses of the text.
pub data Passes (tree_limit : Option LimitName) (IsShallow : Type 0) : LimitName → Type 0 where
  by_tree : {l : LimitName} → tree_limit ≡ Some l → Passes tree_limit IsShallow l
  by_parentheses : tree_limit ≡ None → ¬ IsShallow → Passes tree_limit IsShallow limit.Depth

-- No limit is passed.
pub record IsWithinLimits (tree_limit : Option LimitName) (IsShallow : Type 0) : Type 0 where
  pub tree : tree_limit ≡ None
  pub parentheses : IsShallow

-- Of bytes that spell the statement.

abbrev pub StatementPasses : List ℕ → Statement → LimitName → Type 0
StatementPasses bytes st = Passes (statement_limit st) (SpellsShallowStatement bytes st)

abbrev pub IsStatementWithinLimits : List ℕ → Statement → Type 0
IsStatementWithinLimits bytes st = IsWithinLimits (statement_limit st) (SpellsShallowStatement bytes st)

-- Of bytes that spell the table.

abbrev pub TablePasses : List ℕ → TableDef → LimitName → Type 0
TablePasses bytes d = Passes (table_limit d) (SpellsShallowTable bytes d)

abbrev pub IsTableWithinLimits : List ℕ → TableDef → Type 0
IsTableWithinLimits bytes d = IsWithinLimits (table_limit d) (SpellsShallowTable bytes d)

-- Of bytes that spell the program.

abbrev pub ProgramPasses : List ℕ → ProgramDef → LimitName → Type 0
ProgramPasses bytes p = Passes (program_limit p) (SpellsShallowProgram bytes p)

abbrev pub IsProgramWithinLimits : List ℕ → ProgramDef → Type 0
IsProgramWithinLimits bytes p = IsWithinLimits (program_limit p) (SpellsShallowProgram bytes p)

-- Of bytes that spell the line.

abbrev pub LinePasses : List ℕ → Line → LimitName → Type 0
LinePasses bytes l = Passes (line_limit l) (SpellsShallowLine bytes l)

abbrev pub IsLineWithinLimits : List ℕ → Line → Type 0
IsLineWithinLimits bytes l = IsWithinLimits (line_limit l) (SpellsShallowLine bytes l)
