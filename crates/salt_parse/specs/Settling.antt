-- What an answer for a row tells of what the row spells.
use Rattle.salt_ast.specs.Grammar.{Within}
use Rattle.salt_ast.specs.Spelling.{Passes}
use Rattle.salt_ast.specs.Programs.{IsProgram}
use Rattle.salt_ast.specs.Statements.{IsStatement}
use Rattle.salt_ast.specs.Tables.{IsTable}
use Rattle.salt_ast.specs.declared.limit.LimitName.{LimitName}
use Rattle.salt_ast.specs.declared.programs.ProgramDef.{ProgramDef}
use Rattle.salt_ast.specs.declared.trees.Statement.{Statement}
use Rattle.salt_ast.specs.declared.trees.TableDef.{TableDef}
use Rattle.salt_parse.specs.declared.error.ParseErr.{ParseErr}
use Rattle.salt_parse.specs.declared.error.ParseErr.TheVariants.{Limit, Memory, Syntax}
use Rattle.salt_ast.specs.Symbols.{Symbols, Symbol, int, key, name, sign, text}
use Rattle.salt_values.specs.Text.{is_printable}
use Rattle.salt_values.specs.declared.limits.TheConstants.{DEPTH_MOST, PARENTHESES_MOST}
use Rattle.std.specs.List.{list_all}
use Rattle.std.specs.Prelude.{Err, None, Ok, Option, Result, [], true, ◌-◌, ◌∷◌, ◌≡◌}

abbrev pub IsPrintable : Symbol → Type 0
IsPrintable (text t) = list_all is_printable t ≡ true
IsPrintable (key k) = Unit {0}
IsPrintable (name n) = Unit {0}
IsPrintable (int n) = Unit {0}
IsPrintable (sign s) = Unit {0}

-- the texts among the symbols have printable bytes alone, as those of each text have
abbrev pub ArePrintable : Symbols → Type 0
ArePrintable [] = Unit {0}
ArePrintable (t ∷ ts) = IsPrintable t × ArePrintable ts

-- what an answer tells of what the row spells, where a tree passes this limit
abbrev pub Settles : {A : Type 0} → (A → Option LimitName) → (Symbols → A → Type 0) → (Symbols → A → Type 0) → Symbols → Result A ParseErr → Type 0
Settles limit_of Shallow Deep ts (Ok x) = Shallow ts x × (limit_of x ≡ None)
Settles limit_of Shallow Deep ts (Err Memory) = Unit {0}
Settles {A} limit_of Shallow Deep ts (Err Syntax) = (x : A) → Deep ts x → ⊥
Settles {A} limit_of Shallow Deep ts (Err (Limit l)) = (x : A) × Deep ts x × Passes (limit_of x) (Shallow ts x) l

-- which rows spell which tree, and which of them within the limit on parentheses

abbrev pub ShallowStatement : Symbols → Statement → Type 0
ShallowStatement = IsStatement (Within DEPTH_MOST) (Within DEPTH_MOST)

abbrev pub DeepStatement : Symbols → Statement → Type 0
DeepStatement = IsStatement (Within PARENTHESES_MOST) (Within (PARENTHESES_MOST - 1))

abbrev pub ShallowTable : Symbols → TableDef → Type 0
ShallowTable = IsTable (Within DEPTH_MOST)

abbrev pub DeepTable : Symbols → TableDef → Type 0
DeepTable = IsTable (Within (PARENTHESES_MOST - 1))

abbrev pub ShallowProgram : Symbols → ProgramDef → Type 0
ShallowProgram = IsProgram (Within DEPTH_MOST) (Within DEPTH_MOST)

abbrev pub DeepProgram : Symbols → ProgramDef → Type 0
DeepProgram = IsProgram (Within PARENTHESES_MOST) (Within (PARENTHESES_MOST - 1))
