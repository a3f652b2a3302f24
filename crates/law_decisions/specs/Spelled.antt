-- Lines whose definitions some text spells.
use Rattle.salt_ast.specs.declared.lines.Line.TheVariants.{Program, Table}
use Rattle.salt_ast.specs.declared.lines.Line.{Line}
use Rattle.salt_model.specs.Printable.{IsSpelledProgram, IsSpelledTable}
use Rattle.salt_model.specs.Trace.{Asked, line_asked}
use Rattle.std.specs.Prelude.{⊤}

-- where it is a definition, some text spells that, and no limit is passed
abbrev pub IsSpelledLine : Line → Type 0
IsSpelledLine (Table d) = IsSpelledTable d
IsSpelledLine (Program p) = IsSpelledProgram p
IsSpelledLine line = ⊤

abbrev pub IsSpelledAsked : Asked → Type 0
IsSpelledAsked asked = IsSpelledLine (line_asked asked)
