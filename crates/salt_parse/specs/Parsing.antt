-- What clauses see of a parser, and what its answers mean.
use Rattle.salt_parse.specs.Answers.{Fails}
use Rattle.salt_parse.specs.Flags.{BuiltTree, Flags, built_of}
use Rattle.salt_parse.specs.Reading.{Reader}
use Rattle.salt_parse.specs.declared.built.Built.{Built}
use Rattle.salt_parse.specs.declared.error.ParseErr.{ParseErr}
use Rattle.salt_ast.specs.Symbols.{Symbols}
use Rattle.std.specs.Prelude.{Err, Ok, Option, Result, Some, ◌≡◌}

-- what was passed so far, and the symbols that are left
pub record Parsing : Type 0 where
  pub flags : Flags
  pub left : Symbols

-- what a function returned, with what it left, is what reading gives
abbrev pub ReadsWith : {X : Type 0} → Result X ParseErr → Reader X → Parsing → Parsing → Type 0
ReadsWith (Ok x) reader old new = reader old.flags old.left ≡ Some (x, new.flags, new.left)
ReadsWith (Err err) reader old new = Fails err (reader old.flags old.left)

abbrev pub ReadsBuilt : Result Built ParseErr → Reader BuiltTree → Parsing → Parsing → Type 0
ReadsBuilt (Ok b) reader old new = reader old.flags old.left ≡ Some (built_of b, new.flags, new.left)
ReadsBuilt (Err err) reader old new = Fails err (reader old.flags old.left)

-- the same of what passes nothing
abbrev pub GivesAs : {X : Type 0} → Result X ParseErr → Symbols → Option (X × Symbols) → Type 0
GivesAs (Ok x) left read = read ≡ Some (x, left)
GivesAs (Err err) left read = Fails err read

-- the symbols that are left are those behind what was taken
abbrev pub LeavesSymbols : Result (Unit {0}) ParseErr → Symbols → Option Symbols → Type 0
LeavesSymbols (Ok _) left read = read ≡ Some left
LeavesSymbols (Err err) left read = Fails err read
