-- What fits under definitions: further definitions, rows, keys and continuations.
use Rattle.salt_ast.specs.Judgement.{key_type, same_types, value_type}
use Rattle.salt_ast.specs.Paths.{at_number, retries}
use Rattle.salt_ast.specs.ProgramJudgement.{Known, are_arguments, line_fault, program_named}
use Rattle.salt_ast.specs.declared.lines.Line.TheVariants as line
use Rattle.salt_ast.specs.declared.lines.Line.{Line}
use Rattle.salt_ast.specs.declared.programs.ProgramDef.{ProgramDef}
use Rattle.salt_ast.specs.declared.trees.Field.{Field}
use Rattle.salt_ast.specs.declared.trees.TableDef.{TableDef}
use Rattle.salt_model.specs.Kept.{Definition, Kept, OfProgram, OfTable, parts_of, program_of_definition, table_of_definition}
use Rattle.salt_model.specs.Reaches.{in_row}
use Rattle.salt_model.specs.Statements.{checked}
use Rattle.salt_stands.specs.Reading.{Reading}
use Rattle.salt_stands.specs.Stands.{Found}
use Rattle.salt_values.specs.Value.{is_null}
use Rattle.salt_values.specs.declared.cont.Cont.{Cont}
use Rattle.salt_values.specs.declared.value.Value.{Value}
use Rattle.std.specs.List.{filter_map}
use Rattle.std.specs.Prelude.{Bool, List, None, Option, Some, [], false, is_ok, is_some, length, nat_le, nat_lt, true, ℕ, ◌&&◌, ◌∷◌, ◌||◌, slice_get}

abbrev pub tables_defined : List Definition → List TableDef
tables_defined ds = filter_map table_of_definition ds

abbrev pub programs_defined : List Definition → List ProgramDef
programs_defined ds = filter_map program_of_definition ds

abbrev pub line_defining : Definition → Line
line_defining (OfTable d) = line.Table d
line_defining (OfProgram p) = line.Program p

-- where nothing runs
abbrev pub known_by : List Definition → Known
known_by ds = record { schema = tables_defined ds; catalogue = programs_defined ds; unfinished = []; unreleased = 0 }

-- a line with the definition would be refused by what is kept, or by its names, types or branches
abbrev pub is_refused : List Definition → Definition → Bool
is_refused ds d = is_some (line_fault (known_by ds) (line_defining d))

-- a value of the column's type, or NULL where it may hold it
abbrev pub is_of_column : Field → Value → Bool
is_of_column f v = same_types (Some f.kind) (value_type v) || (f.nullable && is_null v)

-- a value for each column
abbrev pub are_of_columns : List Field → List Value → Bool
are_of_columns [] [] = true
are_of_columns (f ∷ fs) (v ∷ vs) = is_of_column f v && are_of_columns fs vs
are_of_columns fs vs = false

-- a value for each column; no check is false of the row, and none has a cause
abbrev pub is_row_of : Option TableDef → List Value → Bool
is_row_of None row = false
is_row_of (Some d) row = are_of_columns d.columns row && is_ok (checked (in_row d row []) d.checks)

abbrev pub is_key_of : Option TableDef → Value → Bool
is_key_of None key = false
is_key_of (Some d) key = same_types (key_type d.columns) (value_type key)

-- it stands at a part behind the first, with at most the tries of that part
abbrev pub stands_at_part : ProgramDef → (part tries : ℕ) → Bool
stands_at_part p part tries = nat_lt 1 part && (is_some (at_number part (parts_of p)) && nat_le tries (retries (at_number part (parts_of p))))

-- the program is a BASE one, as it has parts
abbrev pub is_cont_of : Option ProgramDef → Cont → Bool
is_cont_of None c = false
is_cont_of (Some p) c = are_arguments p.params c.args && (are_arguments p.vars c.vars && stands_at_part p c.next c.tries)

-- by what reads a text
abbrev pub definitions_reading : (List ℕ → Option Definition) → Reading Definition
definitions_reading read = record {
  read = read;
  is_refused = is_refused;
  count_tables = λ ds. length (tables_defined ds);
  fits_row = λ ds table row. is_row_of (slice_get (tables_defined ds) table) row;
  fits_key = λ ds table key. is_key_of (slice_get (tables_defined ds) table) key;
  fits_cont = λ ds c. is_cont_of (program_named (programs_defined ds) c.program) c;
}

-- what is kept, of what was found
abbrev pub kept_in : Found Definition → Kept
kept_in f = record { boot = f.kept.boot; decisions = f.kept.decisions; definitions = f.kept.definitions; tables = f.kept.tables; conts = f.kept.conts }
