-- Whatever books there are, they are those of some state: of units, and of what is kept but for the rows of tables.
use Rattle.salt_ast.specs.declared.lines.Line.{Line}
use Rattle.salt_ast.specs.declared.programs.ProgramDef.{ProgramDef}
use Rattle.salt_ast.specs.declared.trees.TableDef.{TableDef}
use Rattle.salt_books.specs.Books.{AreBooks, boot_in, conts_in, decisions_in, programs_in, tables_in}
use Rattle.salt_books.specs.declared.books.Books.{Books}
use Rattle.law_states.specs.OpenUnits.{UnitState}
use Rattle.salt_model.specs.Kept.{Definition, Kept, OfProgram, OfTable, program_of_definition, table_of_definition}
use Rattle.salt_model.specs.Phases.{Serving}
use Rattle.salt_model.specs.Tables.{no_rows}
use Rattle.std.proofs.Common.{ap, sym}
use Rattle.std.specs.List.{filter_map}
use Rattle.std.specs.Prelude.{List, [], map, refl, ◌++◌, ◌∷◌, ◌≡◌}

-- definitions of these tables, and then of these programs
abbrev pub all_definitions : List TableDef → List ProgramDef → List Definition
all_definitions ts ps = map OfTable ts ++ map OfProgram ps

no-tables : (ps : List ProgramDef) → filter_map table_of_definition (map OfProgram ps) ≡ []
no-tables [] = refl
no-tables (p ∷ ps) = no-tables ps

their-tables : (ts : List TableDef) (ps : List ProgramDef) → filter_map table_of_definition (all_definitions ts ps) ≡ ts
their-tables [] ps = no-tables ps
their-tables (t ∷ ts) ps = ap (λ l. t ∷ l) (their-tables ts ps)

only-programs : (ps : List ProgramDef) → filter_map program_of_definition (map OfProgram ps) ≡ ps
only-programs [] = refl
only-programs (p ∷ ps) = ap (λ l. p ∷ l) (only-programs ps)

their-programs : (ts : List TableDef) (ps : List ProgramDef) → filter_map program_of_definition (all_definitions ts ps) ≡ ps
their-programs [] ps = only-programs ps
their-programs (t ∷ ts) ps = their-programs ts ps

abbrev pub kept_by : Books → Kept
kept_by x = record { boot = boot_in x; decisions = decisions_in x; definitions = all_definitions (tables_in x) (programs_in x); tables = no_rows; conts = conts_in x }

-- in which this line was asked
abbrev pub state_by : Books → Line → UnitState
state_by x line = record {
  kept = kept_by x;
  phase = Serving;
  line = line;
  to_go = x.to_go;
  early = x.early;
  named = x.named;
  owes = x.owes;
  units = x.units;
  unit_count = x.unit_count;
  base_count = x.base_count;
}

pub books-by : (x : Books) (line : Line) → AreBooks x (state_by x line)
books-by x line = record {
  known = record {
    schema = sym (their-tables (tables_in x) (programs_in x));
    catalogue = sym (their-programs (tables_in x) (programs_in x));
    conts = refl;
    boot = refl;
    decisions = refl;
  };
  units = refl;
  unit_count = refl;
  base_count = refl;
  to_go = refl;
  early = refl;
  named = refl;
  owes = refl;
}
