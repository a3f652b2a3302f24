-- What the books tell: the half of an engine's state that is of units and of what is kept.
use Rattle.salt_ast.specs.declared.programs.ProgramDef.{ProgramDef}
use Rattle.salt_ast.specs.declared.trees.Statement.{Statement}
use Rattle.salt_ast.specs.declared.trees.TableDef.{TableDef}
use Rattle.salt_books.specs.declared.books.Books.{Books}
use Rattle.salt_books.specs.declared.known.Known.{Known}
use Rattle.law_states.specs.OpenUnits.{OpenUnit, UnitState, unit_named}
use Rattle.law_states.specs.Steps.{doing_one, outcome_under}
use Rattle.salt_books.specs.Known.{IsKnown, boot_known, conts_known, decisions_known, programs_known, tables_known}
use Rattle.salt_books.specs.Moves.{IsAtPart}
use Rattle.salt_model.specs.Kept.{Kept}
use Rattle.salt_model.specs.Tables.{Tables, is_within, row_at}
use Rattle.salt_model.specs.declared.events.Answer.{Answer}
use Rattle.salt_model.specs.declared.locks.Reach.{Reach}
use Rattle.salt_model.specs.declared.places.Place.{Place}
use Rattle.salt_values.specs.declared.cont.Cont.{Cont}
use Rattle.salt_values.specs.declared.id.Id.{Id}
use Rattle.std.specs.Prelude.{Bool, IsSome, List, None, Option, Some, if◌then◌else◌, ℕ, ⊤, ◌≡◌}

-- WHAT THEY SHOW: what is known, of it the tables and programs, where programs go on, the last boot and the last decision; the open units, how
-- many have begun, and the programs to which `go all` has still to turn

abbrev pub known_in : Books → Known
known_in x = x.known

abbrev pub tables_in : Books → List TableDef
tables_in x = tables_known (known_in x)

abbrev pub programs_in : Books → List ProgramDef
programs_in x = programs_known (known_in x)

abbrev pub conts_in : Books → List Cont
conts_in x = conts_known (known_in x)

abbrev pub boot_in : Books → ℕ
boot_in x = boot_known (known_in x)

abbrev pub decisions_in : Books → ℕ
decisions_in x = decisions_known (known_in x)

abbrev pub units_in : Books → List OpenUnit
units_in x = x.units

abbrev pub begun_in : Books → ℕ
begun_in x = x.unit_count

abbrev pub turns_in : Books → List Id
turns_in x = x.to_go

abbrev pub owes_turn : Books → Bool
owes_turn x = x.owes

-- WHAT THEY STAND FOR

-- a unit has done a statement on what is kept, under its changes
pub record HasActed (k : Kept) (st : Statement) (old : OpenUnit) (told : Answer) (new : OpenUnit) : Type 0 where
  pub answer : told ≡ (outcome_under k old st).answer
  pub unit : new ≡ doing_one k st old

-- rows that are loaded: those of tables within a reach, and no others
abbrev pub AreLoaded : Option Reach → (rows es : Tables) → Type 0
AreLoaded None rows es = ⊤
AreLoaded (Some r) rows es = (q : Place) → row_at q rows ≡ (if is_within r q then row_at q es else None)

-- the books have the state's units and numbers, and know what it keeps but for the rows of tables; they see no phase and no line
pub record AreBooks (x : Books) (s : UnitState) : Type 0 where
  pub known : IsKnown (known_in x) s.kept
  pub units : units_in x ≡ s.units
  pub unit_count : begun_in x ≡ s.unit_count
  pub base_count : x.base_count ≡ s.base_count
  pub to_go : turns_in x ≡ s.to_go
  pub early : x.early ≡ s.early
  pub named : x.named ≡ s.named
  pub owes : x.owes ≡ s.owes

-- the books have an open unit of this name
abbrev pub HaveUnit : Books → Id → Type 0
HaveUnit x u = IsSome (unit_named u (units_in x))

-- the part of the unit of this name is the one at which its program stands
abbrev pub IsUnitAtPart : UnitState → Id → Type 0
IsUnitAtPart s u = (o : OpenUnit) → unit_named u s.units ≡ Some o → IsAtPart s.kept o.kind
