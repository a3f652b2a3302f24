-- Which stories print as what they are: the schema names its tables, the names of events are names, their statements and definitions are
-- spelled and pass no limit, their lists are as printed forms have them, their numbers are below 2^64, and their values are values.
use Rattle.salt_ast.specs.Limits.{statement_limit, table_limit}
use Rattle.salt_ast.specs.ProgramLimits.{program_limit}
use Rattle.salt_ast.specs.ProgramTexts.{base_text, program_text}
use Rattle.salt_ast.specs.Spelling.{SpellsProgram, SpellsStatement, SpellsTable}
use Rattle.salt_ast.specs.Texts.{table_text}
use Rattle.salt_ast.specs.declared.programs.ProgramDef.{ProgramDef}
use Rattle.salt_ast.specs.declared.trees.Statement.{Statement}
use Rattle.salt_ast.specs.declared.trees.TableDef.{TableDef}
use Rattle.salt_model.specs.Naming.{IsName, IsNaming}
use Rattle.salt_model.specs.Sized.{IsSizedEvent, IsSizedId}
use Rattle.salt_model.specs.Words.{Every, is_empty}
use Rattle.salt_model.specs.declared.events.Event.{Event}
use Rattle.salt_model.specs.declared.events.Refusal.{Refusal}
use Rattle.salt_model.specs.declared.events.UnitKind.{UnitKind}
use Rattle.salt_model.specs.declared.shown.Item.{Item}
use Rattle.salt_ranges.specs.declared.range.KeyRange.{KeyRange}
use Rattle.salt_values.specs.declared.id.Id.{Id}
use Rattle.salt_values.specs.declared.limits.TheConstants.{PARTS_MOST}
use Rattle.std.specs.Prelude.{List, None, false, is_none, length, ℕ, ⊤, ◌<◌, ◌≡◌, ◌≤◌, ◌⊎◌}
use Rattle.salt_model.specs.declared.events.Event.TheVariants as event
use Rattle.salt_model.specs.declared.events.Refusal.TheVariants as refused
use Rattle.salt_model.specs.declared.events.UnitKind.TheVariants as kind
use Rattle.salt_model.specs.declared.shown.Item.TheVariants as item

-- some text spells the statement, and no limit is passed
pub record IsSpelled (st : Statement) : Type 0 where
  pub text : List ℕ
  pub spells : SpellsStatement text st
  pub within : statement_limit st ≡ None

pub record IsSpelledTable (d : TableDef) : Type 0 where
  pub text : List ℕ
  pub spells : SpellsTable text d
  pub within : table_limit d ≡ None

pub record IsSpelledProgram (p : ProgramDef) : Type 0 where
  pub text : List ℕ
  pub spells : SpellsProgram text p
  pub within : program_limit p ≡ None

-- the canonical text of a table or a program
abbrev pub IsDefinition : List ℕ → Type 0
IsDefinition text =
    ((d : TableDef) × IsSpelledTable d × (text ≡ table_text d)) ⊎
    ((p : ProgramDef) × IsSpelledProgram p × (text ≡ program_text p))

abbrev pub IsPrintableKind : UnitKind → Type 0
IsPrintableKind (kind.Acid s) = ⊤
IsPrintableKind (kind.Call s n args) = IsName n
IsPrintableKind (kind.First s b n args) = IsName n
IsPrintableKind (kind.Later b part) = ⊤

-- the details that refusals have: a name, that of a base too, and a part
abbrev pub IsPrintableRefusal : Refusal → Type 0
IsPrintableRefusal (refused.Unknown n) = IsName n ⊎ ((b : Id) × IsSizedId b × (n ≡ base_text b))
IsPrintableRefusal (refused.Exists n) = IsName n
IsPrintableRefusal (refused.Branch part) = (1 ≤ part) × (part ≤ PARTS_MOST)
IsPrintableRefusal r = ⊤

-- a range has both ends, or none
abbrev pub IsPrintableRange : KeyRange → Type 0
IsPrintableRange r = is_none r.lo ≡ is_none r.hi

abbrev pub IsPrintableItem : List TableDef → Item → Type 0
IsPrintableItem schema (item.Lock l) = (l.table < length schema) × IsPrintableRange l.range
IsPrintableItem schema (item.Base b n at) = IsName n

-- the event is of a form that is printed, whatever its numbers and values
abbrev pub HasPrintedForm : List TableDef → Event → Type 0
HasPrintedForm schema (event.Began u k) = IsPrintableKind k
HasPrintedForm schema (event.Did u st answer) = IsSpelled st
HasPrintedForm schema (event.Waits u owners) = is_empty owners ≡ false
HasPrintedForm schema (event.Released bs) = is_empty bs ≡ false
HasPrintedForm schema (event.Early bs) = is_empty bs ≡ false
HasPrintedForm schema (event.Defined n text) = IsDefinition text
HasPrintedForm schema (event.Refused r) = IsPrintableRefusal r
HasPrintedForm schema (event.Armed pairs) = is_empty pairs ≡ false
HasPrintedForm schema (event.Shown items) = Every (IsPrintableItem schema) items
HasPrintedForm schema e = ⊤

pub record IsPrintable (schema : List TableDef) (e : Event) : Type 0 where
  pub form : HasPrintedForm schema e
  pub sizes : IsSizedEvent e

pub record IsPrintableStory (schema : List TableDef) (story : List Event) : Type 0 where
  pub naming : IsNaming schema
  pub events : Every (IsPrintable schema) story
