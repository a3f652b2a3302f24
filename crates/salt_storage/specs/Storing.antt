-- What is kept in a storage, what may be decided over it, and what that makes of it.
use Rattle.salt_bytes.specs.Changes.{are_in_order}
use Rattle.salt_bytes.specs.declared.moves.Move.{Move}
use Rattle.salt_stands.specs.Fitting.{is_refused}
use Rattle.salt_model.specs.Kept.{Definition, Kept, OfProgram, OfTable, WellKept, programs_of, schema_of}
use Rattle.salt_model.specs.Printable.{IsSpelledProgram, IsSpelledTable}
use Rattle.salt_model.specs.Tables.{Tables, is_within, row_at, with_changes}
use Rattle.salt_model.specs.Words.{Every}
use Rattle.salt_model.specs.declared.locks.Reach.{Reach}
use Rattle.salt_model.specs.declared.places.Place.{Place}
use Rattle.salt_stands.specs.OpenConts.{do_rise, make_move}
use Rattle.salt_storage.specs.declared.found.Found.{Found}
use Rattle.salt_storage.specs.declared.found.Numbers.{Numbers}
use Rattle.law_types.specs.Typed.{AreChangesOf, IsTyped}
use Rattle.salt_values.specs.declared.change.Change.{Change}
use Rattle.salt_values.specs.declared.cont.Cont.{Cont}
use Rattle.salt_values.specs.declared.id.Id.{Id}
use Rattle.std.specs.Prelude.{List, None, Some, [], false, if◌then◌else◌, true, ◌+◌, ◌++◌, ◌∷◌, ◌≡◌, ◌≤◌}

-- some text spells the definition, and no limit is passed
abbrev pub IsSpelledDefinition : Definition → Type 0
IsSpelledDefinition (OfTable d) = IsSpelledTable d
IsSpelledDefinition (OfProgram p) = IsSpelledProgram p

-- What may be kept: it fits its definitions, which texts spell; its programs are of its boots and decisions, and no two
-- continuations are of one program.
pub record IsSoundKept (k : Kept) : Type 0 where
  pub typed : IsTyped k
  pub well : WellKept k
  pub rise : do_rise k.conts ≡ true
  pub spelled : Every IsSpelledDefinition k.definitions

-- the rows of these tables in a reach, and no others
abbrev pub IsPartOf : Reach → Tables → Tables → Type 0
IsPartOf r part whole = (q : Place) → row_at q part ≡ (if is_within r q then row_at q whole else None)

-- what is kept behind the decision of a unit
abbrev pub decided : Kept → List Change → List Cont → Kept
decided k cs conts = record k { decisions = k.decisions + 1; tables = with_changes cs k.tables; conts = conts }

-- behind a definition, and behind a boot
abbrev pub defined : Kept → Definition → Kept
defined k d = record k { decisions = k.decisions + 1; definitions = k.definitions ++ d ∷ [] }

abbrev pub booted : Kept → Kept
booted k = record k { boot = k.boot + 1 }

-- A unit that may be decided: its boot has begun, its changes stand in order and fit their tables, its move goes on from the
-- open continuations, and what is kept behind it may be kept.
pub record MayDecide (k : Kept) (u : Id) (cs : List Change) (m : Move) (conts : List Cont) : Type 0 where
  pub boot : u.boot ≤ k.boot
  pub ordered : are_in_order cs ≡ true
  pub fits : AreChangesOf (schema_of k) cs
  pub moves : make_move k.conts m ≡ Some conts
  pub sound : IsSoundKept (decided k cs conts)

-- a definition that may be made: what is kept does not refuse it, and may be kept with it
pub record MayDefine (k : Kept) (d : Definition) : Type 0 where
  pub accepted : is_refused k.definitions d ≡ false
  pub sound : IsSoundKept (defined k d)

-- what an opening has found of what is kept, beside the rows
pub record IsFound (x : Found) (k : Kept) : Type 0 where
  pub schema : x.schema ≡ schema_of k
  pub catalogue : x.catalogue ≡ programs_of k
  pub conts : x.conts ≡ k.conts
  pub boot : x.boot ≡ k.boot
  pub decisions : x.decisions ≡ k.decisions

-- opened anew, it holds what is kept, and these are its numbers
pub record Reopens (holds : Kept → Type 0) (x : Numbers) (k : Kept) : Type 0 where
  pub holding : holds k
  pub boot : x.boot ≡ k.boot
  pub decisions : x.decisions ≡ k.decisions
