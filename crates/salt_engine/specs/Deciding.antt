-- What is asked of a storage, and where it was not done.
use Rattle.salt_books.specs.Asking.{IsAskedBy}
use Rattle.salt_books.specs.Books.{AreBooks, AreLoaded}
use Rattle.salt_books.specs.Coming.{IsLaterUnit}
use Rattle.salt_books.specs.declared.asking.Asking.{Asking}
use Rattle.salt_books.specs.declared.books.Books.{Books}
use Rattle.salt_disk.specs.Disks.{View}
use Rattle.salt_engine.specs.declared.deciding.Decided.{Decided}
use Rattle.salt_engine.specs.Netted.{net_after}
use Rattle.salt_engine.specs.Stored.{LeavesEither, Stored}
use Rattle.law_states.specs.Keeps.{KeepsUnits}
use Rattle.law_states.specs.Laws.{IsSound}
use Rattle.law_states.specs.OpenUnits.{OpenUnit, UnitState, unit_named}
use Rattle.law_states.specs.Steps.{units_after}
use Rattle.law_states.specs.Told.{at_devices_in, commits_in, does_in, next_decision_number}
use Rattle.salt_model.specs.Kept.{Kept, conts_branched, conts_committed}
use Rattle.salt_model.specs.Next.{next}
use Rattle.salt_model.specs.Stops.{is_just_opened}
use Rattle.salt_model.specs.Tables.{Tables}
use Rattle.salt_model.specs.Trace.{Trace, lines_asked, start_of}
use Rattle.salt_model.specs.Words.{Every}
use Rattle.salt_model.specs.declared.events.Cause.{Cause}
use Rattle.salt_model.specs.declared.events.End.TheVariants.{Branched}
use Rattle.salt_model.specs.declared.events.Event.TheVariants.{Ended}
use Rattle.salt_model.specs.declared.events.Event.{Event}
use Rattle.salt_net.specs.Turns.{Turning}
use Rattle.salt_stands.specs.OpenConts.{make_move}
use Rattle.salt_driver.specs.Writing.{IsWrittenBy}
use Rattle.salt_storage.specs.Staying.{Setup}
use Rattle.salt_storage.specs.Writing.{ToWrite}
use Rattle.salt_storage.specs.declared.halt.Halt.TheVariants.{DeviceFull, Memory}
use Rattle.salt_storage.specs.declared.halt.Halt.{Halt}
use Rattle.law_types.specs.Played.{HasKey}
use Rattle.law_types.specs.Typed.{IsTyped}
use Rattle.salt_values.specs.declared.id.Id.{Id}
use Rattle.std.specs.Prelude.{Option, Some, false, true, ℕ, ⊤, ◌≡◌, ◌⊎◌}

-- the units of a played trace, of a typed start and over lines whose tables have keys, where this comes next; and not as a decision
-- that was in flight
pub record ComesNext (e : Event) (s : UnitState) : Type 0 where
  pub trace : Trace
  pub keeps : KeepsUnits s trace
  pub sound : IsSound trace
  pub typed : IsTyped (start_of trace).kept
  pub keyed : Every HasKey (lines_asked trace)
  pub next : next trace ≡ Some e
  pub late : is_just_opened trace ≡ false

-- books and a storage before an event that comes next
pub record IsBefore (holds : Kept → Type 0) (is_new : Id → Type 0) (x : Books) (e : Event) (s : UnitState) : Type 0 where
  pub books : AreBooks x s
  pub stored : Stored holds is_new s
  pub comes : ComesNext e s

-- the end of a unit by a branch
abbrev pub branches_in : UnitState → Id → Cause → Event
branches_in s u cause = Ended u (Branched (next_decision_number s) cause)

-- a unit has been decided by the next decision, with the move of its program that its commit makes, or its branch
pub record IsCommitted (holds : Kept → Type 0) (is_new : Id → Type 0) (d : Decided) (s : UnitState) (o : OpenUnit) : Type 0 where
  pub number : d.number ≡ next_decision_number s
  pub moves : make_move s.kept.conts d.made ≡ Some (conts_committed s.kept (next_decision_number s) o.kind o.vars)
  pub stored : Stored holds is_new (units_after (commits_in s o) s)

pub record IsBranched (holds : Kept → Type 0) (is_new : Id → Type 0) (d : Decided) (s : UnitState) (o : OpenUnit) (cause : Cause) : Type 0 where
  pub number : d.number ≡ next_decision_number s
  pub moves : make_move s.kept.conts d.made ≡ Some (conts_branched s.kept o.kind)
  pub stored : Stored holds is_new (units_after (branches_in s o.unit cause) s)

-- An event was to come next, and was broken off: a stop leaves what is kept before or behind it; unless memory ran out it is at the
-- devices; and where a device was full, by what was to be written of it.
pub record LeavesEventUndone (leaves : Kept → Kept → Type 0) (fills : ToWrite → ℕ → Type 0) (halt : Halt) (s : UnitState) (e : Event) : Type 0 where
  pub left : LeavesEither leaves ⊤ s.kept (units_after e s).kept
  pub reason : (halt ≡ Memory) ⊎ (at_devices_in s e ≡ true)
  pub full : (dev : ℕ) → halt ≡ DeviceFull dev → (w : ToWrite) × IsWrittenBy s (Some e) w × fills w dev

-- OVER A STORAGE and its devices: `holds`, `is_new`, `leaves`, `fills`, `asked` and `net` are those of the storage

module _ {S : Type 0} (holds : View → S → Kept → Type 0) (is_new : View → S → Id → Type 0) where
  -- what it holds stays what the state keeps
  abbrev pub StaysStored : (d e : View) (x y : S) → Type 0
  StaysStored d e x y = (s : UnitState) → Stored (holds d x) (is_new d x) s → Stored (holds e y) (is_new e y) s

  -- a statement is to be done, and its rows are asked for
  abbrev pub CanLoad : View → S → Books → Asking → Type 0
  CanLoad d x books a = (s : UnitState) × (o : OpenUnit) × IsBefore (holds d x) (is_new d x) books (does_in s o a.statement) s × IsAskedBy a s o

  abbrev pub AreAsked : View → S → Asking → Tables → Type 0
  AreAsked d x a rows = (s : UnitState) → Stored (holds d x) (is_new d x) s → AreLoaded a.reach rows s.kept.tables

  -- a unit is to commit, and has
  abbrev pub CanCommit : View → S → Books → Id → Type 0
  CanCommit d x books u = (s : UnitState) × (o : OpenUnit) × IsBefore (holds d x) (is_new d x) books (commits_in s o) s × (unit_named u s.units ≡ Some o)

  abbrev pub DecidesCommit : (d e : View) (x y : S) → Books → Id → Decided → Type 0
  DecidesCommit d e x y books u made =
      (s : UnitState) (o : OpenUnit) → IsBefore (holds d x) (is_new d x) books (commits_in s o) s → unit_named u s.units ≡ Some o → IsCommitted (holds e y) (is_new e y) made s o

  -- a unit of a later part, which has failed, is to end by a branch, and has
  abbrev pub CanBranch : View → S → Books → Id → Type 0
  CanBranch d x books u = (s : UnitState) × (b : Id) × (cause : Cause) × IsBefore (holds d x) (is_new d x) books (branches_in s u cause) s × IsLaterUnit s u b

  abbrev pub DecidesBranch : (d e : View) (x y : S) → Books → Id → Decided → Type 0
  DecidesBranch d e x y books u made = (s : UnitState) (b : Id) (cause : Cause) → IsBefore (holds d x) (is_new d x) books (branches_in s u cause) s → (later : IsLaterUnit s u b) →
      IsBranched (holds e y) (is_new e y) made s later.unit cause

  -- or it was broken off
  module _ (leaves : View → S → Kept → Kept → Type 0) (fills : View → S → ToWrite → ℕ → Type 0) where
    abbrev pub LeavesUndone : (d e : View) (x y : S) → Books → Asking → Halt → Type 0
    LeavesUndone d e x y books a halt = (s : UnitState) (o : OpenUnit) → IsBefore (holds d x) (is_new d x) books (does_in s o a.statement) s → IsAskedBy a s o →
        LeavesEventUndone (leaves e y) (fills e y) halt s (does_in s o a.statement)

    abbrev pub LeavesUncommitted : (d e : View) (x y : S) → Books → Id → Halt → Type 0
    LeavesUncommitted d e x y books u halt = (s : UnitState) (o : OpenUnit) → IsBefore (holds d x) (is_new d x) books (commits_in s o) s → unit_named u s.units ≡ Some o →
        LeavesEventUndone (leaves e y) (fills e y) halt s (commits_in s o)

    abbrev pub LeavesUnbranched : (d e : View) (x y : S) → Books → Id → Halt → Type 0
    LeavesUnbranched d e x y books u halt = (s : UnitState) (b : Id) (cause : Cause) → IsBefore (holds d x) (is_new d x) books (branches_in s u cause) s → IsLaterUnit s u b →
        LeavesEventUndone (leaves e y) (fills e y) halt s (branches_in s u cause)

  -- what is sent of a commit, and of a branch
  module _ (asked : S → Setup) (net : S → Option Turning) where
    abbrev pub SendsCommit : View → (x y : S) → Books → Id → Type 0
    SendsCommit d x y books u = (s : UnitState) (o : OpenUnit) → IsBefore (holds d x) (is_new d x) books (commits_in s o) s → unit_named u s.units ≡ Some o →
        net y ≡ net_after (asked x) (Some (commits_in s o)) s (net x)

    abbrev pub SendsBranch : View → (x y : S) → Books → Id → Type 0
    SendsBranch d x y books u = (s : UnitState) (b : Id) (cause : Cause) → IsBefore (holds d x) (is_new d x) books (branches_in s u cause) s → IsLaterUnit s u b →
        net y ≡ net_after (asked x) (Some (branches_in s u cause)) s (net x)
