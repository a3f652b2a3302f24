-- What is to come next, told by a state.
use Rattle.salt_books.specs.Asking.{IsAskedBy}
use Rattle.salt_books.specs.Ends.{done_of}
use Rattle.salt_books.specs.declared.coming.Coming.TheVariants as coming
use Rattle.salt_books.specs.declared.coming.Coming.{Coming}
use Rattle.law_states.specs.OpenUnits.{OpenUnit, UnitState, unit_named}
use Rattle.law_states.specs.Told.{commits_in, does_in, next_decision_number}
use Rattle.salt_model.specs.declared.events.End.TheVariants.{Branched}
use Rattle.salt_model.specs.declared.events.Event.TheVariants.{Ended}
use Rattle.salt_model.specs.declared.events.Event.{Event}
use Rattle.salt_model.specs.declared.events.UnitKind.TheVariants.{Later}
use Rattle.salt_values.specs.declared.id.Id.{Id}
use Rattle.std.specs.Prelude.{IsSome, None, Option, Some, option_map, ℕ, ⊤, ◌≡◌}

-- the event that is to come
abbrev pub event_meant : UnitState → Coming → Option Event
event_meant s coming.Nothing = None
event_meant s (coming.Told e) = Some e
event_meant s (coming.Act a) = option_map (λ (o : OpenUnit). does_in s o a.statement) (unit_named a.unit s.units)
event_meant s (coming.Commit u) = option_map (commits_in s) (unit_named u s.units)
event_meant s (coming.Branch u b cause) = Some (Ended u (Branched (next_decision_number s) cause))

-- an open unit is of a later part of the program
pub record IsLaterUnit (s : UnitState) (u b : Id) : Type 0 where
  pub unit : OpenUnit
  pub part : ℕ
  pub named : unit_named u s.units ≡ Some unit
  pub kind : unit.kind ≡ Later b part

-- what is needed for it beside the devices
abbrev pub CanCome : Coming → UnitState → Type 0
CanCome (coming.Act a) s = (o : OpenUnit) × IsAskedBy a s o
CanCome (coming.Commit u) s = IsSome (unit_named u s.units)
CanCome (coming.Branch u b cause) s = IsLaterUnit s u b
CanCome c s = ⊤

-- an open unit whose last statement is done is to commit; else nothing is to come
abbrev pub CommitsAtEnd : UnitState → Id → Coming → Type 0
CommitsAtEnd s u coming.Nothing = done_of s None (unit_named u s.units) ≡ None
CommitsAtEnd s u (coming.Commit v) =
    (v ≡ u) × IsSome (unit_named u s.units) × (done_of s None (unit_named u s.units) ≡ option_map (commits_in s) (unit_named u s.units))
CommitsAtEnd s u c = ⊥
