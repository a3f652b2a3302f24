-- What an engine stands for, over storages.
use Rattle.salt_books.specs.declared.books.Books.{Books}
use Rattle.salt_engine.specs.Standing.{AgreesWithState, CanReopenAt, LeavesOnDevices, ServesFrom, StandsAtEventIn, serving_books, turns_in, waits_in}
use Rattle.salt_engine.specs.Stored.{IsAlone}
use Rattle.salt_engine.specs.declared.engine.Engine.{Engine}
use Rattle.salt_engine.specs.declared.flights.InFlight.{InFlight}
use Rattle.law_states.specs.Points.{Point}
use Rattle.law_states.specs.States.{State}
use Rattle.salt_model.specs.Kept.{Kept}
use Rattle.salt_model.specs.declared.events.Event.{Event}
use Rattle.salt_storage.specs.declared.found.Numbers.{Numbers}
use Rattle.salt_values.specs.declared.id.Id.{Id}
use Rattle.std.specs.Prelude.{Bool, IsSome, List, None, Option, ℕ}

-- WHAT IT HAS: a storage, its books unless memory ran out, the decision in flight; units that wait, and how many turns may still come

abbrev pub engine_storage : {S : Type 0} → Engine S → S
engine_storage e = e.storage

abbrev pub engine_books : {S : Type 0} → Engine S → Option Books
engine_books e = serving_books e.stage

abbrev pub engine_flight : {S : Type 0} → Engine S → Option InFlight
engine_flight e = e.in_flight

abbrev pub engine_waits : {S : Type 0} → Engine S → List Id
engine_waits e = waits_in e.stage

abbrev pub engine_turns : {S : Type 0} → Engine S → ℕ
engine_turns e = turns_in e.stage

-- WHAT IT STANDS FOR: a state in which lines are served, as it is made; a state, with the event at hand; broken off, a point

abbrev pub EngineServes : {S : Type 0} → Engine S → State → Type 0
EngineServes e s = ServesFrom e.stage s

abbrev pub engine_stands_for : {S : Type 0} → (holds : S → Kept → Type 0) (is_new : S → Id → Type 0) → Bool → Engine S → Option Event → State → Type 0
engine_stands_for holds is_new stoppable e next s = AgreesWithState (StandsAtEventIn (holds e.storage) (is_new e.storage) e.stage) stoppable e.single e.in_flight next s

abbrev pub engine_can_reopen : {S : Type 0} → (holds : S → Kept → Type 0) (leaves : S → Kept → Kept → Type 0) → Bool → Engine S → ℕ → Point → Type 0
engine_can_reopen holds leaves stoppable e room p = CanReopenAt (holds e.storage) (leaves e.storage) stoppable None (serving_books e.stage) e.single e.in_flight room p

abbrev pub engine_stands_for_kept : {S : Type 0} → (holds : S → Kept → Type 0) (leaves : S → Kept → Kept → Type 0) (rests : S → Kept → Type 0) → Engine S → Option Numbers → ℕ → Point → Type 0
engine_stands_for_kept holds leaves rests e numbers room p = LeavesOnDevices (holds e.storage) (leaves e.storage) (IsSome e.in_flight) None room p × IsAlone (rests e.storage) numbers room p
