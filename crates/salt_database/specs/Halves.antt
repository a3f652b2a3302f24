-- What an opening, and a database that is one or an engine, stand for, over storages.
use Rattle.salt_database.specs.Standing.{OpensIn, opening_books}
use Rattle.salt_database.specs.declared.database.Database.{Database}
use Rattle.salt_database.specs.declared.database.Database.TheVariants.{Closed, Moving, Open}
use Rattle.salt_database.specs.declared.onward.Onward.TheVariants.{Next, Served}
use Rattle.salt_database.specs.declared.onward.Onward.{Onward}
use Rattle.salt_database.specs.declared.opening.Opening.{Opening}
use Rattle.salt_driver.specs.Standing.{IsIdleAt, IsOpeningAt}
use Rattle.salt_engine.specs.Engines.{engine_books, engine_flight, engine_stands_for_kept, engine_can_reopen, engine_stands_for, engine_storage}
use Rattle.salt_engine.specs.Netted.{CanReopenNet, AgreesWithNet}
use Rattle.salt_engine.specs.Flights.{flight_of}
use Rattle.salt_engine.specs.Standing.{AgreesWithState, CanReopenAt, LeavesOnDevices, StandsAtEventIn}
use Rattle.salt_engine.specs.Stored.{IsAlone}
use Rattle.salt_engine.specs.declared.engine.Engine.{Engine}
use Rattle.salt_engine.specs.declared.stage.Stage.TheVariants.{Going}
use Rattle.law_states.specs.Points.{Point}
use Rattle.law_states.specs.States.{State}
use Rattle.salt_model.specs.Kept.{Kept}
use Rattle.salt_model.specs.declared.events.Event.{Event}
use Rattle.salt_model.specs.declared.events.Flight.{Flight}
use Rattle.salt_net.specs.Turns.{Turning}
use Rattle.salt_storage.specs.declared.found.Numbers.{Numbers}
use Rattle.salt_values.specs.declared.id.Id.{Id}
use Rattle.salt_place.specs.declared.placement.PlaceKind.TheVariants.{Remainder}
use Rattle.salt_storage.specs.Staying.{Setup}
use Rattle.std.specs.Prelude.{Bool, IsSome, None, Option, Some, false, ℕ, ⊤, ◌≡◌}

-- AN OPENING

abbrev pub opening_stands_for : {S : Type 0} → (holds : S → Kept → Type 0) (is_new : S → Id → Type 0) → Bool → Opening S → Option Event → State → Type 0
opening_stands_for holds is_new stoppable o next s = AgreesWithState (OpensIn (holds o.storage) (is_new o.storage) o.stage) stoppable o.single o.in_flight next s × (o.found ≡ None)

abbrev pub opening_can_reopen : {S : Type 0} → (holds : S → Kept → Type 0) (leaves : S → Kept → Kept → Type 0) → Bool → Opening S → ℕ → Point → Type 0
opening_can_reopen holds leaves stoppable o room p = CanReopenAt (holds o.storage) (leaves o.storage) stoppable o.found (opening_books o.stage) o.single o.in_flight room p

abbrev pub opening_stands_for_kept : {S : Type 0} → (holds : S → Kept → Type 0) (leaves : S → Kept → Kept → Type 0) (rests : S → Kept → Type 0) → Opening S → Option Numbers → ℕ → Point → Type 0
opening_stands_for_kept holds leaves rests o numbers room p = LeavesOnDevices (holds o.storage) (leaves o.storage) (IsSome o.in_flight) o.found room p × IsAlone (rests o.storage) numbers room p

-- what comes next behind an event of it, if it goes on
abbrev pub next_of : Onward → Option Event
next_of (Next e) = Some e
next_of (Served x) = None

-- this is so of it
abbrev pub IfNext : Onward → (Event → Type 0) → Type 0
IfNext (Next e) is_so = is_so e
IfNext (Served x) is_so = ⊤

-- with what it gives behind an event it stands at this point: it goes on, or lines are served by a half in memory
abbrev pub IsOnward : {S : Type 0} → (holds : S → Kept → Type 0) (is_new : S → Id → Type 0) → Bool → Opening S → Onward → Point → Type 0
IsOnward holds is_new stoppable o (Next e) p = IsOpeningAt (opening_stands_for holds is_new stoppable o) (Some e) p
IsOnward holds is_new stoppable o (Served x) p =
    IsIdleAt (λ next s. AgreesWithState (StandsAtEventIn (holds o.storage) (is_new o.storage) (Going x)) stoppable o.single o.in_flight next s) p

-- A DATABASE is closed, and opened by an opening, or open, and served by an engine.

abbrev pub by_half : {S A : Type 0} → (Opening S → A) → (Engine S → A) → A → Database S → A
by_half closed served moving (Closed o) = closed o
by_half closed served moving (Open e) = served e
by_half closed served moving Moving = moving

abbrev pub IfEither : {S : Type 0} → (Opening S → Type 0) → (Engine S → Type 0) → Database S → Type 0
IfEither P Q (Closed o) = P o
IfEither P Q (Open e) = Q e
IfEither P Q Moving = ⊥

abbrev pub IfClosed : {S : Type 0} → (Opening S → Type 0) → Database S → Type 0
IfClosed P (Closed o) = P o
IfClosed P x = ⊥

abbrev pub database_flight : {S : Type 0} → Database S → Option Flight
database_flight x = by_half (λ o. flight_of o.in_flight) (λ e. flight_of (engine_flight e)) None x

-- it is the one or the other
abbrev pub IsMade : {S : Type 0} → Database S → Type 0
IsMade Moving = ⊥
IsMade x = ⊤

-- an opening of what an engine has left: its storage, its books and what is in flight
pub record IsBehind {S : Type 0} (e : Engine S) (o : Opening S) : Type 0 where
  pub storage : o.storage ≡ engine_storage e
  pub books : opening_books o.stage ≡ engine_books e
  pub found : o.found ≡ None
  pub single : o.single ≡ e.single
  pub flies : o.in_flight ≡ engine_flight e

-- what is opened behind a fall
abbrev pub IsLeftBy : {S : Type 0} → Database S → Opening S → Type 0
IsLeftBy (Closed was) o = o ≡ was
IsLeftBy (Open e) o = IsBehind e o
IsLeftBy Moving o = ⊥

-- what one is asked for that is neither
abbrev pub no_setup : Setup
no_setup = record { shape = record { parts = 1; kind = Remainder }; over_net = false }

-- what its commits have sent, by the half that it is
abbrev pub database_net : {S : Type 0} → (asked : S → Setup) (net : S → Option Turning) → Database S → Option Event → State → Type 0
database_net asked net x next s =
    IfEither (λ o. AgreesWithNet (asked o.storage) (net o.storage) next s) (λ e. AgreesWithNet (asked (engine_storage e)) (net (engine_storage e)) next s) x

abbrev pub database_fresh : {S : Type 0} → (asked : S → Setup) (net : S → Option Turning) → Database S → State → Type 0
database_fresh asked net x s =
    IfEither (λ o. CanReopenNet (asked o.storage) (net o.storage) o.found s) (λ e. CanReopenNet (asked (engine_storage e)) (net (engine_storage e)) None s) x

abbrev pub database_stands_for : {S : Type 0} → (holds : S → Kept → Type 0) (is_new : S → Id → Type 0) → Bool → Database S → Option Event → State → Type 0
database_stands_for holds is_new stoppable (Open e) next s = engine_stands_for holds is_new stoppable e next s
database_stands_for holds is_new stoppable (Closed o) (Some e) s = opening_stands_for holds is_new stoppable o (Some e) s
database_stands_for holds is_new stoppable x next s = ⊥

abbrev pub database_can_reopen : {S : Type 0} → (holds : S → Kept → Type 0) (leaves : S → Kept → Kept → Type 0) → Bool → Database S → ℕ → Point → Type 0
database_can_reopen holds leaves stoppable (Open e) room p = engine_can_reopen holds leaves stoppable e room p
database_can_reopen holds leaves stoppable (Closed o) room p = opening_can_reopen holds leaves stoppable o room p
database_can_reopen holds leaves stoppable Moving room p = ⊥

abbrev pub database_stands_for_kept : {S : Type 0} → (holds : S → Kept → Type 0) (leaves : S → Kept → Kept → Type 0) (rests : S → Kept → Type 0) → Database S → Option Numbers → ℕ → Point → Type 0
database_stands_for_kept holds leaves rests (Open e) numbers room p = engine_stands_for_kept holds leaves rests e numbers room p
database_stands_for_kept holds leaves rests (Closed o) numbers room p = opening_stands_for_kept holds leaves rests o numbers room p
database_stands_for_kept holds leaves rests Moving numbers room p = ⊥
