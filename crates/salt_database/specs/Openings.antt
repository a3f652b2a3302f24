-- What an opening does, over its storage and its devices. `holds`, `is_new`, `leaves`, `rests`, `fills`, `asked` and `net` are those of the
-- storage.
use Rattle.law_states.specs.Points.{Moves, Point, Say}
use Rattle.law_states.specs.States.{State}
use Rattle.salt_books.specs.Coming.{event_meant}
use Rattle.salt_books.specs.declared.coming.Coming.{Coming}
use Rattle.salt_database.specs.Halves.{IsOnward, next_of, opening_stands_for_kept, opening_can_reopen, opening_stands_for}
use Rattle.salt_database.specs.Performing.{GoesOnOpening, IsToOpen}
use Rattle.salt_database.specs.Standing.{OpensIn}
use Rattle.salt_database.specs.declared.onward.Onward.{Onward}
use Rattle.salt_database.specs.declared.opening.Opening.{Opening}
use Rattle.salt_disk.specs.Disks.{View}
use Rattle.salt_drain.specs.Follows.{comes_behind}
use Rattle.salt_drain.specs.Recovering.{behind_of}
use Rattle.salt_drain.specs.declared.recovery.Recovery.{Recovery}
use Rattle.salt_driver.specs.Devices.{on_devices}
use Rattle.salt_driver.specs.Standing.{BreaksAt, IsOpeningAt, IsSoundPoint}
use Rattle.salt_engine.specs.Flights.{flight_of}
use Rattle.salt_engine.specs.Netted.{CanReopenNet, AgreesWithNet, net_after}
use Rattle.salt_engine.specs.Performing.{ComesOut, Stays}
use Rattle.salt_model.specs.Kept.{Kept}
use Rattle.salt_model.specs.Phases.{Fallen}
use Rattle.salt_model.specs.declared.events.Event.{Event}
use Rattle.salt_net.specs.Turns.{Turning}
use Rattle.salt_storage.specs.Staying.{Setup}
use Rattle.salt_storage.specs.Writing.{ToWrite}
use Rattle.salt_storage.specs.declared.found.Numbers.{Numbers}
use Rattle.salt_storage.specs.declared.halt.Halt.{Halt}
use Rattle.salt_values.specs.declared.id.Id.{Id}
use Rattle.std.specs.Prelude.{Bool, List, Option, Result, Some, ℕ, ◌≡◌}

-- No call changes what is noted beside the stage, what the storage is asked for, and devices that are not of it.
abbrev pub StaysOpening : {S : Type 0} → (asked : S → Setup) → (old new : View) (x y : Opening S) → Type 0
StaysOpening asked old new x y = Stays {A = Bool × Option Numbers} (x.single, x.found) (y.single, y.found) (asked x.storage) (asked y.storage) old new

-- broken off, its commits go over messages still where they did, and nothing was sent since it is found what is kept
abbrev pub StaysBegun : {S : Type 0} → (asked : S → Setup) (net : S → Option Turning) → (x y : Opening S) → Type 0
StaysBegun asked net x y = (s : State) → CanReopenNet (asked x.storage) (net x.storage) x.found s → CanReopenNet (asked y.storage) (net y.storage) y.found s

-- BROKEN OFF, it can be opened at a point, or only what it has left is known

module _ {S : Type 0} (holds : View → S → Kept → Type 0) (leaves : View → S → Kept → Kept → Type 0) where
  abbrev pub CanOpenAt : View → Opening S → ℕ → Point → Type 0
  CanOpenAt d x room p = opening_can_reopen (holds d) (leaves d) d.can_stop x room p

  abbrev pub IsLeftAt : (rests : View → S → Kept → Type 0) → View → Opening S → Option Numbers → ℕ → Point → Type 0
  IsLeftAt rests d x numbers room p = opening_stands_for_kept (holds d) (leaves d) (rests d) x numbers room p

  -- a sound run has fallen at a point, and can be opened there
  abbrev pub IsFallen : View → Opening S → Type 0
  IsFallen d x = (room : ℕ) × (p : Point) × IsSoundPoint p × (p.state.units.phase ≡ Fallen) × CanOpenAt d x room p

  -- this is so wherever it has
  abbrev pub WhereFallen : View → Opening S → (ℕ → Point → Type 0) → Type 0
  WhereFallen d x is_so = (room : ℕ) (p : Point) → IsSoundPoint p → p.state.units.phase ≡ Fallen → CanOpenAt d x room p → is_so room p

  -- it was broken off behind an event, or before it for want of memory
  abbrev pub BreaksOver : (rests : View → S → Kept → Type 0) (fills : View → S → ToWrite → ℕ → Type 0) → View → Opening S → Halt → Event → (story told : List Event) → Point → Type 0
  BreaksOver rests fills d x halt event story told p =
      BreaksAt (on_devices (CanOpenAt d x) (IsLeftAt rests d x) (fills d x.storage)) (flight_of x.in_flight) halt p event story told

module _ {S : Type 0} (holds : View → S → Kept → Type 0) (is_new : View → S → Id → Type 0) where
  -- GOING ON: it stands for the state of a point, with the event at hand

  abbrev pub StandsForOver : View → Opening S → Option Event → State → Type 0
  StandsForOver d x next s = opening_stands_for (holds d) (is_new d) d.can_stop x next s

  abbrev pub IsOpeningOver : View → Opening S → Event → Point → Type 0
  IsOpeningOver d x event p = IsOpeningAt (opening_stands_for (holds d) (is_new d) d.can_stop x) (Some event) p

  -- this is so at each sound point at which it does
  abbrev pub WhereOpening : View → Opening S → Event → (Point → Type 0) → Type 0
  WhereOpening d x event is_so = (p : Point) → IsSoundPoint p → IsOpeningOver d x event p → is_so p

  -- the event is told, and it goes on, or lines are served behind it
  abbrev pub MovesOn : View → Opening S → Event → Onward → Point → Type 0
  MovesOn d x event onward p = (q : Point) × Moves (Say event) p q × IsOnward (holds d) (is_new d) d.can_stop x onward q

  -- WHAT IS TO COME is chosen by a recovery, or comes behind its event

  abbrev pub IsToOpenOver : View → Opening S → Recovery → Coming → State → Type 0
  IsToOpenOver d x recovery coming s = IsToOpen (holds d x.storage) (is_new d x.storage) recovery coming s

  abbrev pub GoesOnOver : View → Opening S → Recovery → State → Type 0
  GoesOnOver d x recovery s = GoesOnOpening (holds d x.storage) (is_new d x.storage) recovery s

  module _ (leaves : View → S → Kept → Kept → Type 0) (fills : View → S → ToWrite → ℕ → Type 0) where
    -- what was meant is given, and done; or it is broken off
    abbrev pub ComesOutOver : View → Opening S → Option Event → State → Result Event Halt → Type 0
    ComesOutOver d x meant s result =
        ComesOut Some (OpensIn (holds d x.storage) (is_new d x.storage) x.stage) (leaves d x.storage) (fills d x.storage) x.stage x.in_flight meant s result

    abbrev pub PerformsOut : (d e : View) → Recovery → Coming → (x y : Opening S) → Result Event Halt → Type 0
    PerformsOut d e recovery coming x y result = (s : State) → IsToOpenOver d x recovery coming s → ComesOutOver e y (event_meant s.units coming) s result

    abbrev pub GoesOnOut : (d e : View) → Recovery → (x y : Opening S) → Result Event Halt → Type 0
    GoesOnOut d e recovery x y result = (s : State) → GoesOnOver d x recovery s → ComesOutOver e y (comes_behind (behind_of recovery) s.units) s result

  module _ (asked : S → Setup) (net : S → Option Turning) where
    -- what was meant is sent, as far as it is a commit's
    abbrev pub SendsOver : (x y : Opening S) → Option Event → State → Type 0
    SendsOver x y meant s = net y.storage ≡ net_after (asked x.storage) meant s.units (net x.storage)

    abbrev pub SendsPerformed : View → Recovery → Coming → (x y : Opening S) → Type 0
    SendsPerformed d recovery coming x y = (s : State) → IsToOpenOver d x recovery coming s → SendsOver x y (event_meant s.units coming) s

    abbrev pub SendsBehind : View → Recovery → (x y : Opening S) → Type 0
    SendsBehind d recovery x y = (s : State) → GoesOnOver d x recovery s → SendsOver x y (comes_behind (behind_of recovery) s.units) s

    -- the event is told: its commits have sent what those of the run have
    abbrev pub SendsOnward : View → (x y : Opening S) → Event → Onward → Type 0
    SendsOnward d x y event onward = WhereOpening d x event (λ p. AgreesWithNet (asked x.storage) (net x.storage) (Some event) p.state →
        (q : Point) → Moves (Say event) p q → AgreesWithNet (asked y.storage) (net y.storage) (next_of onward) q.state)
