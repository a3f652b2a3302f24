-- What an engine does in a line, over its storage and its devices. `holds`, `is_new`, `leaves`, `fills`, `asked` and `net` are those of
-- the storage.
use Rattle.law_states.specs.Nexts.{asked_next, turned_next}
use Rattle.law_states.specs.Readings.{WatchReading, clash_by, items_by}
use Rattle.law_states.specs.States.{State, asked_of, turned_to}
use Rattle.law_states.specs.Told.{line_in}
use Rattle.salt_ast.specs.declared.lines.Line.{Line}
use Rattle.salt_books.specs.Coming.{event_meant}
use Rattle.salt_books.specs.declared.coming.Coming.{Coming}
use Rattle.salt_disk.specs.Disks.{View}
use Rattle.salt_engine.specs.Netted.{net_after}
use Rattle.salt_engine.specs.Performing.{AsksLineIn, ComesOut, GoesOnServingIn, IsToAskIn, IsToServeIn, Stays, TurnsIn, stage_behind}
use Rattle.salt_engine.specs.Standing.{StandsAtEventIn, follow_in}
use Rattle.salt_engine.specs.declared.engine.Engine.{Engine}
use Rattle.salt_model.specs.Kept.{Kept}
use Rattle.salt_model.specs.Trace.{Tree}
use Rattle.salt_model.specs.declared.events.Event.{Event}
use Rattle.salt_net.specs.Turns.{Turning}
use Rattle.salt_scheduler.specs.Standing.{behind_in}
use Rattle.salt_storage.specs.Staying.{Setup}
use Rattle.salt_storage.specs.Writing.{ToWrite}
use Rattle.salt_storage.specs.declared.halt.Halt.{Halt}
use Rattle.salt_values.specs.declared.id.Id.{Id}
use Rattle.std.specs.Prelude.{Option, Result, ℕ, ◌≡◌}

-- No call changes what is noted beside the stage, what the storage is asked for, and devices that are not of it.
abbrev pub StaysServing : {S : Type 0} → (asked : S → Setup) → (old new : View) (x y : Engine S) → Type 0
StaysServing asked old new x y = Stays x.single y.single (asked x.storage) (asked y.storage) old new

module _ {S : Type 0} (holds : View → S → Kept → Type 0) (is_new : View → S → Id → Type 0) where
  -- BEFORE IT: a line is to be asked, or was asked and is not refused; what is to come is chosen; an event of the line has been told; a
  -- program is to have its turn

  abbrev pub IsToAskOver : View → Engine S → Line → State → Type 0
  IsToAskOver d x line s = IsToAskIn (holds d x.storage) (is_new d x.storage) d.can_stop line x.stage s

  abbrev pub AsksLineOver : View → Engine S → Line → State → Type 0
  AsksLineOver d x line s = AsksLineIn (holds d x.storage) (is_new d x.storage) d.can_stop line x.stage s

  abbrev pub IsToServeOver : View → Engine S → Coming → State → Type 0
  IsToServeOver d x coming s = IsToServeIn (holds d x.storage) (is_new d x.storage) x.stage coming s

  abbrev pub GoesOnOver : View → Engine S → Line → State → Type 0
  GoesOnOver d x line s = GoesOnServingIn (holds d x.storage) (is_new d x.storage) line x.stage s

  abbrev pub TurnsOver : View → Engine S → Line → Id → State → Type 0
  TurnsOver d x line base s = TurnsIn (holds d x.storage) (is_new d x.storage) line base x.stage s

  module _ (leaves : View → S → Kept → Kept → Type 0) (fills : View → S → ToWrite → ℕ → Type 0) where
    -- what was meant is given, and the engine has done it; or it is broken off
    abbrev pub ComesOutOver : View → Engine S → Option Event → State → Result (Option Event) Halt → Type 0
    ComesOutOver d x meant s result =
        ComesOut (λ e. e) (StandsAtEventIn (holds d x.storage) (is_new d x.storage) x.stage) (leaves d x.storage) (fills d x.storage) (stage_behind result x.stage) x.in_flight meant s result

    -- WHAT COMES OUT: of a line that is asked, of one that is begun, of what is to come, behind an event, of a turn

    abbrev pub AsksOut : (asked : S → Setup) (d e : View) → Line → (x y : Engine S) → Result (Option Event) Halt → Type 0
    AsksOut asked d e line x y result = (s : State) (r : WatchReading s.watch) → IsToAskOver d x line s → s.over_net ≡ (asked x.storage).over_net →
        ComesOutOver e y (asked_next s r (Tree line)) (asked_of (Tree line) s) result

    abbrev pub BeginsOut : (d e : View) → Line → (x y : Engine S) → Result (Option Event) Halt → Type 0
    BeginsOut d e line x y result = (s : State) (r : WatchReading s.watch) → AsksLineOver d x line s → ComesOutOver e y (line_in s.units (clash_by s) (items_by s r) line) s result

    abbrev pub PerformsOut : (d e : View) → Coming → (x y : Engine S) → Result (Option Event) Halt → Type 0
    PerformsOut d e coming x y result = (s : State) → IsToServeOver d x coming s → ComesOutOver e y (event_meant s.units coming) s result

    abbrev pub GoesOnOut : (d e : View) → Line → (x y : Engine S) → Result (Option Event) Halt → Type 0
    GoesOnOut d e line x y result = (s : State) (r : WatchReading s.watch) → GoesOnOver d x line s → ComesOutOver e y (behind_in s r (follow_in x.stage)) s result

    abbrev pub TurnsOut : (d e : View) → Line → Id → (x y : Engine S) → Result (Option Event) Halt → Type 0
    TurnsOut d e line base x y result = (s : State) (r : WatchReading s.watch) → TurnsOver d x line base s → ComesOutOver e y (turned_next s r base) (turned_to base s) result

  module _ (asked : S → Setup) (net : S → Option Turning) where
    -- what was meant is sent, as far as it is a commit's
    abbrev pub SendsOver : (x y : Engine S) → Option Event → State → Type 0
    SendsOver x y meant s = net y.storage ≡ net_after (asked x.storage) meant s.units (net x.storage)

    -- WHAT IS SENT of each of these

    abbrev pub SendsAsked : View → Line → (x y : Engine S) → Type 0
    SendsAsked d line x y = (s : State) (r : WatchReading s.watch) → IsToAskOver d x line s → s.over_net ≡ (asked x.storage).over_net → SendsOver x y (asked_next s r (Tree line)) (asked_of (Tree line) s)

    abbrev pub SendsBegun : View → Line → (x y : Engine S) → Type 0
    SendsBegun d line x y = (s : State) (r : WatchReading s.watch) → AsksLineOver d x line s → SendsOver x y (line_in s.units (clash_by s) (items_by s r) line) s

    abbrev pub SendsPerformed : View → Coming → (x y : Engine S) → Type 0
    SendsPerformed d coming x y = (s : State) → IsToServeOver d x coming s → SendsOver x y (event_meant s.units coming) s

    abbrev pub SendsBehind : View → Line → (x y : Engine S) → Type 0
    SendsBehind d line x y = (s : State) (r : WatchReading s.watch) → GoesOnOver d x line s → SendsOver x y (behind_in s r (follow_in x.stage)) s

    abbrev pub SendsTurn : View → Line → Id → (x y : Engine S) → Type 0
    SendsTurn d line base x y = (s : State) (r : WatchReading s.watch) → TurnsOver d x line base s → SendsOver x y (turned_next s r base) (turned_to base s)
