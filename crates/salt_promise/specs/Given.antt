-- A run: what is asked of it, what is there before it and after it, and what it answers.
use Rattle.salt_disk.specs.Disks.{View}
use Rattle.salt_model.specs.declared.events.Event.{Event}
use Rattle.salt_model.specs.declared.events.Flight.{Flight}
use Rattle.salt_net.specs.declared.kinds.NetEvent.{NetEvent}
use Rattle.salt_promise.specs.declared.command.Command.TheVariants.{Load, Script}
use Rattle.salt_promise.specs.declared.command.Command.{Command}
use Rattle.salt_promise.specs.declared.status.Status.{Status}
use Rattle.salt_place.specs.declared.placement.PlaceKind.TheVariants.{Remainder}
use Rattle.salt_place.specs.declared.placement.Shape.{Shape}
use Rattle.std.specs.Prelude.{Bool, List, Option, false, ℕ}

-- a source with the bytes that it has left, or a sink with those that it holds, where it tells them; and how often it has failed
pub record Stream : Type 0 where
  pub bytes : Option (List ℕ)
  pub faults : ℕ

abbrev pub stream : Option (List ℕ) → ℕ → Stream
stream bytes faults = record { bytes = bytes; faults = faults }

-- what a run reads from, writes to, and keeps its database on
pub record World : Type 1 where
  pub source : Stream
  pub sink : Stream
  pub devices : View

abbrev pub world : (left : Option (List ℕ)) → (reads : ℕ) → (held : Option (List ℕ)) → (writes : ℕ) → View → World
world left reads held writes devices = record { source = stream left reads; sink = stream held writes; devices = devices }

-- the shape of the devices that a command asks for
abbrev pub shape_of : Command → Shape
shape_of (Script shape early over_net) = shape
shape_of (Load calls) = record { parts = 2; kind = Remainder }

-- whether its openings end before accepted programs are finished
abbrev pub early_of : Command → Bool
early_of (Script shape early over_net) = early
early_of (Load calls) = false

-- whether its commits go over messages
abbrev pub over_net_of : Command → Bool
over_net_of (Script shape early over_net) = over_net
over_net_of (Load calls) = false

-- no command, where the words say none
pub record Run : Type 1 where
  pub command : Option Command
  pub before : World
  pub after : World
  pub status : Status
  pub flight : Option Flight
  pub story : List Event
  -- the events of the net that its commits went over, where it is given
  pub net : Option (List NetEvent)
