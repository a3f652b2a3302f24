-- A run over what its devices stood for is as promised.
use Rattle.law_definitions.specs.Texts.{definition_in}
use Rattle.salt_io.specs.Streams.{IsAtEnd}
use Rattle.salt_model.specs.Trace.{Trace, lines_asked}
use Rattle.salt_net.specs.Agreed.{IsAgreed}
use Rattle.salt_net.specs.Nets.{state_of}
use Rattle.salt_net.specs.declared.kinds.NetEvent.{NetEvent}
use Rattle.salt_promise.specs.Doing.{DoesLoad, DoesScript}
use Rattle.salt_promise.specs.Doing as promise
use Rattle.salt_promise.specs.Given.{Run, shape_of}
use Rattle.salt_promise.specs.Runs.{IsNoRefusal}
use Rattle.salt_promise.specs.Runs as promised
use Rattle.salt_promise.specs.Standing.{IsReader}
use Rattle.salt_promise.specs.declared.status.Status.TheVariants.{Done}
use Rattle.salt_run.proofs.Left.{ends-as}
use Rattle.salt_run.proofs.Standing.{open-as}
use Rattle.salt_run.proofs.Ways.{lines-way, load-lines-way}
use Rattle.salt_loop.specs.Run.{Streams, streams}
use Rattle.salt_run.specs.Doing.{Does}
use Rattle.salt_run.specs.Running.{RunsOver}
use Rattle.salt_place.specs.Placement.{IsParts}
use Rattle.salt_place.specs.declared.placement.Shape.{Shape}
use Rattle.salt_promise.specs.declared.command.Command.TheVariants.{Load, Script}
use Rattle.salt_promise.specs.declared.command.Command.{Command}
use Rattle.std.specs.Prelude.{Bool, IfSome, List, None, Option, Some, ℕ, ◌≡◌, ◌≤◌}

-- the nodes of each net are agreed
pub each-agreed : ((events : List NetEvent) → IsAgreed (state_of events)) → (net : Option (List NetEvent)) → IfSome net (λ events. IsAgreed (state_of events))
each-agreed agrees None = tt
each-agreed agrees (Some events) = agrees events

module _ (r : Run) where
  abbrev pub streams_of : Streams
  streams_of = streams r.before.source.bytes r.after.source.bytes r.before.sink.bytes r.after.sink.bytes

  pub script-does : (shape : Shape) (early over_net : Bool) (trace : Trace) → (r.status ≡ Done → IsAtEnd r.after.source.bytes) → Does (Script shape early over_net) r.status streams_of trace → DoesScript r trace
  script-does shape early over_net trace end h = record {
    texts = h.0.texts;
    asked = h.0.reads;
    lines = lines-way r.status r.before.source.bytes r.after.source.bytes h.0.texts end h.0.lines;
    written = h.1;
  }

  pub load-does : (calls : ℕ) (trace : Trace) → r.after.source ≡ r.before.source → Does (Load calls) r.status streams_of trace → DoesLoad r calls trace
  load-does calls trace unread h = record {
    unread = unread;
    lines = load-lines-way r.status calls (lines_asked trace) h.0;
    written = h.1;
  }

  module _ (reads : IsReader definition_in) (command : Command) (parts : IsParts (shape_of command).parts) (count : 26 ≤ r.before.devices.count) (agrees : (events : List NetEvent) → IsAgreed (state_of events)) where
    pub over : IsNoRefusal r.status → (x : RunsOver command r.before.devices r.after.devices r.status r.flight r.net streams_of r.story) → promise.Does command r x.replays.trace → promised.RunsOver r command
    over may x does = record {
      start = x.start;
      trace = x.replays.trace;
      opens = λ told. open-as reads r.before.devices (shape_of command) parts count x.start.kept x.unspent x.stood told;
      well = x.sound.well;
      can_stop = x.stops;
      early = x.early;
      over_net = x.over_net;
      tells = x.replays.played;
      promises = x.replays.promises;
      unspent = x.replays.unspent;
      drains = x.drains;
      stops = x.armed;
      does = does;
      may = may;
      leaves = x.replays.leaves;
      flies = x.replays.flies;
      net = x.sent;
      agreed = each-agreed agrees r.net;
      ends = ends-as reads r (shape_of command) x.replays.trace x.replays.played.played x.ends;
    }
