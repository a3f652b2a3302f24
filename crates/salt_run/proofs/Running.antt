-- A run is as promised: what it is given, what it leaves, and what is counted of it.
use Rattle.law_definitions.specs.Texts.{definition_in}
use Rattle.salt_disk.specs.Disks.{Rose}
use Rattle.salt_io.specs.Streams.{IsAtEnd}
use Rattle.salt_model.specs.Trace.{Trace}
use Rattle.salt_model.specs.Arming.{armed_behind}
use Rattle.salt_net.specs.Agreed.{IsAgreed}
use Rattle.salt_net.specs.Nets.{state_of}
use Rattle.salt_net.specs.declared.kinds.NetEvent.{NetEvent}
use Rattle.salt_promise.specs.Counting.{FailsOnly, Stops}
use Rattle.salt_promise.specs.Doing as promise
use Rattle.salt_promise.specs.Given.{Run, Stream, over_net_of, shape_of}
use Rattle.salt_promise.specs.Runs as promised
use Rattle.salt_promise.specs.Runs.{RunsAs, ends_reading, ends_writing, runs_as}
use Rattle.salt_promise.specs.Standing.{IsReader}
use Rattle.salt_promise.specs.declared.status.Status.TheVariants.{Done, ReadFault, WriteFault}
use Rattle.salt_promise.specs.declared.status.Status.{Status}
use Rattle.salt_run.proofs.Goes.{goes}
use Rattle.salt_run.proofs.Promised.{load-does, script-does, streams_of}
use Rattle.salt_run.proofs.Said.{IsCommand, parts-of-command}
use Rattle.salt_run.proofs.Tallied.{downs-of, stops-by-story}
use Rattle.salt_run.specs.Doing.{Does}
use Rattle.salt_run.specs.Running.{Runs}
use Rattle.salt_loop.specs.Counted.{AreFaultsOf}
use Rattle.salt_storage.specs.Staying.{Setup, StaysWithin}
use Rattle.salt_place.specs.declared.placement.Shape.{Shape}
use Rattle.salt_promise.specs.declared.command.Command.TheVariants.{Load, Script}
use Rattle.salt_promise.specs.declared.command.Command.{Command}
use Rattle.salt_devices.specs.Holding.{setup_in}
use Rattle.std.proofs.Common.{inl, inr, ◌∙◌}
use Rattle.std.specs.Prelude.{Bool, IsTrue, List, Some, false, refl, ℕ, ◌≡◌, ◌≤◌}

-- STREAMS fail only where the run ends by that

reads-fail : (status : Status) (before after : Stream) → (status ≡ ReadFault → Rose before.faults after.faults) → ((status ≡ ReadFault → ⊥) → after.faults ≡ before.faults) → before.faults ≤ after.faults →
    FailsOnly (ends_reading status) before after
reads-fail ReadFault before after rose same later = (later, rose refl)
reads-fail status before after rose same later = same (λ is. cc is)

writes-fail : (status : Status) (before after : Stream) → (status ≡ WriteFault → Rose before.faults after.faults) → ((status ≡ WriteFault → ⊥) → after.faults ≡ before.faults) → before.faults ≤ after.faults →
    FailsOnly (ends_writing status) before after
writes-fail WriteFault before after rose same later = (later, rose refl)
writes-fail status before after rose same later = same (λ is. cc is)

-- what a command asks its devices for
abbrev setup_of : Command → Setup
setup_of command = setup_in (shape_of command) (over_net_of command)

-- THE WORDS SAY A COMMAND
module _ (reads : IsReader definition_in) (r : Run) (count : 26 ≤ r.before.devices.count)
    (read_fault : r.status ≡ ReadFault → Rose r.before.source.faults r.after.source.faults) (no_read_fault : (r.status ≡ ReadFault → ⊥) → r.after.source.faults ≡ r.before.source.faults)
    (reads_later : r.before.source.faults ≤ r.after.source.faults)
    (write_fault : r.status ≡ WriteFault → Rose r.before.sink.faults r.after.sink.faults) (no_write_fault : (r.status ≡ WriteFault → ⊥) → r.after.sink.faults ≡ r.before.sink.faults)
    (writes_later : r.before.sink.faults ≤ r.after.sink.faults)
    (downs : AreFaultsOf r.status r.before.devices.faults r.story r.after.devices.faults) (agrees : (events : List NetEvent) → IsAgreed (state_of events)) where
  -- where no line arms pairs of messages, each stop is told to be armed by the story alone
  stops-told : (command : Command) → Runs command r.before.devices r.after.devices r.status r.flight r.net (streams_of r) r.story → over_net_of command ≡ false →
      Stops r.status (armed_behind r.story (Some r.before.devices.armed)) r.after.devices.armed
  stops-told command (inl x) off =
      stops-by-story r.status r.before.devices.armed x.start x.replays.trace r.story r.after.devices.armed x.replays.played (x.over_net ∙ off) x.armed
  stops-told command (inr x) off = x.armed

  counted : (command : Command) → IsCommand command → StaysWithin (setup_of command) (setup_of command) r.before.devices r.after.devices →
      ((trace : Trace) → Does command r.status (streams_of r) trace → promise.Does command r trace) →
      (IsTrue r.before.devices.told → Runs command r.before.devices r.after.devices r.status r.flight r.net (streams_of r) r.story) → RunsAs r command
  counted command limits within does runs = record {
    goes = λ told. goes reads r command (parts-of-command command limits) count within.shape does agrees (runs told);
    source = reads-fail r.status r.before.source r.after.source read_fault no_read_fault reads_later;
    sink = writes-fail r.status r.before.sink r.after.sink write_fault no_write_fault writes_later;
    downs = downs-of r.status r.before.devices.faults r.story r.after.devices.faults downs;
    stops = λ told. stops-told command (runs told);
    shape = within.shape;
    others = within.others;
  }

  pub script-runs : (shape : Shape) (early over_net : Bool) → r.command ≡ Some (Script shape early over_net) → IsCommand (Script shape early over_net) →
      StaysWithin (setup_in shape over_net) (setup_in shape over_net) r.before.devices r.after.devices → (r.status ≡ Done → IsAtEnd r.after.source.bytes) →
      (IsTrue r.before.devices.told → Runs (Script shape early over_net) r.before.devices r.after.devices r.status r.flight r.net (streams_of r) r.story) → promised.Runs r
  script-runs shape early over_net is limits within end runs =
      runs_as is (counted (Script shape early over_net) limits within (λ trace. script-does r shape early over_net trace end) runs)

  pub load-runs : (calls : ℕ) → r.command ≡ Some (Load calls) → IsCommand (Load calls) → StaysWithin (setup_in (shape_of (Load calls)) false) (setup_in (shape_of (Load calls)) false) r.before.devices r.after.devices →
      r.after.source ≡ r.before.source → (IsTrue r.before.devices.told → Runs (Load calls) r.before.devices r.after.devices r.status r.flight r.net (streams_of r) r.story) → promised.Runs r
  load-runs calls is limits within unread runs = runs_as is (counted (Load calls) limits within (λ trace. load-does r calls trace unread) runs)
