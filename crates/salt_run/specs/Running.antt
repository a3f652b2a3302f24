-- What a run has to be: its start, its trace, what it writes, and what it leaves.
use Rattle.salt_storage.specs.OpenErr.TheVariants as opening
use Rattle.salt_devices.specs.Filling.{FillsIn}
use Rattle.salt_devices.specs.Refusing.{FindsKept, RefusesDevices}
use Rattle.salt_disk.specs.Disks.{IsImage, View}
use Rattle.salt_devices.specs.Leaving.{StandsFor}
use Rattle.salt_model.specs.Arming.{armed_behind, armed_by_lines}
use Rattle.salt_model.specs.Ends.{MayLeave}
use Rattle.salt_model.specs.Everywhere.{Always, Each}
use Rattle.salt_model.specs.Kept.{Kept, WellKept}
use Rattle.salt_model.specs.Played.{IsPlayed, Tells}
use Rattle.salt_model.specs.Rests.{DoesItsRests}
use Rattle.salt_model.specs.Trace.{Asked, Start, Trace, lines_asked, start_of}
use Rattle.salt_model.specs.declared.events.Event.{Event}
use Rattle.salt_model.specs.declared.events.Flight.{Flight}
use Rattle.salt_net.specs.declared.kinds.NetEvent.{NetEvent}
use Rattle.salt_promise.specs.Counting.{Stops}
use Rattle.salt_promise.specs.Promises.{Promises}
use Rattle.salt_promise.specs.Runs.{AreAsBefore, IsNoRefusal, may_have_failed, net_left}
use Rattle.salt_promise.specs.declared.status.Status.{Status}
use Rattle.salt_promise.specs.declared.status.Status.TheVariants.{DeviceFull}
use Rattle.salt_promise.specs.Given.{early_of, over_net_of, shape_of}
use Rattle.salt_run.specs.Doing.{Does}
use Rattle.salt_run.specs.Ending.{EndsBehind, IsFlightTold}
use Rattle.salt_loop.specs.Ending.{IsStatusOf}
use Rattle.salt_loop.specs.Run.{Streams, leave_of}
use Rattle.salt_stands.specs.Stands.{are_spent}
use Rattle.salt_stands.specs.Unspent.{OpensUnspent}
use Rattle.salt_driver.specs.Opening.{IsUnfound}
use Rattle.salt_storage.specs.Answers.{IsLater, IsRefusal}
use Rattle.salt_storage.specs.Storing.{IsSoundKept}
use Rattle.salt_storage.specs.Writing.{OfOpening}
use Rattle.salt_storage.specs.OpenErr.{OpenErr}
use Rattle.salt_promise.specs.declared.command.Command.{Command}
use Rattle.std.specs.Prelude.{IsTrue, List, None, Option, Some, [], false, true, ℕ, ◌≡◌, ◌⊎◌}

-- In each opening of a trace that is played from what may be kept, over such lines, no more statements are told than the programs that it
-- found had left.
abbrev pub DoTheirRests : (List Asked → Type 0) → Type 0
DoTheirRests Lines = (trace : Trace) → IsPlayed trace → IsSoundKept (start_of trace).kept → Lines (lines_asked trace) → Always DoesItsRests trace

-- The story is that of a trace which is played from this start and keeps each promise; no opening goes on from spent numbers; the command's
-- lines are done, and what is told of them is written.
pub record Replays (command : Command) (status : Status) (flight : Option Flight) (s : Streams) (story : List Event) (start : Start) : Type 0 where
  pub trace : Trace
  pub played : Tells start trace story
  pub promises : Promises trace
  pub unspent : Each OpensUnspent trace
  pub does : Does command status s trace
  pub leaves : MayLeave (leave_of status) trace
  pub flies : IsFlightTold status trace flight

-- A run over what the devices stood for when it began, blank ones for nothing, if they tell, with numbers that are not spent; and whether
-- they can be stopped. Openings are early, and commits go over messages, where the command says so; then the net is what commits have come
-- to. Each stop was armed before it came.
pub record RunsOver (command : Command) (old new : View) (status : Status) (flight : Option Flight) (net : Option (List NetEvent)) (s : Streams) (story : List Event) : Type 0 where
  pub start : Start
  pub stood : FindsKept old true (shape_of command) start.kept
  pub sound : IsSoundKept start.kept
  pub unspent : are_spent start.kept.boot start.kept.decisions ≡ false
  pub stops : start.can_stop ≡ old.can_stop
  pub early : start.early ≡ early_of command
  pub over_net : start.over_net ≡ over_net_of command
  pub may : IsNoRefusal status
  pub replays : Replays command status flight s story start
  pub sent : net ≡ net_left command status replays.trace
  pub armed : Stops status (armed_by_lines old.armed replays.trace) new.armed
  pub drains : Always DoesItsRests replays.trace
  pub ends : EndsBehind new (shape_of command) status flight replays.trace

-- Or an opening did not find what they stood for: it was refused, failed, or memory ran out. Nothing is told but stops, so that it replays
-- from each start; what the devices stood for when it began, they stand for still; and where they were refused, nothing was written or told,
-- and no device was full.
pub record FindsNothing (command : Command) (old new : View) (status : Status) (flight : Option Flight) (net : Option (List NetEvent)) (s : Streams) (story : List Event) : Type 0 where
  pub reason : OpenErr
  pub none : net ≡ None
  pub is : IsStatusOf reason status
  pub refused : RefusesDevices old true (shape_of command) reason ⊎ (reason ≡ opening.Memory)
  pub unfound : IsUnfound story
  pub empty : (story ≡ []) ⊎ IsLater reason
  pub replays : (start : Start) → WellKept start.kept → Replays command status flight s story start
  pub armed : Stops status (armed_behind story (Some old.armed)) new.armed
  pub rests : (k : Kept) → FindsKept old true (shape_of command) k → IsTrue new.told → (image : ℕ → List ℕ) → IsImage new image → StandsFor (shape_of command) image k
  pub full : (dev : ℕ) → status ≡ DeviceFull dev → FillsIn new (shape_of command) OfOpening dev
  pub unwritten : (refusal : OpenErr) → IsRefusal refusal → RefusesDevices old true (shape_of command) refusal → IsTrue old.told → AreAsBefore (may_have_failed status) old new × (story ≡ [])
  pub unfilled : (refusal : OpenErr) → IsRefusal refusal → RefusesDevices old true (shape_of command) refusal → IsTrue old.told → (dev : ℕ) → status ≡ DeviceFull dev → ⊥

abbrev pub Runs : Command → (old new : View) → Status → Option Flight → Option (List NetEvent) → Streams → List Event → Type 0
Runs command old new status flight net s story =
    RunsOver command old new status flight net s story ⊎ FindsNothing command old new status flight net s story
