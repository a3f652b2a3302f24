-- WHAT A RUN PROMISES.
use Rattle.salt_disk.specs.Disks.{AreUnchanged, SameShape, Shrinks, View}
use Rattle.salt_model.specs.Ends.{MayLeave}
use Rattle.salt_model.specs.Everywhere.{Always, Each}
use Rattle.salt_model.specs.Kept.{Definition, WellKept, nothing_kept}
use Rattle.salt_model.specs.Played.{Tells}
use Rattle.salt_model.specs.Rests.{DoesItsRests}
use Rattle.salt_model.specs.Trace.{Start, Trace, from}
use Rattle.salt_net.specs.Agreed.{IsAgreed}
use Rattle.salt_net.specs.Nets.{state_of}
use Rattle.salt_net.specs.declared.kinds.NetEvent.{NetEvent}
use Rattle.salt_promise.specs.Counting.{Downs, FailsOnly, Stops}
use Rattle.salt_model.specs.Arming.{armed_behind, armed_by_lines}
use Rattle.salt_promise.specs.Doing.{Does}
use Rattle.salt_promise.specs.Ending.{Ends, Flies}
use Rattle.salt_promise.specs.Given.{Run, early_of, over_net_of, shape_of}
use Rattle.salt_promise.specs.declared.command.Command.{Command}
use Rattle.salt_promise.specs.declared.status.Status.TheVariants.{Broken, DiskFault, Memory, NotSalt, NumbersSpent, OtherShape, ReadFault, TranscriptTooLong, Unread, Usage, WriteFault}
use Rattle.salt_promise.specs.declared.status.Status.{Status}
use Rattle.salt_promise.specs.Promises.{Promises}
use Rattle.salt_promise.specs.Status.{ends_between}
use Rattle.salt_promise.specs.Standing.{AnswersTo, OpenAs}
use Rattle.salt_promise.specs.Ways.{way_of}
use Rattle.salt_stands.specs.Stands as opening
use Rattle.salt_stands.specs.Stands.{Opening}
use Rattle.salt_stands.specs.Turning.{turning}
use Rattle.salt_stands.specs.Unspent.{OpensUnspent}
use Rattle.salt_place.specs.declared.placement.Shape.{Shape}
use Rattle.std.specs.Prelude.{Bool, IfSome, IsTrue, List, None, Option, Some, [], false, if◌then◌else◌, true, ℕ, ⊤, ◌&&◌, ◌*◌, ◌+◌, ◌<◌, ◌≡◌, ◌≤◌, ◌⊎◌}

-- 1. THE WORDS SAY NO COMMAND

pub record IsUsage (r : Run) : Type 0 where
  pub status : r.status ≡ Usage
  pub story : r.story ≡ []
  pub flight : r.flight ≡ None
  pub net : r.net ≡ None
  pub unread : r.after.source ≡ r.before.source
  pub unwritten : r.after.sink ≡ r.before.sink
  pub devices : AreUnchanged r.before.devices r.after.devices

-- 2. THE DEVICES ARE REFUSED, as they stand before the run

-- what a refusal of them answers: with its status; or memory ran out, the devices fail, or the sink as the rest is written
abbrev pub EndsRefused : Opening Definition → Status → Type 0
EndsRefused (opening.Stands found) status = ⊥
EndsRefused answer Memory = ⊤
EndsRefused answer DiskFault = ⊤
EndsRefused answer WriteFault = ⊤
EndsRefused (opening.NotSalt dev) status = status ≡ NotSalt dev
EndsRefused (opening.OtherShape kept asked) status = status ≡ OtherShape kept asked
EndsRefused (opening.NumbersSpent boot decisions) status = status ≡ NumbersSpent boot decisions

-- (a sink may fail behind devices that did)
abbrev pub may_have_failed : Status → Bool
may_have_failed DiskFault = true
may_have_failed WriteFault = true
may_have_failed status = false

-- nothing was written: each image is one from before; and unless the devices may have failed, they are as they were
pub record AreAsBefore (failed : Bool) (old new : View) : Type 0 where
  pub images : (dev : ℕ) → Shrinks old new dev
  pub unchanged : failed ≡ false → AreUnchanged old new

-- nothing is told, and nothing done
pub record FindsNothing (r : Run) (command : Command) : Type 0 where
  pub answer : Opening Definition
  pub is : IsTrue r.before.devices.told → AnswersTo (shape_of command) r.before.devices.bytes answer
  pub ends : EndsRefused answer r.status
  pub story : r.story ≡ []
  pub flight : r.flight ≡ None
  pub net : r.net ≡ None
  pub does : Does command r (from (record { kept = nothing_kept; can_stop = false; early = false; over_net = false }))
  pub devices : IsTrue r.before.devices.told → AreAsBefore (may_have_failed r.status) r.before.devices r.after.devices

-- 3. THE DEVICES OPEN, as they stand before the run

abbrev pub IsNoRefusal : Status → Type 0
IsNoRefusal Usage = ⊥
IsNoRefusal Broken = ⊥
IsNoRefusal Unread = ⊥
IsNoRefusal TranscriptTooLong = ⊥
IsNoRefusal (NotSalt dev) = ⊥
IsNoRefusal (OtherShape kept asked) = ⊥
IsNoRefusal status = ⊤

-- What is given of the net, where commits go over messages and the run ends so: what its commits have come to since the last opening, by
-- the rule of turns.
abbrev pub net_left : Command → Status → Trace → Option (List NetEvent)
net_left command status trace = if over_net_of command && ends_between status then Some (turning (shape_of command) trace).events else None

-- The story is that of a trace which is played from what they stand for, and keeps each promise. Its lines are the command's, and it is
-- written; it ends where a run with this status may end, and the devices are left as it says.
pub record RunsOver (r : Run) (command : Command) : Type 0 where
  pub start : Start
  pub trace : Trace
  pub opens : IsTrue r.before.devices.told → OpenAs (shape_of command) r.before.devices.bytes start.kept
  pub well : WellKept start.kept
  pub can_stop : start.can_stop ≡ r.before.devices.can_stop
  pub early : start.early ≡ early_of command
  pub over_net : start.over_net ≡ over_net_of command
  pub tells : Tells start trace r.story
  pub promises : Promises trace
  pub unspent : Each OpensUnspent trace
  pub drains : Always DoesItsRests trace
  pub stops : Stops r.status (armed_by_lines r.before.devices.armed trace) r.after.devices.armed
  pub does : Does command r trace
  pub may : IsNoRefusal r.status
  pub leaves : MayLeave (way_of r.status).leave trace
  pub flies : Flies (way_of r.status).flight trace r.flight
  pub net : r.net ≡ net_left command r.status trace
  pub agreed : IfSome r.net (λ events. IsAgreed (state_of events))
  pub ends : Ends r (shape_of command) trace

-- THE RUN

-- each device past those of the shape keeps its images: two of the coordinator, and of each part two logs and its pages
abbrev pub AreOthersKept : Shape → (old new : View) → Type 0
AreOthersKept shape old new = IsTrue old.told → (dev : ℕ) → dev < old.count → 2 + 3 * shape.parts ≤ dev → Shrinks old new dev

abbrev pub ends_reading : Status → Bool
ends_reading ReadFault = true
ends_reading status = false

abbrev pub ends_writing : Status → Bool
ends_writing WriteFault = true
ends_writing status = false

-- Of disks that tell it is promised how a run goes; of others, which may give what was not written, only what is counted of it and
-- what it leaves alone.
pub record RunsAs (r : Run) (command : Command) : Type 0 where
  pub goes : IsTrue r.before.devices.told → FindsNothing r command ⊎ RunsOver r command
  pub source : FailsOnly (ends_reading r.status) r.before.source r.after.source
  pub sink : FailsOnly (ends_writing r.status) r.before.sink r.after.sink
  pub downs : Downs r.status r.before.devices.faults r.story r.after.devices.faults
  -- where no line arms pairs of messages, the story alone tells which stops were armed
  pub stops : IsTrue r.before.devices.told → over_net_of command ≡ false → Stops r.status (armed_behind r.story (Some r.before.devices.armed)) r.after.devices.armed
  pub shape : SameShape r.before.devices r.after.devices
  pub others : AreOthersKept (shape_of command) r.before.devices r.after.devices

-- each run is so
pub data Runs (r : Run) : Type 0 where
  says_nothing : r.command ≡ None → IsUsage r → Runs r
  runs_as : {command : Command} → r.command ≡ Some command → RunsAs r command → Runs r
