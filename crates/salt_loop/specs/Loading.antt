-- What the run of a workload has to be: its story, and how far it came.
use Rattle.law_states.specs.States.{State}
use Rattle.salt_promise.specs.Workload.{load_lines}
use Rattle.salt_model.specs.Arming.{armed_by_lines}
use Rattle.salt_model.specs.Ends.{MayLeave}
use Rattle.salt_model.specs.Everywhere.{Each}
use Rattle.salt_model.specs.Played.{Tells}
use Rattle.salt_model.specs.Trace.{Asked, Start, Trace, Tree, lines_asked}
use Rattle.salt_model.specs.declared.events.Event.{Event}
use Rattle.salt_model.specs.declared.events.Flight.{Flight}
use Rattle.salt_promise.specs.Counting.{Stops}
use Rattle.salt_promise.specs.Doing.{IsFrontOf}
use Rattle.salt_promise.specs.declared.status.Status.{Status}
use Rattle.salt_promise.specs.declared.status.Status.TheVariants.{Broken, DeviceFull, DiskFault, Done, Memory, NotSalt, NumbersSpent, OtherShape, ReadFault, ScriptTooLong, TranscriptTooLong, Unread, Usage, WriteFault}
use Rattle.salt_loop.specs.Ending.{EndsFound}
use Rattle.salt_loop.specs.Run.{IsFlightAt, leave_of}
use Rattle.salt_stands.specs.Unspent.{OpensUnspent}
use Rattle.salt_driver.specs.Devices.{OnDevices}
use Rattle.salt_driver.specs.Serving.{ServesTrace}
use Rattle.std.specs.Prelude.{List, Option, Some, length, map, take, ℕ, [], ◌≡◌}

-- what the lines of the workload with so many calls ask
abbrev pub asked_by_load : ℕ → List Asked
asked_by_load calls = map Tree (load_lines calls)

-- what is asked in a run of the workload that ends so: all of its lines; the first of them where memory ran out, the devices end the run,
-- or what was done could not be written; or none, where it was not begun. It reads no script.
abbrev pub AreLoadLines : Status → ℕ → List Asked → Type 0
AreLoadLines Done calls lines = lines ≡ asked_by_load calls
AreLoadLines WriteFault calls lines = IsFrontOf lines (asked_by_load calls)
AreLoadLines Memory calls lines = IsFrontOf lines (asked_by_load calls)
AreLoadLines DiskFault calls lines = IsFrontOf lines (asked_by_load calls)
AreLoadLines (DeviceFull dev) calls lines = IsFrontOf lines (asked_by_load calls)
AreLoadLines (NumbersSpent boot decisions) calls lines = IsFrontOf lines (asked_by_load calls)
AreLoadLines (NotSalt dev) calls lines = lines ≡ []
AreLoadLines (OtherShape kept asked) calls lines = lines ≡ []
AreLoadLines Usage calls lines = ⊥
AreLoadLines Broken calls lines = ⊥
AreLoadLines Unread calls lines = ⊥
AreLoadLines TranscriptTooLong calls lines = ⊥
AreLoadLines ReadFault calls lines = ⊥
AreLoadLines ScriptTooLong calls lines = ⊥

-- a workload that was run: what is answered, what is told to be in flight, how many calls were asked for and lines done, and the story
pub record LoadRun : Type 0 where
  pub status : Status
  pub flight : Option Flight
  pub calls : ℕ
  pub done : ℕ
  pub story : List Event

abbrev pub load_run : Status → Option Flight → (calls done : ℕ) → List Event → LoadRun
load_run status flight calls done story = record { status = status; flight = flight; calls = calls; done = done; story = story }

-- The story is that of a trace which is played from this start, and whose lines are the workload's. Unless memory ran out, there are so
-- many of them. No opening goes on from spent numbers.
pub record IsPlayedLoad (start : Start) (r : LoadRun) : Type 0 where
  pub trace : Trace
  pub tells : Tells start trace r.story
  pub lines : AreLoadLines r.status r.calls (lines_asked trace)
  pub count : (r.status ≡ Memory → ⊥) → length (lines_asked trace) ≡ r.done
  pub leaves : MayLeave (leave_of r.status) trace
  pub flies : IsFlightAt r.status trace r.flight
  pub unspent : Each OpensUnspent trace

-- so ends the run of a workload from this start, where these were armed first, and last
abbrev pub EndsLoading : OnDevices → Start → LoadRun → (first armed : List (ℕ × ℕ)) → Type 0
EndsLoading devices start r first armed =
    (run : IsPlayedLoad start r) × EndsFound devices r.status run.trace × Stops r.status (armed_by_lines first run.trace) armed

-- a run of the workload of which so many lines are done
pub record IsLoading (stands_for : Option Event → State → Type 0) (start : Start) (calls done : ℕ) (story : List Event) (first armed : List (ℕ × ℕ)) : Type 0 where
  pub trace : Trace
  pub arms : armed_by_lines first trace ≡ Some armed
  pub serves : ServesTrace stands_for start story trace
  pub lines : lines_asked trace ≡ map Tree (take done (load_lines calls))
