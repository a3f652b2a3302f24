-- Why a run ends before its lines do, and with which status.
use Rattle.salt_disk.specs.declared.disks.DiskErr.TheVariants as disk
use Rattle.salt_disk.specs.declared.disks.DiskErr.{DiskErr}
use Rattle.salt_io.specs.declared.lines.LineErr.{LineErr}
use Rattle.salt_promise.specs.declared.status.Status.{Status}
use Rattle.salt_promise.specs.declared.status.Status.TheVariants as status
use Rattle.salt_loop.specs.declared.stop.Stop.TheVariants.{DeviceFull, DiskFault, Memory, NotSalt, NumbersSpent, OtherShape, ReadFault, ScriptTooLong, WriteFault}
use Rattle.salt_loop.specs.declared.stop.Stop.{Stop}
use Rattle.salt_storage.specs.declared.found.Numbers.{Numbers}
use Rattle.salt_storage.specs.declared.halt.Halt.TheVariants as halt
use Rattle.salt_storage.specs.declared.halt.Halt.{Halt}
use Rattle.salt_storage.specs.OpenErr.TheVariants as opening
use Rattle.salt_storage.specs.OpenErr.{OpenErr}
use Rattle.std.specs.Prelude.{Bool, Err, None, Ok, Option, Result, Some, false, true, ⊤}

abbrev pub stop_of : LineErr → Stop
stop_of LineErr.ReadFault = ReadFault
stop_of LineErr.ScriptTooLong = ScriptTooLong
stop_of LineErr.Memory = Memory

-- why a run ends that is broken off by this; a stop of the devices ends none, so what stands for it is free
abbrev pub stop_at : Halt → Stop
stop_at halt.Stopped = DiskFault
stop_at halt.DiskFault = DiskFault
stop_at (halt.DeviceFull dev) = DeviceFull dev
stop_at halt.Memory = Memory

abbrev pub stop_opening : OpenErr → Stop
stop_opening (opening.NotSalt dev) = NotSalt dev
stop_opening (opening.OtherShape kept asked) = OtherShape kept asked
stop_opening (opening.NumbersSpent boot decisions) = NumbersSpent boot decisions
stop_opening opening.Failed = DiskFault
stop_opening opening.Stopped = DiskFault
stop_opening (opening.Full dev) = DeviceFull dev
stop_opening opening.Memory = Memory

abbrev pub status_of : Stop → Status
status_of Memory = status.Memory
status_of ReadFault = status.ReadFault
status_of WriteFault = status.WriteFault
status_of DiskFault = status.DiskFault
status_of (NotSalt dev) = status.NotSalt dev
status_of (DeviceFull dev) = status.DeviceFull dev
status_of (OtherShape kept asked) = status.OtherShape kept asked
status_of ScriptTooLong = status.ScriptTooLong
status_of (NumbersSpent boot decisions) = status.NumbersSpent boot decisions

-- how a run ends whose opening ends so
abbrev pub status_opening : OpenErr → Status
status_opening e = status_of (stop_opening e)

-- how a run ends that is done, or stops
abbrev pub outcome : {T : Type 0} → Result T Stop → Status
outcome (Ok x) = status.Done
outcome (Err stop) = status_of stop

abbrev pub is_memory : Stop → Bool
is_memory Memory = true
is_memory stop = false

-- memory ran out there
abbrev pub ran_short : {T : Type 0} → Result T Stop → Bool
ran_short (Ok x) = false
ran_short (Err stop) = is_memory stop

-- what ends a run in a line or an opening, before anything is written of that
abbrev pub IsOfDevices : Stop → Type 0
IsOfDevices ReadFault = ⊥
IsOfDevices WriteFault = ⊥
IsOfDevices ScriptTooLong = ⊥
IsOfDevices stop = ⊤

-- behind what was found
abbrev pub IsLaterStop : Stop → Type 0
IsLaterStop Memory = ⊤
IsLaterStop DiskFault = ⊤
IsLaterStop (DeviceFull dev) = ⊤
IsLaterStop (NumbersSpent boot decisions) = ⊤
IsLaterStop stop = ⊥

-- or as a line is written
abbrev pub IsOfLine : Stop → Type 0
IsOfLine WriteFault = ⊤
IsOfLine stop = IsLaterStop stop

-- the answer of a device by which a run ends so
abbrev pub answer_of : Status → Option DiskErr
answer_of status.DiskFault = Some disk.Failed
answer_of (status.DeviceFull dev) = Some (disk.Full dev)
answer_of status.Memory = Some disk.Memory
answer_of s = None

-- the numbers that a status tells
abbrev pub numbers_of_status : Status → Option Numbers
numbers_of_status (status.NumbersSpent boot decisions) = Some (record { boot = boot; decisions = decisions })
numbers_of_status s = None
