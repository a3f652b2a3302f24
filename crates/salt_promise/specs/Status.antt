-- The exit status of each way in which a run ends.
use Rattle.salt_promise.specs.declared.status.Status.{Status}
use Rattle.salt_promise.specs.declared.status.Status.TheVariants.{Broken, DeviceFull, DiskFault, Done, Memory, NotSalt, NumbersSpent, OtherShape, ReadFault, ScriptTooLong, TranscriptTooLong, Unread, Usage, WriteFault}
use Rattle.std.specs.Prelude.{Bool, false, true, ℕ}

abbrev pub number_of : Status → ℕ
number_of Done = 0
number_of Memory = 1
number_of Usage = 2
number_of ReadFault = 3
number_of WriteFault = 4
number_of DiskFault = 5
number_of (NotSalt dev) = 6
number_of (DeviceFull dev) = 7
number_of (OtherShape kept asked) = 8
number_of ScriptTooLong = 9
number_of (NumbersSpent boot decisions) = 10
number_of Broken = 11
number_of Unread = 12
number_of TranscriptTooLong = 13

-- a run ends between two lines: it is done, its source failed, or its script is too long
abbrev pub ends_between : Status → Bool
ends_between Done = true
ends_between ReadFault = true
ends_between ScriptTooLong = true
ends_between status = false
