-- How a run may end, by its status: one table.
use Rattle.salt_model.specs.Ends.{AnyPlace, AtDevices, AtLineEnd, AtOutput, InAnOpening, Leave, NotBegun}
use Rattle.salt_promise.specs.declared.status.Status.TheVariants.{Broken, DeviceFull, DiskFault, Done, Memory, NotSalt, NumbersSpent, OtherShape, ReadFault, ScriptTooLong, TranscriptTooLong, Unread, Usage, WriteFault}
use Rattle.salt_promise.specs.declared.status.Status.{Status}

-- which lines are done: all; those whose end was read; those that end within a script's most bytes; some first ones; or none
pub data Extent : Type 0 where
  AllLines : Extent
  LinesRead : Extent
  LinesWithin : Extent
  FirstLines : Extent
  NoLines : Extent

-- how much of the text is written: the whole; some front of it; a front that is not the whole
pub data Amount : Type 0 where
  Whole : Amount
  Front : Amount
  Short : Amount

-- whether the decision in flight is told: no; yes, if there is one; or one or the other
pub data Telling : Type 0 where
  Untold : Telling
  Told : Telling
  MayBeTold : Telling

pub record Way : Type 0 where
  pub leave : Leave
  pub lines : Extent
  pub text : Amount
  pub flight : Telling

abbrev pub way : Leave → Extent → Amount → Telling → Way
way leave lines text flight = record { leave = leave; lines = lines; text = text; flight = flight }

abbrev pub way_of : Status → Way
way_of Done = way AtLineEnd AllLines Whole Untold
way_of Memory = way AnyPlace FirstLines Front MayBeTold
way_of Usage = way NotBegun NoLines Whole Untold
way_of Broken = way NotBegun NoLines Whole Untold
way_of Unread = way NotBegun NoLines Whole Untold
way_of TranscriptTooLong = way NotBegun NoLines Whole Untold
way_of ReadFault = way AtLineEnd LinesRead Whole Untold
way_of WriteFault = way AtOutput FirstLines Short Told
way_of DiskFault = way InAnOpening FirstLines Whole Told
way_of (NotSalt dev) = way NotBegun NoLines Whole Untold
way_of (DeviceFull dev) = way AtDevices FirstLines Whole Told
way_of (OtherShape kept asked) = way NotBegun NoLines Whole Untold
way_of ScriptTooLong = way AtLineEnd LinesWithin Whole Untold
way_of (NumbersSpent boot decisions) = way InAnOpening FirstLines Whole Untold
