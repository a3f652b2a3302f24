use Rattle.salt_bytes.specs.Spellable.{Every}
use Rattle.salt_codec.specs.Entries.{CanBePut}
use Rattle.salt_devices.proofs.fits.can_be_written.Given as goal
use Rattle.std.proofs.Common.{take, true}

abbrev pub invariant-loop-change : goal.invariant-loop-change
invariant-loop-change l = Every (CanBePut true) (take l.change-index l.changes)
