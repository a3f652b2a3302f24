use Rattle.salt_files.proofs.file_disks.FileDisks.new.Given as goal
use Rattle.std.proofs.Common.{length, ◌≡◌}

abbrev pub invariant-loop-device : goal.invariant-loop-device
invariant-loop-device g l = length l.files.items ≡ l._device
