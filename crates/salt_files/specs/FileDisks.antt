-- What contracts see of devices that are files.
use Rattle.std.specs.Prelude.{List, [], false, ℕ, ◌^◌}
use Rattle.salt_disk.specs.Disks.{View}

-- The files of a folder: its name, and the count of faults.
pub record Folder : Type 0 where
  pub name : List ℕ
  pub faults : ℕ

-- 26 devices of 2^40 bytes at most. Nothing is told of what is on them: there is no image that a fact could be about.
abbrev pub untold : Folder → View
untold folder = record {
  count = 26;
  limit = λ _. 2 ^ 40;
  can_stop = false;
  told = false;
  bytes = λ _. [];
  image = λ _ _. ⊥;
  faults = folder.faults;
  armed = [];
}
