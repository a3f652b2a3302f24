-- A piece of a device in hand.
use Rattle.salt_disk.specs.Disks.{View, read_from}
use Rattle.salt_gatelog.specs.declared.block.Block.{Block}
use Rattle.std.specs.Prelude.{IsTrue, List, None, Option, Some, length, take, ℕ, ⊤, ◌<◌, ◌^◌, ◌≡◌, ◌≤◌}

-- It has what a read of the device gives there.
pub record IsPiece (device : List ℕ) (block : Block) : Type 0 where
  pub bytes : take block.count block.bytes.items ≡ read_from device block.from block.asked
  pub count : block.count ≡ length (read_from device block.from block.asked)
  pub small : 0 < block.count → length device < 2 ^ 64

-- Where the disks tell their bytes, it is a piece of this device.
pub record IsBlock (d : View) (dev : ℕ) (block : Block) : Type 0 where
  pub within : block.count ≤ length block.bytes.items
  pub piece : IsTrue d.told → IsPiece (d.bytes dev) block

-- It has no byte, and none was asked for.
pub record IsEmpty (block : Block) : Type 0 where
  pub asked : block.asked ≡ 0
  pub count : block.count ≡ 0

-- the piece that is kept, if one is
abbrev pub IsBlockOf : View → ℕ → Option Block → Type 0
IsBlockOf d dev None = ⊤
IsBlockOf d dev (Some block) = IsBlock d dev block

-- the piece that was kept, or an empty one
abbrev pub IsTaken : Option Block → Block → Type 0
IsTaken None block = IsEmpty block
IsTaken (Some kept) block = block ≡ kept
