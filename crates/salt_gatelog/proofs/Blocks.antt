-- What is read out of a piece of a device is what the device has there.
use Rattle.salt_disk.specs.Disks.{IsRead, KeepsAll, View, read_from}
use Rattle.salt_disk.specs.declared.disks.DiskErr.{DiskErr}
use Rattle.salt_gatelog.specs.Block.{IsBlock, IsBlockOf, IsEmpty, IsPiece, IsTaken}
use Rattle.salt_gatelog.specs.declared.block.Block.{Block}
use Rattle.std.proofs.Common.{Err, IsTrue, List, None, Ok, OnOk, Option, Result, Some, ap, arith, drop, length, length-drop, length-take, subst, sym, take, ℕ, ◌+◌, ◌-◌, ◌<◌, ◌^◌, ◌≡◌, ◌≤◌, ◌∙◌}
use Rattle.std.proofs.lemmas.List.{drop-drop, drop-take, take-take}
use Rattle.std.specs.Prelude.{IfOk}
use Rattle.std.specs.Result.{result_err}

-- a short piece of a longer one
piece_of : (device : List ℕ) (from asked off room : ℕ) → off + room ≤ asked → take room (drop off (take asked (drop from device))) ≡ read_from device (from + off) room
piece_of device from asked off room fits =
    let left : asked ≡ off + (asked - off) = omega (arith, fits) in
    ap (λ (k : ℕ). take room (drop off (take k (drop from device)))) left
    ∙ ap (λ (l : List ℕ). take room l) (drop-take off (asked - off) (drop from device))
    ∙ take-take room (asked - off) (drop off (drop from device)) (omega (arith, fits))
    ∙ ap (λ (l : List ℕ). take room l) (drop-drop off from device)

module _ (device : List ℕ) (block : Block) (piece : IsPiece device block) (at : ℕ) (before after : List ℕ) (n : ℕ) (from : block.from ≤ at)
    (fits : at + length before ≤ block.from + block.asked) (read : IsRead (take block.count block.bytes.items) (at - block.from) before after n) where
  abbrev held : List ℕ
  held = take block.count block.bytes.items

  same : read_from held (at - block.from) (length before) ≡ read_from device at (length before)
  same =
      let place : block.from + (at - block.from) ≡ at = omega (arith, from) in
      ap (λ (l : List ℕ). take (length before) (drop (at - block.from) l)) piece.bytes
      ∙ piece_of device block.from block.asked (at - block.from) (length before) (omega (arith, from, fits))
      ∙ ap (λ (k : ℕ). take (length before) (drop k device)) place

  pub read_of : IsRead device at before after n
  read_of = record { count = read.count ∙ ap (λ (l : List ℕ). length l) same; bytes = read.bytes ∙ same }

  pub small_of : 0 < n → length device < 2 ^ 64
  small_of some =
      piece.small (omega (arith, some, read.count, length-take (length before) (drop (at - block.from) held), length-drop (at - block.from) held, length-take block.count block.bytes.items))

-- no byte is a piece of any device
pub empty_block : (d : View) (dev : ℕ) (block : Block) → IsEmpty block → IsBlock d dev block
empty_block d dev block is = record {
  within = omega (arith, is.count);
  piece = λ told. record {
    bytes = ap (λ (k : ℕ). take k block.bytes.items) is.count ∙ sym (ap (λ (k : ℕ). take k (drop block.from (d.bytes dev))) is.asked);
    count = omega (arith, is.count, is.asked, length-take block.asked (drop block.from (d.bytes dev)));
    small = λ some. absurd (omega (arith, some, is.count));
  };
}

-- the bytes that were read
pub filled_block : (d e : View) (dev : ℕ) (block : Block) (before : List ℕ) → KeepsAll d e None → block.count ≤ length block.bytes.items → block.asked ≡ length before
    → (IsTrue d.told → IsRead (d.bytes dev) block.from before block.bytes.items block.count) → (IsTrue d.told → length (d.bytes dev) < 2 ^ 64) → IsBlock e dev block
filled_block d e dev block before keeps within asked read small = record {
  within = within;
  piece = λ told.
      let was : IsTrue d.told = sym keeps.shape.told ∙ told in
      let room : read_from (d.bytes dev) block.from (length before) ≡ read_from (d.bytes dev) block.from block.asked = ap (λ (k : ℕ). read_from (d.bytes dev) block.from k) (sym asked) in
      subst (λ (f : List ℕ). IsPiece f block) (sym (keeps.kept dev (λ none. none)).bytes) (record { bytes = (read was).bytes ∙ room; count = (read was).count ∙ ap (λ (l : List ℕ). length l) room; small = λ some. small was });
}

-- a piece goes on where its device does
pub block_stays : (d e : View) (dev : ℕ) (block : Block) → e.told ≡ d.told → e.bytes dev ≡ d.bytes dev → IsBlock d dev block → IsBlock e dev block
block_stays d e dev block told bytes is = record { within = is.within; piece = λ now. subst (λ (f : List ℕ). IsPiece f block) (sym bytes) (is.piece (sym told ∙ now)) }

pub block_of_stays : (d e : View) (dev : ℕ) (block : Option Block) → e.told ≡ d.told → e.bytes dev ≡ d.bytes dev → IsBlockOf d dev block → IsBlockOf e dev block
block_of_stays d e dev None told bytes is = tt
block_of_stays d e dev (Some block) told bytes is = block_stays d e dev block told bytes is

pub taken_block : (d : View) (dev : ℕ) (kept : Option Block) (block : Block) → IsTaken kept block → IsBlockOf d dev kept → IsBlock d dev block
taken_block d dev None block is kept = empty_block d dev block is
taken_block d dev (Some kept) block is of = subst (IsBlock d dev) (sym is) of

-- behind a read of the device itself
pub stays_behind : {T : Type 0} (d e : View) (dev : ℕ) (block : Block) (r : Result T DiskErr) → KeepsAll d e (result_err r) → IsBlock d dev block → OnOk r (IsBlock e dev block)
stays_behind d e dev block (Ok x) keeps is = block_stays d e dev block keeps.shape.told (keeps.kept dev (λ none. none)).bytes is
stays_behind d e dev block (Err y) keeps is = tt

pub whatever_count : (r : Result ℕ DiskErr) (P : Type 0) → OnOk r P → IfOk r (λ n. 0 < n → P)
whatever_count (Ok n) P h = λ some. h
whatever_count (Err e) P h = tt
