-- Partitions are asked for their votes: what that needs, what one of them does next, and what was done.
use Rattle.salt_bytes.specs.Generations.{WhichLog}
use Rattle.salt_bytes.specs.Partition.{spell_prepared}
use Rattle.salt_checkpoint.specs.Sides.{KeepsNamed}
use Rattle.salt_commit.specs.Again.{ReadsAs, StandsUnder}
use Rattle.salt_decisions.specs.Decisions.{IsBeforeOrWith}
use Rattle.salt_disk.specs.Disks.{EachImage, FullWhere, HasCause, IsUnchanged, KeepsAll, KeepsBut, KeepsOthers, View}
use Rattle.salt_disk.specs.declared.disks.DiskErr.TheVariants.{Full}
use Rattle.salt_disk.specs.declared.disks.DiskErr.{DiskErr}
use Rattle.salt_paged.specs.Partitions.{ArePartitions, IsPartition, log_device, log_gate, pages_of}
use Rattle.salt_paged.specs.Reopening.{AreDecided}
use Rattle.salt_paged.specs.declared.partition.Partition.{Partition}
use Rattle.salt_partition.specs.Partitions.{prepared}
use Rattle.salt_parts.specs.Openings.{IsPagesOf, decided_in}
use Rattle.salt_shares.specs.Prepares.{IsLogOfShares, IsShareLog, MayPrepareEach, OnePassesLimit, PassesLimit, StandsForShare}
use Rattle.salt_shares.specs.Shares.{MayPrepareShare, share_at, with_share}
use Rattle.salt_stands.specs.Coordinator.{device_of}
use Rattle.salt_stands.specs.CoordinatorLog.{CoordinatorLog}
use Rattle.salt_stands.specs.OpenedPart.{is_known_log}
use Rattle.salt_stands.specs.Partition.{pages_device, part_device}
use Rattle.salt_stands.specs.Pieces.{PartView}
use Rattle.salt_turns.specs.declared.coming.Next.TheVariants as next
use Rattle.salt_turns.specs.declared.coming.Next.{Next}
use Rattle.salt_values.specs.declared.change.Change.{Change}
use Rattle.salt_values.specs.declared.id.Id.{Id}
use Rattle.std.specs.Prelude.{IsTrue, List, None, Option, Some, length, slice_get, slice_set, suc, true, ℕ, ◌<◌, ◌≡◌, ◌⊎◌}

-- partitions stand under the coordinator's log in which each share may be prepared
pub record MayVoteAs (d : View) (parts : List Partition) (u : Id) (shares : List (List Change)) (which : WhichLog) (log : CoordinatorLog) (v : ℕ → PartView) : Type 0 where
  pub reads : ReadsAs d which log
  pub are : ArePartitions d parts v (decided_in log)
  pub may : MayPrepareEach v (decided_in log) u shares

-- and where the disks tell their bytes, the coordinator may have each log, with its share and without it
pub record MayVote (d : View) (parts : List Partition) (u : Id) (shares : List (List Change)) : Type 0 where
  pub which : WhichLog
  pub log : CoordinatorLog
  pub v : ℕ → PartView
  pub stand : MayVoteAs d parts u shares which log v
  pub known : IsTrue d.told → (p : ℕ) → p < length parts → is_known_log log.told.boot (decided_in log p) (v p).log ≡ true
  pub known_with : IsTrue d.told → (p : ℕ) → p < length parts → is_known_log log.told.boot (decided_in log p) (with_share u (share_at shares p) (v p)).log ≡ true

-- ONE OF THEM is opened again, or prepared

pub record MayReopenAt (d : View) (parts : List Partition) (n : ℕ) : Type 0 where
  pub x : Partition
  pub at : slice_get parts n ≡ Some x
  pub may : StandsUnder d x

pub record MayPrepareAt (d : View) (parts : List Partition) (u : Id) (shares : List (List Change)) (n : ℕ) : Type 0 where
  pub x : Partition
  pub at : slice_get parts n ≡ Some x
  pub may : StandsForShare d x u (share_at shares n)

-- it is as it was behind an error; its pages are written to sides that its header does not name
pub record HasReopenedAt (d e : View) (was is : List Partition) (n : ℕ) (answer : Option DiskErr) : Type 0 where
  pub x : Partition
  pub y : Partition
  pub at : slice_get was n ≡ Some x
  pub set : is ≡ slice_set was n y
  pub goes : answer ≡ None → (which : WhichLog) (log : CoordinatorLog) (p : ℕ) (v : PartView) (applied : List Id) → ReadsAs d which log → IsPartition d x p v applied → AreDecided applied (decided_in log p)
      → IsPartition e y p v (decided_in log p)
  pub gate : log_gate y ≡ log_gate x
  pub stays : (k : DiskErr) → answer ≡ Some k → y ≡ x
  pub images : (p : ℕ) (v : PartView) (applied : List Id) → IsPartition d x p v applied → IsTrue d.told → KeepsNamed v.log.header.sides d e (pages_of x)
  pub others : KeepsOthers (pages_of x) d e answer
  pub cause : HasCause d e answer
  pub full : FullWhere (λ dev. dev ≡ pages_of x) answer

pub record HasPreparedAt (d e : View) (was is : List Partition) (u : Id) (shares : List (List Change)) (n : ℕ) (answer : Option DiskErr) : Type 0 where
  pub x : Partition
  pub y : Partition
  pub at : slice_get was n ≡ Some x
  pub set : is ≡ slice_set was n y
  pub goes : answer ≡ None → (p : ℕ) (v : PartView) (applied : List Id) → IsPartition d x p v applied → MayPrepareShare v applied u (share_at shares n) → IsPartition e y p (with_share u (share_at shares n) v) applied
  pub images : (p : ℕ) (v : PartView) (applied : List Id) → IsPartition d x p v applied → EachImage e (log_device x) (IsBeforeOrWith (d.bytes (log_device x)) (spell_prepared (prepared u (share_at shares n))))
  pub others : KeepsBut (IsShareLog x (share_at shares n)) d e answer
  pub cause : HasCause d e answer
  pub full : FullWhere (PassesLimit d.limit x u (share_at shares n)) answer
  pub untouched : (k : ℕ) → answer ≡ Some (Full k) → IsUnchanged d e (log_device x)

pub record HasDoneNothing (d e : View) (was is : List Partition) (answer : Option DiskErr) : Type 0 where
  pub fine : answer ≡ None
  pub same : is ≡ was
  pub kept : KeepsAll d e None
  pub cause : HasCause d e None

-- partition n is node n + 1
abbrev pub MayDoNext : Next → View → List Partition → Id → List (List Change) → Type 0
MayDoNext (next.Restarts p) d parts u shares = (n : ℕ) × (p ≡ suc n) × MayReopenAt d parts n
MayDoNext (next.Prepares p) d parts u shares = (n : ℕ) × (p ≡ suc n) × MayPrepareAt d parts u shares n
MayDoNext _ d parts u shares = Unit

abbrev pub DidNext : Next → (d e : View) → (was is : List Partition) → Id → List (List Change) → Option DiskErr → Type 0
DidNext (next.Restarts p) d e was is u shares answer = (n : ℕ) × (p ≡ suc n) × HasReopenedAt d e was is n answer
DidNext (next.Prepares p) d e was is u shares answer = (n : ℕ) × (p ≡ suc n) × HasPreparedAt d e was is u shares n answer
DidNext _ d e was is u shares answer = HasDoneNothing d e was is answer

-- the share's entry of one of the partitions would pass the limit of its log, or the device has pages of one
abbrev pub VotesPassLimit : (limit : ℕ → ℕ) → List Partition → Id → List (List Change) → ℕ → Type 0
VotesPassLimit limit parts u shares dev = OnePassesLimit limit parts u shares dev ⊎ IsPagesOf (length parts) dev

-- it is the log of a partition that has a share, or has pages of one
abbrev pub IsVoteDevice : List Partition → List (List Change) → ℕ → Type 0
IsVoteDevice parts shares dev = IsLogOfShares parts shares (length parts) dev ⊎ IsPagesOf (length parts) dev

-- whatever is answered: each image of each partition's log has the entries from before, with its share's or without it, and the sides
-- that its header names have the bytes from before
pub record HaveVoted (d e : View) (was is : List Partition) (u : Id) (shares : List (List Change)) (answer : Option DiskErr) : Type 0 where
  pub images : (which : WhichLog) (log : CoordinatorLog) (v : ℕ → PartView) → MayVoteAs d was u shares which log v → (p : ℕ) → p < length was
      → EachImage e (device_of (part_device p) (v p).which) (IsBeforeOrWith (d.bytes (device_of (part_device p) (v p).which)) (spell_prepared (prepared u (share_at shares p))))
  pub named : (which : WhichLog) (log : CoordinatorLog) (v : ℕ → PartView) → MayVoteAs d was u shares which log v → IsTrue d.told → (p : ℕ) → p < length was → KeepsNamed (v p).log.header.sides d e (pages_device p)
  pub others : KeepsBut (IsVoteDevice was shares) d e answer
  pub cause : HasCause d e answer
  pub full : IsTrue d.told → FullWhere (VotesPassLimit d.limit was u shares) answer
  pub untouched : (k : ℕ) → answer ≡ Some (Full k) → IsLogOfShares was shares (length was) k → IsUnchanged d e k
  pub size : length is ≡ length was
