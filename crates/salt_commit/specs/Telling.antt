-- Nodes are told the decision: what that needs, and what has been done of it.
use Rattle.salt_bytes.specs.Generations.{WhichLog}
use Rattle.salt_checkpoint.specs.Sides.{KeepsNamed}
use Rattle.salt_commit.specs.Again.{ReadsAs}
use Rattle.salt_commit.specs.Voting.{HasDoneNothing, HasReopenedAt, MayReopenAt}
use Rattle.salt_disk.specs.Disks.{FullWhere, HasCause, KeepsBut, View}
use Rattle.salt_disk.specs.declared.disks.DiskErr.{DiskErr}
use Rattle.salt_net.specs.Paces.{Pace, turning_of}
use Rattle.salt_net.specs.Turns.{commits}
use Rattle.salt_paged.specs.Partitions.{ArePartitions}
use Rattle.salt_paged.specs.declared.partition.Partition.{Partition}
use Rattle.salt_parts.specs.Openings.{IsPagesOf, decided_in}
use Rattle.salt_shares.specs.Applies.{AreSharesLast}
use Rattle.salt_shares.specs.Shares.{applied_with, share_at}
use Rattle.salt_stands.specs.CoordinatorLog.{CoordinatorLog}
use Rattle.salt_stands.specs.OpenedPart.{is_known_log}
use Rattle.salt_stands.specs.Partition.{pages_device}
use Rattle.salt_stands.specs.Pieces.{PartView}
use Rattle.salt_turns.specs.Amid.{IsOnTheWay, IsUnknown, Rests, first_of}
use Rattle.salt_values.specs.Id.{is_same_id}
use Rattle.salt_values.specs.declared.change.Change.{Change}
use Rattle.salt_values.specs.declared.id.Id.{Id}
use Rattle.std.specs.Prelude.{IfSome, IsTrue, List, None, Option, Some, [], false, length, option_map, slice_set, suc, true, ℕ, ◌<◌, ◌≡◌}

-- Partitions stand in which each share was prepared last, and with these shares applied they have what the coordinator's log decides.
pub record IsBehind (d : View) (parts : List Partition) (u : Id) (shares : List (List Change)) (which : WhichLog) (log : CoordinatorLog) (v : ℕ → PartView) (applied : ℕ → List Id) : Type 0 where
  pub reads : ReadsAs d which log
  pub are : ArePartitions d parts v applied
  pub last : AreSharesLast v applied u shares
  pub decided : (p : ℕ) → decided_in log p ≡ applied_with u (share_at shares p) (applied p)

-- and where the disks tell their bytes, the coordinator may have each log
pub record MayTell (d : View) (parts : List Partition) (u : Id) (shares : List (List Change)) : Type 0 where
  pub which : WhichLog
  pub log : CoordinatorLog
  pub v : ℕ → PartView
  pub applied : ℕ → List Id
  pub behind : IsBehind d parts u shares which log v applied
  pub known : IsTrue d.told → (p : ℕ) → p < length parts → is_known_log log.told.boot (decided_in log p) (v p).log ≡ true

-- whatever is answered: pages are written to sides that the headers do not name, and nothing else is
pub record HaveTold (d e : View) (was is : List Partition) (u : Id) (shares : List (List Change)) (answer : Option DiskErr) : Type 0 where
  pub named : (which : WhichLog) (log : CoordinatorLog) (v : ℕ → PartView) (applied : ℕ → List Id) → IsBehind d was u shares which log v applied → IsTrue d.told → (p : ℕ) → p < length was
      → KeepsNamed (v p).log.header.sides d e (pages_device p)
  pub others : KeepsBut (IsPagesOf (length was)) d e answer
  pub cause : HasCause d e answer
  pub full : IsTrue d.told → FullWhere (IsPagesOf (length was)) answer
  pub size : length is ≡ length was

-- ONE OF THEM is opened again: then nothing of its share is left

-- partition n is node n + 1
abbrev pub MayOpen : Option ℕ → View → List Partition → Type 0
MayOpen None d parts = Unit
MayOpen (Some p) d parts = (n : ℕ) × (p ≡ suc n) × MayReopenAt d parts n

pub record HasOpenedAt (d e : View) (was is : List Partition) (shares left : List (List Change)) (n : ℕ) (answer : Option DiskErr) : Type 0 where
  pub reopened : HasReopenedAt d e was is n answer
  pub done : answer ≡ None → left ≡ slice_set shares n []

abbrev pub DidOpen : Option ℕ → (d e : View) → (was is : List Partition) → (shares left : List (List Change)) → Option DiskErr → Type 0
DidOpen None d e was is shares left answer = HasDoneNothing d e was is answer × (left ≡ shares)
DidOpen (Some p) d e was is shares left answer = (n : ℕ) × (p ≡ suc n) × HasOpenedAt d e was is shares left n answer

-- THE TURNS of a unit with these nodes, where commits go over messages

-- they began so, and have come to this
abbrev pub HaveStarted : Id → List ℕ → (was is : Option Pace) → Type 0
HaveStarted u nodes None None = Unit
HaveStarted u nodes None (Some q) = ⊥
HaveStarted u nodes (Some n) None = ⊥
HaveStarted u nodes (Some n) (Some q) = IsOnTheWay u nodes (first_of u nodes n) q

-- they have ended
pub record HaveCommitted (u : Id) (nodes : List ℕ) (was is : Option Pace) : Type 0 where
  pub commits : option_map turning_of is ≡ option_map (commits u nodes) (option_map turning_of was)
  pub rests : IfSome is Rests
  -- of other units no more is known
  pub others : (w : Id) → is_same_id w u ≡ false → IfSome was (IsUnknown w) → IfSome is (IsUnknown w)
