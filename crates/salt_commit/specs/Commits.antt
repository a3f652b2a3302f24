-- What a unit needs to be committed, and what its commit touches.
use Rattle.salt_bytes.specs.Changes.{are_in_order}
use Rattle.salt_bytes.specs.Conts.{move_in}
use Rattle.salt_bytes.specs.Coordinator.{Decides, spell_entry}
use Rattle.salt_bytes.specs.Formats.{has_nulls}
use Rattle.salt_bytes.specs.Generations.{WhichLog}
use Rattle.salt_bytes.specs.Spellable.{Every}
use Rattle.salt_bytes.specs.declared.moves.Move.{Move}
use Rattle.salt_commit.specs.Shares.{mask_of, next_decision, shares_of}
use Rattle.salt_commit.specs.Stores.{IsStore, coordinator_device, coordinator_gate, decided_by, reading, shape_of_store}
use Rattle.salt_commit.specs.declared.store.Store.{Store}
use Rattle.salt_decisions.specs.Decisions as decisions
use Rattle.salt_disk.specs.Disks.{View}
use Rattle.salt_codec.specs.Entries.{CanBePut}
use Rattle.salt_model.specs.Kept.{Definition}
use Rattle.salt_values.specs.Id.{has_id}
use Rattle.salt_parts.specs.Openings.{IsPagesOf}
use Rattle.salt_shares.specs.Prepares.{IsLogOfShares, OnePassesLimit}
use Rattle.salt_stands.specs.Commits.{partition_count}
use Rattle.salt_stands.specs.Coordinator.{Coordinator, is_sound_cont}
use Rattle.salt_stands.specs.OpenConts.{conts_of_move, make_move}
use Rattle.salt_stands.specs.Partition.{is_sound_change, part_of_key}
use Rattle.salt_stands.specs.Pieces.{PartView, is_prepared_in, with_decision}
use Rattle.salt_stands.specs.Placed.{changes_at}
use Rattle.salt_stands.specs.Reading.{Reading}
use Rattle.salt_values.specs.declared.change.Change.{Change}
use Rattle.salt_values.specs.declared.cont.Cont.{Cont}
use Rattle.salt_values.specs.declared.id.Id.{Id}
use Rattle.std.specs.List.{list_all}
use Rattle.std.specs.Prelude.{Bool, IsTrue, List, Some, false, length, true, ℕ, ◌+◌, ◌<◌, ◌≡◌, ◌≤◌, ◌⊎◌}

-- the change is sound in the partition of its key
abbrev pub fits_its_part : {D : Type 0} → Reading D → Coordinator D → Change → Bool
fits_its_part r c ch = is_sound_change r c (part_of_key c.log.header.shape ch.key) ch

-- A unit that may be committed with these changes and this move, which leaves these continuations open. Where the disks do not tell
-- their bytes, nothing is asked of what stands there but names.
pub record MayCommitUnit {D : Type 0} (told : Bool) (r : Reading D) (c : Coordinator D) (v : ℕ → PartView) (u : Id) (cs : List Change) (mv : List ℕ) (m : Move) (conts : List Cont) : Type 0 where
  pub boot : IsTrue told → u.boot ≤ c.log.told.boot
  -- no entry and no decision names it
  pub fresh : (p : ℕ) → p < partition_count c → is_prepared_in u (v p).log.prepared ≡ false
  pub new : (p : ℕ) → p < partition_count c → has_id u (decided_by c p) ≡ false
  -- the changes are in order, each key once; each can be put; and each is of a table that is defined, and fits it
  pub ordered : are_in_order cs ≡ true
  pub fits : IsTrue told → list_all (fits_its_part r c) cs ≡ true
  pub put : (p : ℕ) → p < partition_count c → Every (CanBePut (has_nulls (v p).log.header.format)) (changes_at c.log.header.shape p cs)
  -- the move goes on from the open continuations
  pub spells : IsTrue told → move_in c.log.header.format mv ≡ Some m
  pub moves : IsTrue told → make_move c.conts m ≡ Some conts
  pub named : IsTrue told → list_all (is_sound_cont r c.definitions (with_decision c (next_decision c u cs mv) conts).log.told) (conts_of_move (Some m)) ≡ true

-- a store stands, and the unit may be committed
pub record StandsToCommit (d : View) (x : Store) (u : Id) (cs : List Change) (mv : List ℕ) : Type 0 where
  pub which : WhichLog
  pub c : Coordinator Definition
  pub v : ℕ → PartView
  pub m : Move
  pub conts : List Cont
  pub is : IsStore reading d x which c v
  pub may : MayCommitUnit d.told reading c v u cs mv m conts

-- the shares of a unit's changes in a store
abbrev pub shares_in : Store → List Change → List (List Change)
shares_in x cs = shares_of (shape_of_store x) cs

-- the device is the coordinator's log, or that of a partition which the unit changes
abbrev pub IsCommitLog : Store → List Change → ℕ → Type 0
IsCommitLog x cs dev = (dev ≡ coordinator_device x) ⊎ IsLogOfShares x.parts (shares_in x cs) (length x.parts) dev

-- or one with pages: a partition's are written when a unit is applied there, and when it is opened again
abbrev pub IsCommitDevice : Store → List Change → ℕ → Type 0
IsCommitDevice x cs dev = IsCommitLog x cs dev ⊎ IsPagesOf (shape_of_store x).parts dev

-- the decision's entry would pass the limit of the coordinator's log
pub record DecisionPassesLimit (limit : ℕ → ℕ) (x : Store) (u : Id) (cs : List Change) (mv : List ℕ) (dev : ℕ) : Type 0 where
  pub device : dev ≡ coordinator_device x
  pub over : limit dev < coordinator_gate x + 10 + length (spell_entry (Decides (decisions.next_decision x.decisions u (mask_of (shares_in x cs)) mv)))

-- where an entry would pass the limit of its log, or a device with pages is full
abbrev pub UnitPassesLimit : (limit : ℕ → ℕ) → Store → Id → List Change → List ℕ → ℕ → Type 0
UnitPassesLimit limit x u cs mv dev = DecisionPassesLimit limit x u cs mv dev ⊎ (OnePassesLimit limit x.parts u (shares_in x cs) dev ⊎ IsPagesOf (shape_of_store x).parts dev)
