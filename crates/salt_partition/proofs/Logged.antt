-- The units that a partition's log spells.
use Rattle.salt_bytes.specs.Partition.{prepared_in}
use Rattle.salt_disk.specs.Disks.{View}
use Rattle.salt_codec.specs.Entries.{prepared_of}
use Rattle.salt_codec.specs.declared.prepared.PreparedUnit.{PreparedUnit}
use Rattle.salt_partition.proofs.Gathered.{got_at, logged_at, logged_count, past}
use Rattle.salt_partition.specs.Contents.{SpellsUnit}
use Rattle.salt_partition.specs.Partitions.{IsPartition, changes_in, unit_count}
use Rattle.salt_partition.specs.declared.partition.Partition.{Partition}
use Rattle.salt_stands.specs.Pieces.{PartView}
use Rattle.salt_values.specs.declared.id.Id.{Id}
use Rattle.std.proofs.Common.{Bool, IsTrue, List, None, Some, ap, arith, length, slice_get, suc, sym, ℕ, ◌+◌, ◌<◌, ◌≡◌, ◌≤◌, ◌∙◌}
use Rattle.std.specs.Prelude.{option_map, option_and_then}

module _ (d : View) (x : Partition) (p : ℕ) (v : PartView) (applied : List Id) (is : IsPartition d x p v applied) (told : IsTrue d.told) where
  -- the entry of a prepared unit
  pub entry_of : (i : ℕ) → i + 1 < length is.entries → option_and_then (prepared_in x.nulls) (slice_get is.entries (i + 1)) ≡ slice_get v.log.prepared i
  entry_of i low =
      ap (λ (nulls : Bool). option_and_then (prepared_in nulls) (slice_get is.entries (i + 1))) is.nulls ∙ logged_at p is.entries v.log (is.told told).reads i low

  pub count_of_units : length is.entries ≡ suc (length v.log.prepared)
  count_of_units = logged_count p is.entries v.log (is.told told).reads

  pub spells_at : (i : ℕ) → i < unit_count x → SpellsUnit d x.log x.nulls (i + 1)
  spells_at i low =
      let below : i + 1 < length is.entries = omega (arith, low, is.is_log.count) in
      let got = got_at v.log.prepared i (omega (arith, below, count_of_units)) in
      record { entries = is.entries; is_log = is.is_log; unit = got.0; spells = sym (entry_of i below ∙ got.1) }

  -- past the last one
  pub none_at : (i : ℕ) → unit_count x ≤ i → None ≡ option_map changes_in (slice_get v.log.prepared i)
  none_at i high = sym (ap (option_map changes_in) (past v.log.prepared i (omega (arith, high, is.is_log.count, count_of_units))))

  pub changes_at : (i : ℕ) (unit : PreparedUnit) → i < unit_count x → Some (prepared_of unit) ≡ option_and_then (prepared_in x.nulls) (slice_get is.entries (i + 1)) → Some unit.changes.items ≡ option_map changes_in (slice_get v.log.prepared i)
  changes_at i unit low reads = ap (option_map changes_in) (reads ∙ entry_of i (omega (arith, low, is.is_log.count)))
