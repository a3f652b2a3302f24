-- Rows of a range that are loaded from all partitions.
use Rattle.salt_directory.specs.Loading.{part_of}
use Rattle.salt_loaded.specs.Rows.{RowsOf, are_apart, tables_in, with_rows}
use Rattle.salt_model.specs.Tables.{Tables}
use Rattle.salt_ranges.specs.declared.range.KeyRange.{KeyRange}
use Rattle.salt_values.specs.declared.value.Value.{Value}
use Rattle.std.specs.Prelude.{List, [], suc, true, zero, ℕ, ◌++◌, ◌<◌, ◌≡◌}

abbrev pub all_of : (ℕ → List (List Value)) → ℕ → List (List Value)
all_of more zero = []
all_of more (suc n) = all_of more n ++ more n

-- of each partition the rows in the range came, each once, one partition behind the other
pub record HaveAllLoaded (range : KeyRange) (tables : ℕ → Tables) (count : ℕ) (old new : RowsOf) : Type 0 where
  pub more : ℕ → List (List Value)
  pub came : new ≡ with_rows (all_of more count) old
  pub each : (p : ℕ) → p < count → (are_apart (more p) ≡ true) × (tables_in old.table (more p) ≡ part_of old.table range (tables p))
