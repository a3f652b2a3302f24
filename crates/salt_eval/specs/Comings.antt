-- Entries of a map from the lower end of a range on.
use Rattle.salt_eval.specs.Views.{start_of}
use Rattle.salt_model.specs.Tables.{Entry, place_cmp}
use Rattle.salt_ranges.specs.declared.range.KeyRange.{KeyRange}
use Rattle.std.specs.BTreeMap.Range.{is_from_start}
use Rattle.std.specs.FinMap.Entries.{is_sorted}
use Rattle.std.specs.List.{list_all}
use Rattle.std.specs.Prelude.{List, None, true, ℕ, ◌≡◌}
use lib.Dec.{T}

-- entries in order, none of which is before the range
pub record AreComing (t : ℕ) (range : KeyRange) (es : List Entry) : Type 0 where
  pub in_order : T (is_sorted place_cmp es)
  pub begun : list_all (λ e. is_from_start place_cmp (start_of t range.lo None) e.0) es ≡ true
