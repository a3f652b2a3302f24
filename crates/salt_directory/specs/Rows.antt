-- Rows that are found on a page, and what calls make of one.
use Rattle.salt_bytes.specs.Page.{TableRow}
use Rattle.salt_bytes.specs.Values.{spell_values}
use Rattle.salt_directory.specs.Pages.{free_on}
use Rattle.salt_directory.specs.declared.page.Replaced.TheVariants.{Gone, Missing, Put}
use Rattle.salt_directory.specs.declared.page.Replaced.{Replaced}
use Rattle.salt_pages.specs.Pages.{IsRowOf, used_by}
use Rattle.salt_values.specs.declared.value.Value.{Value}
use Rattle.std.specs.List.{remove}
use Rattle.std.specs.Prelude.{List, None, Option, Some, [], length, slice_get, ℕ, ◌+◌, ◌++◌, ◌<◌, ◌∷◌, ◌≡◌}

-- the row of a key among these; none exactly where there is none
abbrev pub IsRowFound : ℕ → Value → List TableRow → Option (List Value) → Type 0
IsRowFound table key rows None = (i : ℕ) (r : TableRow) → slice_get rows i ≡ Some r → IsRowOf table key r → ⊥
IsRowFound table key rows (Some row) = (i : ℕ) × (r : TableRow) × (slice_get rows i ≡ Some r) × IsRowOf table key r × (r.row ≡ row)

-- without a row of this key
pub record IsWithout (table : ℕ) (key : Value) (old new : List TableRow) : Type 0 where
  pub at : ℕ
  pub row : TableRow
  pub there : slice_get old at ≡ Some row
  pub of : IsRowOf table key row
  pub is : new ≡ remove old at

-- with this row instead of one of this key, wherever it stands among the others, which stay as they are
pub record IsExchanged (table : ℕ) (key : Value) (row : List Value) (old new : List TableRow) : Type 0 where
  pub front : List TableRow
  pub back : List TableRow
  pub others : IsWithout table key old (front ++ back)
  pub is : new ≡ front ++ record { table = table; row = row } ∷ back

abbrev pub one_row : ℕ → Option (List Value) → List TableRow
one_row table None = []
one_row table (Some row) = record { table = table; row = row } ∷ []

-- what became of a page where the row of a key was to be replaced by this
abbrev pub IsReplaced : ℕ → Value → Option (List Value) → List TableRow → List TableRow → Replaced → Type 0
IsReplaced table key row old new (Put free) = ((own : List Value) × (row ≡ Some own) × IsExchanged table key own old new) × (free ≡ free_on new)
IsReplaced table key row old new (Gone free) = IsWithout table key old new × (free ≡ free_on new)
IsReplaced table key row old new Missing = (new ≡ old) × IsRowFound table key old None

-- what became of a page on which this row was to be put
abbrev pub IsPut : ℕ → List Value → List TableRow → List TableRow → Option ℕ → Type 0
IsPut table row old new (Some free) = (new ≡ old ++ one_row table (Some row)) × (free ≡ free_on new)
IsPut table row old new None = (new ≡ old) × (8190 < used_by old + (2 + length (spell_values row)))
