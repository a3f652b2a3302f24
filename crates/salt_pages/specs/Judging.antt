-- What is found of bytes that may spell a page, or its rows.
use Rattle.salt_bytes.specs.Page.{TableRow, rows_in_page, spell_table_row, take_table_row}
use Rattle.salt_bytes.specs.Spellable.{Every, IsSpellablePage, IsSpellableTableRow}
use Rattle.salt_bytes.specs.Taking.{take_each}
use Rattle.salt_pages.specs.Pages.{IsSpelled, places_from}
use Rattle.salt_pages.specs.Tags.{tags_of}
use Rattle.std.specs.List.{flat_map}
use Rattle.std.specs.Prelude.{Bool, List, None, Option, Some, length, ℕ, ◌++◌, ◌≡◌}

-- where a page's rows begin, their tags, and where its free bytes begin; None exactly where the bytes spell no page
abbrev pub IsJudged : Bool → List ℕ → Option (List ℕ × List ℕ × ℕ) → Type 0
IsJudged nulls bytes None = rows_in_page nulls bytes ≡ None
IsJudged nulls bytes (Some found) = (rows : List TableRow) × (rows_in_page nulls bytes ≡ Some rows) × IsSpelled bytes found.0 found.2 rows × IsSpellablePage nulls rows × (found.1 ≡ tags_of rows)

-- rows that stand at the front of bytes, and what is left behind them
pub record AreRows (nulls : Bool) (count : ℕ) (bytes places tags rest : List ℕ) : Type 0 where
  pub rows : List TableRow
  pub taken : take_each (take_table_row nulls) count bytes ≡ Some (rows, rest)
  pub spelled : bytes ≡ flat_map spell_table_row rows ++ rest
  pub good : Every (IsSpellableTableRow nulls) rows
  pub begins : places ≡ places_from 2 rows
  pub tagged : tags ≡ tags_of rows
  pub number : length rows ≡ count

-- so many rows are looked for, and these bytes are left; None exactly where so many do not stand there
abbrev pub AreJudged : Bool → ℕ → List ℕ → List ℕ → List ℕ → Option (List ℕ) → Type 0
AreJudged nulls count bytes places tags None = take_each (take_table_row nulls) count bytes ≡ None
AreJudged nulls count bytes places tags (Some rest) = AreRows nulls count bytes places tags rest
