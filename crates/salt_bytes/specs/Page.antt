-- A page: its rows, each behind its table's number, and then zeros.
use Rattle.salt_values.specs.declared.value.Value.{Value}
use Rattle.salt_bytes.specs.Numbers.{spell_16, take_16}
use Rattle.salt_bytes.specs.Taking.{Take, give, take_bytes, take_each, then_take}
use Rattle.salt_bytes.specs.Values.{take_row, spell_values}
use Rattle.std.specs.List.{list_all, flat_map}
use Rattle.std.specs.Prelude.{Bool, List, None, Option, Some, length, option_map, replicate, ℕ, ◌++◌, ◌+◌, ◌*◌, ◌-◌, ◌==◌}
use Rattle.std.specs.Bool.{then_some}

abbrev pub page_length : ℕ
page_length = 8192

-- a row and its table's number
pub record TableRow : Type 0 where
  pub table : ℕ
  pub row : List Value

abbrev pub spell_table_row : TableRow → List ℕ
spell_table_row r = spell_16 r.table ++ spell_values r.row

abbrev pub take_table_row : Bool → Take TableRow
take_table_row nulls = then_take take_16 (λ table. then_take (take_row nulls) (λ row. give (record { table = table; row = row })))

abbrev pub page_front : List TableRow → List ℕ
page_front rows = spell_16 (length rows) ++ flat_map spell_table_row rows

-- the rows take at most a page's length
abbrev pub spell_page : List TableRow → List ℕ
spell_page rows = page_front rows ++ replicate (page_length - length (page_front rows)) 0

abbrev pub is_zero : ℕ → Bool
is_zero b = b == 0

-- nothing but zeros is left
abbrev pub if_zeros : {A : Type 0} → Option (A × List ℕ) → Option A
if_zeros None = None
if_zeros (Some taken) = then_some (list_all is_zero taken.1) taken.0

abbrev pub rows_in_page : Bool → List ℕ → Option (List TableRow)
rows_in_page nulls bytes = if_zeros (then_take take_16 (take_each (take_table_row nulls)) bytes)

-- the rows of a page that stands at the front of these bytes
abbrev pub take_page : Bool → Take (List TableRow)
take_page nulls = then_take (take_bytes page_length) (λ bytes rest. option_map (λ rows. (rows, rest)) (rows_in_page nulls bytes))

-- what `side` of page number `page` of a pages device spells
abbrev pub page_place : ℕ → ℕ → ℕ
page_place page side = (2 * page + side) * page_length
