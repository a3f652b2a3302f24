-- The tables of parts, as one.
use Rattle.salt_bytes.specs.Page.{TableRow}
use Rattle.salt_model.specs.Tables.{Entry, Tables, no_rows, put_row}
use Rattle.salt_values.specs.declared.change.Change.{Change}
use Rattle.std.specs.Prelude.{List, Some, [], ◌∷◌}
use Rattle.salt_values.specs.Value.{key_of}

-- a row of a page, as the change that puts it
abbrev pub change_of_row : TableRow → Change
change_of_row r = record { table = r.table; key = key_of r.row; row = Some r.row }

-- with these entries put
abbrev pub put_entries : List Entry → Tables → Tables
put_entries [] t = t
put_entries (e ∷ es) t = put_row e.0 e.1 (put_entries es t)

-- the rows of all of these tables, which have no place in common
unfoldable pub joined : List Tables → Tables
joined [] = no_rows
joined (t ∷ ts) = put_entries t.list (joined ts)
