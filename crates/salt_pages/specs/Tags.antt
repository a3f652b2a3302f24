-- A key's tag: its last byte, as it is spelled. Rows whose tags differ have different keys.
use Rattle.salt_bytes.specs.Page.{TableRow}
use Rattle.salt_bytes.specs.Values.{spell_value}
use Rattle.salt_pages.specs.Pages.{IsSpelled, page_rows}
use Rattle.salt_values.specs.Value.{key_of}
use Rattle.salt_values.specs.declared.value.Value.{Value}
use Rattle.std.specs.Prelude.{List, get_or, length, map, ℕ, ◌-◌, ◌≡◌}

abbrev pub tag_of : Value → ℕ
tag_of key = get_or (spell_value key) (length (spell_value key) - 1) 0

-- of a row's values
abbrev pub key_tag : List Value → ℕ
key_tag row = tag_of (key_of row)

abbrev pub row_tag : TableRow → ℕ
row_tag r = key_tag r.row

abbrev pub tags_of : List TableRow → List ℕ
tags_of rows = map row_tag rows

-- a page's bytes, the places of its rows and their tags, and where its free bytes begin
pub record IsTagged (bytes places tags : List ℕ) (free : ℕ) : Type 0 where
  pub spelled : IsSpelled bytes places free (page_rows bytes)
  pub tagged : tags ≡ tags_of (page_rows bytes)
