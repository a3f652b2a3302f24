-- Pages spelled and read back.
use Rattle.salt_bytes.specs.Values.{spell_values}
use Rattle.salt_bytes.specs.Page.{TableRow, page_front, rows_in_page, spell_page}
use Rattle.salt_directory.specs.Bytes.{row_bytes}
use Rattle.salt_directory.specs.Pages.{free_on}
use Rattle.salt_values.specs.declared.value.Value.TheVariants.{Int, Null, Text}
use Rattle.salt_values.specs.declared.value.Value.{Value}
use Rattle.std.specs.Prelude.{List, None, Some, [], codes, false, length, pos, refl, replicate, take, true, ◌+◌, ◌++◌, ◌∷◌, ◌≡◌}

-- THE LONGEST ROW: 16 texts of 255 bytes

abbrev pub longest : List Value
longest = replicate 16 (Text (replicate 255 97))

abbrev pub one_longest : List TableRow
one_longest = record { table = 0; row = longest } ∷ []

longest_takes : length (spell_values longest) ≡ 4113
longest_takes = refl

-- on a page it takes two bytes more, for its table
on_a_page : row_bytes longest ≡ 4115
on_a_page = refl

front_of_it : length (page_front one_longest) ≡ 2 + 4115
front_of_it = refl

free_behind_it : free_on one_longest ≡ 4075
free_behind_it = refl

free_on_none : free_on [] ≡ 8190
free_on_none = refl

longest_page : length (spell_page one_longest) ≡ 8192
longest_page = refl

longest_read : rows_in_page true (spell_page one_longest) ≡ Some one_longest
longest_read = refl

-- A PAGE of three rows of two tables, one of them with a NULL

abbrev pub three : List TableRow
three = record { table = 0; row = Int (pos 2) ∷ Int (pos 5) ∷ [] } ∷ record { table = 1; row = Text (codes "k") ∷ Null ∷ [] } ∷ record { table = 0; row = Int (pos 4) ∷ Int (pos 6) ∷ [] } ∷ []

three_begin : take 28 (spell_page three) ≡ 0 ∷ 3 ∷ 0 ∷ 0 ∷ 2 ∷ 1 ∷ replicate 7 0 ++ 2 ∷ 1 ∷ replicate 7 0 ++ 5 ∷ 0 ∷ 1 ∷ 2 ∷ 2 ∷ 1 ∷ []
three_begin = refl

three_read : rows_in_page true (spell_page three) ≡ Some three
three_read = refl

-- where NULL is not spelled, it is no page
three_without_null : rows_in_page false (spell_page three) ≡ None
three_without_null = refl

empty_page : spell_page [] ≡ replicate 8192 0
empty_page = refl

empty_read : rows_in_page true (replicate 8192 0) ≡ Some []
empty_read = refl
