-- What is found in a directory: the page of a place, and the next place of a range.
use Rattle.salt_eval.specs.Views.{start_of, tables_of}
use Rattle.salt_model.specs.Tables.{Entry, Tables, place_cmp}
use Rattle.salt_model.specs.Words.{first_of_list}
use Rattle.salt_model.specs.declared.places.Place.{Place}
use Rattle.salt_ranges.specs.Ranges.{has_key}
use Rattle.salt_ranges.specs.declared.range.KeyRange.{KeyRange}
use Rattle.salt_directory.specs.Pages.{page_of}
use Rattle.salt_directory.specs.declared.directory.Asked.{Asked}
use Rattle.salt_directory.specs.declared.directory.Standing.TheVariants.{Behind, On}
use Rattle.salt_directory.specs.declared.directory.Standing.{Standing}
use Rattle.salt_values.specs.declared.value.Value.{Value}
use Rattle.std.specs.BTreeMap.Range.{entries_between}
use Rattle.std.specs.Prelude.{Bool, IfSome, List, None, Option, Some, [], false, map, true, ℕ, ⊤, ◌&&◌, ◌<◌, ◌==◌, ◌∷◌, ◌≡◌}
use Rattle.std.specs.declared.ops.Bound.TheVariants.{Unbounded}

-- each page that it has is one of the first so many
abbrev pub HasPagesBelow : List (Place × ℕ) → ℕ → Type 0
HasPagesBelow directory count = (q : Place) (page : ℕ) → page_of directory q ≡ Some page → page < count

-- the first place at or above the lower end of a range, and behind a key, with its page
abbrev pub first_behind : ℕ → KeyRange → Option Value → List (Place × ℕ) → Option (Place × ℕ)
first_behind table range after directory = first_of_list (entries_between place_cmp (start_of table range.lo after) Unbounded directory)

-- what is found of a place: the page of the row there; or that there is none, and a page before it, if any
abbrev pub IsFound : List (Place × ℕ) → Place → Standing → Type 0
IsFound directory q (On page) = page_of directory q ≡ Some page
IsFound directory q (Behind before) = (page_of directory q ≡ None) × ((count : ℕ) → HasPagesBelow directory count → IfSome before (λ page. page < count))

-- what is kept of the place that was looked for last is found of it still
abbrev pub IsKnown : List (Place × ℕ) → Option Asked → Type 0
IsKnown directory None = ⊤
IsKnown directory (Some asked) = IsFound directory asked.place asked.standing

abbrev pub is_in : ℕ → KeyRange → Place → Bool
is_in table range q = (table == q.table) && has_key range q.key

-- it is the next one where it is of the table and in the range; else there is none
abbrev pub IsNextPlace : ℕ → KeyRange → Option (Place × ℕ) → Option (Value × ℕ) → Type 0
IsNextPlace table range None None = ⊤
IsNextPlace table range None (Some found) = ⊥
IsNextPlace table range (Some e) None = is_in table range e.0 ≡ false
IsNextPlace table range (Some e) (Some found) = (is_in table range e.0 ≡ true) × (found.0 ≡ e.0.key) × (found.1 ≡ e.1)

-- its places, as tables in which each row is its key alone
abbrev pub key_alone : Place × ℕ → Entry
key_alone e = (e.0, e.0.key ∷ [])

abbrev pub places_in : List (Place × ℕ) → Tables
places_in directory = tables_of (map key_alone directory)
