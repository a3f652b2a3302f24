-- The names of units that are held.
use Rattle.salt_books.specs.declared.held.Held.{Held}
use Rattle.salt_values.specs.Id.{is_same_id}
use Rattle.salt_values.specs.declared.id.Id.{Id}
use Rattle.std.specs.List.{find}
use Rattle.std.specs.Prelude.{Bool, List, None, Option, Some, get_or, length, map, ℕ, ◌<◌, ◌≡◌}

abbrev pub names_held : List Held → List Id
names_held hs = map (λ (h : Held). h.open.unit) hs

abbrev pub has_name : Id → Held → Bool
has_name u h = is_same_id h.open.unit u

-- where the first unit of a name stands, if there is one
abbrev pub IsPlaceOf : Id → List Held → Option ℕ → Type 0
IsPlaceOf u hs (Some at) = (at < length hs) × ((d : Held) → find (has_name u) hs ≡ Some (get_or hs at d))
IsPlaceOf u hs None = find (has_name u) hs ≡ None
