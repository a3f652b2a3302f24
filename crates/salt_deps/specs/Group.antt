-- Who reads from whom: by pairs, and in the group.
use Rattle.salt_deps.specs.Maps.{is_source}
use Rattle.salt_deps.specs.declared.group.Group.{Group}
use Rattle.salt_deps.specs.declared.readings.Readings.{Readings}
use Rattle.salt_values.specs.Id.{has_id, is_same_id}
use Rattle.salt_values.specs.declared.id.Id.{Id}
use Rattle.std.specs.Prelude.{Bool, List, false, not, true, ◌&&◌, ◌||◌, ◌≡◌}

-- each of some programs reads from each other one of some
abbrev pub are_mutual : List Id → List Id → Id → Id → Bool
are_mutual readers sources x y = has_id x readers && (has_id y sources && not (is_same_id y x))

-- x reads from y in the group
abbrev pub is_mutual : Group → Id → Id → Bool
is_mutual g x y = are_mutual g.readers.keys g.sources.keys x y

-- x reads from y
abbrev pub reads_in : Readings → Id → Id → Bool
reads_in r x y = is_source r.links.sources x y || is_mutual r.group x y

-- a program is one of those that are told of one of the group, itself among them; where the group has been gone through, none is
abbrev pub is_told : Bool → List Id → List Id → Id → Id → Bool
is_told met ones others x y = not met && (has_id x ones && has_id y others)

-- a program reads from none that is not among these
abbrev pub ReadsAmong : (Id → Id → Bool) → List Id → Id → Bool → Type 0
ReadsAmong reads found b true = (y : Id) → reads b y ≡ true → has_id y found ≡ true
ReadsAmong reads found b false = (y : Id) × (reads b y ≡ true) × (has_id y found ≡ false)
