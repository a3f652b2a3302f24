-- What a value of `Deps` shows.
use Rattle.salt_deps.specs.Maps.{sources_at}
use Rattle.salt_deps.specs.declared.group.Group.{Group}
use Rattle.salt_deps.specs.declared.readings.Readings.{Readings}
use Rattle.salt_model.specs.declared.places.Place.{Place}
use Rattle.salt_values.specs.Id.{is_same_id}
use Rattle.salt_values.specs.declared.id.Id.{Id}
use Rattle.std.specs.BTreeMap.{BTreeMap, keys}
use Rattle.std.specs.BTreeSet.{BTreeSet}
use Rattle.std.specs.List.{filter, flat_map, list_any}
use Rattle.std.specs.Prelude.{Bool, List, map, not, ◌&&◌, ◌++◌}

-- of each key that has one its last writer, in order of the keys; of each program that reads those from which it does; and the finished ones
pub record ShownDeps : Type 0 where
  pub writers : List (Place × Id)
  pub reads : List (Id × Id)
  pub finished : List Id

-- each of some programs beside those that are given for it
abbrev pub pairs_by : (Id → List Id) → List Id → List (Id × Id)
pairs_by given xs = flat_map (λ x. map (λ y. (x, y)) (given x)) xs

-- x stands beside y
abbrev pub has_pair : Id → Id → List (Id × Id) → Bool
has_pair x y pairs = list_any (λ p. is_same_id x p.0 && is_same_id y p.1) pairs

-- the pairs that came by reading
abbrev pub pairs_read : BTreeMap Id (BTreeSet Id) → List (Id × Id)
pairs_read sources = pairs_by (sources_at sources) (keys sources)

-- those of the group
abbrev pub pairs_among : Group → List (Id × Id)
pairs_among g = pairs_by (λ x. filter (λ y. not (is_same_id y x)) g.sources.keys) g.readers.keys

abbrev pub pairs_in : Readings → List (Id × Id)
pairs_in r = pairs_read r.links.sources ++ pairs_among r.group
