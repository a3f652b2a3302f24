-- What is kept, seen by its tests.
use Rattle.law_states.specs.KeptSources.{Dependencies}
use Rattle.salt_deps.specs.Shown.{has_pair}
use Rattle.salt_deps.specs.declared.deps.Deps.{Deps}
use Rattle.salt_model.specs.Tables.{place_cmp}
use Rattle.salt_model.specs.declared.places.Place.{Place}
use Rattle.salt_values.specs.Id.{has_id}
use Rattle.salt_values.specs.declared.id.Id.{Id}
use Rattle.std.specs.BTreeMap.{BTreeMap, get, is_at}
use Rattle.std.specs.Map.{lookup}
use Rattle.std.specs.Prelude.{Bool, List}

abbrev pub kept_of : BTreeMap Place Id → (Id → Id → Bool) → List Id → Dependencies
kept_of writers read finished = record {
  writer = get place_cmp writers;
  reads = read;
  finished = λ b. has_id b finished;
}

abbrev pub dependencies : Deps → Dependencies
dependencies d = record {
  writer = λ q. lookup (is_at (place_cmp q)) d.writers;
  reads = λ x y. has_pair x y d.reads;
  finished = λ b. has_id b d.finished;
}
