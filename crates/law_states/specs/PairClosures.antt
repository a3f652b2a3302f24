-- Closures that compute: what one comes to from a list by steps, in rounds; and sources and due programs of kept pairs.
use Rattle.law_states.specs.KeptSources.{Dependencies}
use Rattle.law_states.specs.Members.{In}
use Rattle.salt_model.specs.Waiting.{WaitUnit, edges_in}
use Rattle.salt_model.specs.Words.{widened}
use Rattle.salt_values.specs.Id.{has_id}
use Rattle.salt_model.specs.declared.places.Place.{Place}
use Rattle.salt_values.specs.Id.{is_same_id}
use Rattle.salt_values.specs.declared.id.Id.{Id}
use Rattle.std.specs.List.{filter, list_all, list_any}
use Rattle.std.specs.Prelude.{Bool, List, Option, [], length, map, ◌&&◌, ◌∷◌}

-- steps lead from a to c
pub data Leads (steps : Id → List Id) : Id → Id → Type 0 where
  here : {a : Id} → Leads steps a a
  on : {a b c : Id} → In b (steps a) → Leads steps b c → Leads steps a c

-- a unit of the graph leads back to itself
abbrev pub LeadsBack : List WaitUnit → WaitUnit → Type 0
LeadsBack graph w = (v : Id) × In v w.edges × Leads (edges_in graph) v w.unit

pub record Pair : Type 0 where
  pub reader : Id
  pub source : Id

abbrev pub has_pair : List Pair → Id → Id → Bool
has_pair pairs x y = list_any (λ p. is_same_id x p.reader && is_same_id y p.source) pairs

abbrev pub sources_of : List Pair → Id → List Id
sources_of pairs b = map (λ p. p.source) (filter (λ p. is_same_id b p.reader) pairs)

-- b and all that it comes to
abbrev pub all_sources : List Pair → Id → List Id
all_sources pairs b = widened (sources_of pairs) (length pairs) (b ∷ [])

-- the finished programs that come to finished ones alone
abbrev pub due_in : List Pair → List Id → List Id
due_in pairs finished = filter (λ b. list_all (λ c. has_id c finished) (all_sources pairs b)) finished

-- what lists of pairs and of finished programs keep
abbrev pub dependencies_of : (Place → Option Id) → List Pair → List Id → Dependencies
dependencies_of writer pairs finished = record { writer = writer; reads = has_pair pairs; finished = λ b. has_id b finished }
