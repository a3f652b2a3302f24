-- The places that each program wrote, and what goes with a program.
use Rattle.law_states.specs.Members.{In}
use Rattle.salt_values.specs.Order.{id_cmp}
use Rattle.salt_model.specs.Tables.{place_cmp}
use Rattle.salt_model.specs.declared.places.Place.{Place}
use Rattle.salt_values.specs.Id.{is_same_id}
use Rattle.salt_values.specs.declared.id.Id.{Id}
use Rattle.std.specs.BTreeMap.{BTreeMap, get}
use Rattle.std.specs.Global.{Global}
use Rattle.std.specs.Prelude.{Bool, List, None, Option, Some, Vec, [], false, ◌≡◌, ◌⊎◌}

abbrev pub places_in : Option (Vec Place Global) → List Place
places_in None = []
places_in (Some places) = places.items

-- the places that a program wrote
abbrev pub places_at : BTreeMap Id (Vec Place Global) → Id → List Place
places_at places b = places_in (get id_cmp places b)

-- no place is missing in the list of its last writer
abbrev pub AreListed : BTreeMap Place Id → BTreeMap Id (Vec Place Global) → Type 0
AreListed last places = (q : Place) (b : Id) → get place_cmp last q ≡ Some b → (In q (places_at places b) → ⊥) → ⊥

abbrev pub is_writer : Id → Option Id → Bool
is_writer name None = false
is_writer name (Some b) = is_same_id b name

-- a program is the last writer of none of these places, and no other last writer has gone
pub record HasDropped (name : Id) (ps : List Place) (old new : Place → Option Id) : Type 0 where
  pub only : (q : Place) → (new q ≡ old q) ⊎ ((old q ≡ Some name) × (new q ≡ None))
  pub gone : (q : Place) → In q ps → new q ≡ Some name → ⊥
