-- Names that are marked.
use Rattle.salt_audit.specs.Order.{id_cmp}
use Rattle.salt_values.specs.Id.{has_id}
use Rattle.salt_values.specs.declared.id.Id.{Id}
use Rattle.std.specs.BTreeMap.{BTreeMap, get}
use Rattle.std.specs.Prelude.{Bool, List, is_some, ◌≡◌}

abbrev pub is_marked : Id → BTreeMap Id Bool → Bool
is_marked u marks = is_some (get id_cmp marks u)

-- these are marked, and no others
abbrev pub AreMarks : BTreeMap Id Bool → List Id → Type 0
AreMarks marks ids = (u : Id) → is_marked u marks ≡ has_id u ids
