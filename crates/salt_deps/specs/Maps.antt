-- Who reads from whom, in a map from each reader to its sources, and who is listed at each source.
use Rattle.salt_values.specs.Order.{id_cmp}
use Rattle.salt_values.specs.Id.{has_id}
use Rattle.salt_values.specs.declared.id.Id.{Id}
use Rattle.std.specs.BTreeMap.{BTreeMap, get}
use Rattle.std.specs.BTreeSet.{BTreeSet}
use Rattle.std.specs.Global.{Global}
use Rattle.std.specs.Prelude.{Bool, List, None, Option, Some, Vec, []}

abbrev pub keys_in : Option (BTreeSet Id) → List Id
keys_in None = []
keys_in (Some names) = names.keys

abbrev pub items_in : Option (Vec Id Global) → List Id
items_in None = []
items_in (Some names) = names.items

-- the programs from which one reads
abbrev pub sources_at : BTreeMap Id (BTreeSet Id) → Id → List Id
sources_at sources x = keys_in (get id_cmp sources x)

-- the programs that are listed as the readers of one
abbrev pub readers_at : BTreeMap Id (Vec Id Global) → Id → List Id
readers_at readers y = items_in (get id_cmp readers y)

-- x reads from y
abbrev pub is_source : BTreeMap Id (BTreeSet Id) → Id → Id → Bool
is_source sources x y = has_id y (sources_at sources x)

-- x is listed as a reader of y
abbrev pub is_listed : BTreeMap Id (Vec Id Global) → Id → Id → Bool
is_listed readers x y = has_id x (readers_at readers y)
