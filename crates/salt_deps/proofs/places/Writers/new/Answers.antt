use Rattle.salt_deps.proofs.Writing.{none-some}
use Rattle.salt_deps.proofs.places.Writers.new.Goals as goal
use Rattle.salt_model.specs.Tables.{place_cmp}
use Rattle.salt_model.specs.declared.places.Place.{Place}
use Rattle.salt_values.specs.declared.id.Id.{Id}
use Rattle.std.proofs.Common.{List, ap}
use Rattle.std.specs.BTreeMap.{get, is_at}
use Rattle.std.specs.Map.{lookup}

pub returns : goal.returns
returns c q = ap (λ (es : List (Place × Id)). lookup (is_at (place_cmp q)) es) c.new.ensures.empty

pub invariant_of-result : goal.invariant_of-result
invariant_of-result c = record { listed = λ q b h. absurd (none-some b (get place_cmp c.new.result q) (ap (λ (es : List (Place × Id)). lookup (is_at (place_cmp q)) es) c.new.ensures.empty) h) }
