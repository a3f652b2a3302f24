-- Locks as they are shown.
use Rattle.law_states.specs.KeptLocks.{Numbered}
use Rattle.salt_locks.specs.Turns.{locks_in_turn}
use Rattle.salt_model.specs.declared.events.Owner.{Owner}
use Rattle.salt_model.specs.declared.shown.Item.{Item}
use Rattle.salt_values.specs.declared.id.Id.{Id}
use Rattle.std.specs.List.{flat_map}
use Rattle.std.specs.Prelude.{List, map}

abbrev pub shown : Numbered → Item
shown n = Item.Lock n.lock

-- an owner's locks, in the order taken
abbrev pub owned_by : List Numbered → Owner → List Item
owned_by table o = map shown (locks_in_turn o table)

abbrev pub owned_by_units : List Numbered → List Id → List Item
owned_by_units table us = flat_map (λ u. owned_by table (Owner.Unit u)) us

abbrev pub owned_by_bases : List Numbered → List Id → List Item
owned_by_bases table bs = flat_map (λ b. owned_by table (Owner.Base b)) bs
