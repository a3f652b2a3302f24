-- The items of `show locks` and `show bases`.
use Rattle.salt_model.specs.After.{kept}
use Rattle.salt_model.specs.Kept.{cont_of}
use Rattle.salt_model.specs.Locks.{held, is_same_owner}
use Rattle.salt_model.specs.Trace.{Trace, over_events}
use Rattle.salt_model.specs.Units.{open_units}
use Rattle.salt_model.specs.Programs.{under_way, unreleased}
use Rattle.salt_model.specs.Reads.{is_finished}
use Rattle.salt_values.specs.Id.{in_order}
use Rattle.salt_model.specs.declared.events.Event.TheVariants.{Began}
use Rattle.salt_model.specs.declared.events.Owner.TheVariants.{Base, Unit}
use Rattle.salt_model.specs.declared.events.Owner.{Owner}
use Rattle.salt_model.specs.declared.events.UnitKind.TheVariants.{First}
use Rattle.salt_model.specs.declared.locks.Lock.{Lock}
use Rattle.salt_model.specs.declared.shown.BaseAt.TheVariants.{Next}
use Rattle.salt_model.specs.declared.shown.BaseAt.{BaseAt}
use Rattle.salt_model.specs.declared.shown.Item.{Item}
use Rattle.salt_values.specs.Id.{is_same_id}
use Rattle.salt_values.specs.declared.id.Id.{Id}
use Rattle.std.specs.List.{filter, flat_map}
use Rattle.std.specs.Prelude.{List, None, Some, [], if◌then◌else◌, map, ℕ, ◌++◌}

-- the locks of one owner, in the order in which their statements were done
abbrev pub locks_of : Trace → Owner → List Lock
locks_of trace owner = filter (λ l. is_same_owner owner l.owner) (held trace)

abbrev pub lock_items : Trace → List Item
lock_items trace =
    map Item.Lock (flat_map (λ b. locks_of trace (Base b)) (unreleased trace)) ++
    map Item.Lock (flat_map (λ u. locks_of trace (Unit u)) (in_order (open_units trace)))

-- the name of the program b, by its First unit
abbrev pub name_of_base : Id → Trace → List ℕ
name_of_base b = over_events (λ k. elim (cont_of b k.kept) [ None ↦ [] | Some c ↦ c.program ]) (λ trace e name. elim e
    [ Began u (First s c n args) ↦ (if is_same_id b c then n else name) | _ ↦ name ])

abbrev pub base_at_of : Trace → Id → BaseAt
base_at_of trace b = elim (cont_of b (kept trace)) [ Some c ↦ Next c.next | None ↦ (if is_finished trace b then BaseAt.Finished else BaseAt.First) ]

abbrev pub base_item : Trace → Id → Item
base_item trace b = Item.Base b (name_of_base b trace) (base_at_of trace b)

abbrev pub base_items : Trace → List Item
base_items trace = map (base_item trace) (under_way trace)
