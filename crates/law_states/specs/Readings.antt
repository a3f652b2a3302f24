-- What is read off a state: whom a statement clashes with, the victim, who is served, what is due, what is shown.
use Rattle.law_states.specs.KeptLocks.{Numbered, Sooner, clash_in, is_owned_by}
use Rattle.law_states.specs.KeptSources.{IsDue, Through}
use Rattle.law_states.specs.KeptWaits.{served_in, victim_in}
use Rattle.law_states.specs.Members.{Ascends, In}
use Rattle.law_states.specs.OpenUnits.{OpenUnit, names_in}
use Rattle.law_states.specs.Refused.{UnderWay}
use Rattle.law_states.specs.States.{State}
use Rattle.law_states.specs.Told.{Beside, Items}
use Rattle.law_states.specs.UnitFacts.{reach_under}
use Rattle.law_states.specs.Watches.{Watch}
use Rattle.salt_ast.specs.declared.trees.Statement.{Statement}
use Rattle.salt_model.specs.Kept.{cont_of}
use Rattle.salt_model.specs.Locks.{family_of, owners_of}
use Rattle.salt_model.specs.Programs.{shares}
use Rattle.salt_model.specs.Units.{program_begun}
use Rattle.salt_model.specs.Words.{is_empty}
use Rattle.salt_model.specs.declared.events.Owner.{Owner}
use Rattle.salt_model.specs.declared.events.Owner.TheVariants.{Base, Unit}
use Rattle.salt_model.specs.declared.locks.Lock.{Lock}
use Rattle.salt_model.specs.declared.shown.BaseAt.{BaseAt}
use Rattle.salt_model.specs.declared.shown.BaseAt.TheVariants.{Finished, First, Next}
use Rattle.salt_model.specs.declared.shown.Item.{Item}
use Rattle.salt_values.specs.Id.{in_order}
use Rattle.salt_values.specs.declared.id.Id.{Id}
use Rattle.std.specs.List.{filter_map, flat_map}
use Rattle.std.specs.Prelude.{List, None, Some, if◌then◌else◌, length, map, not, true, ◌++◌, ◌↔◌, ◌≡◌}

-- what is computed of a watch, in whatever way: the programs that each comes to by kept pairs, those that are due, and each owner's
-- locks in the order taken
pub record WatchReading (w : Watch) : Type 0 where
  pub sources : Id → List Id
  pub due : List Id
  pub part : Owner → List Numbered
  pub closes : (c b : Id) → In b (sources c) ↔ Through w.dependencies.reads c b
  pub are_due : (b : Id) → In b due ↔ IsDue w.dependencies b
  pub rises : (o : Owner) → Ascends Sooner (part o)
  pub whose : (o : Owner) (n : Numbered) → In n (part o) ↔ (In n w.table × (is_owned_by o n.lock ≡ true))

abbrev pub locks_in : Watch → List Lock
locks_in w = map (λ (n : Numbered). n.lock) w.table

-- the owners whose locks clash with a statement of an open unit
abbrev pub clash_by : State → OpenUnit → Statement → List Owner
clash_by s o st = owners_of (clash_in (Unit o.unit) (family_of (Some o.kind)) (reach_under s.units.kept o st) (locks_in s.watch))

abbrev pub locks_by : {w : Watch} → WatchReading w → Owner → List Lock
locks_by x o = map (λ (n : Numbered). n.lock) (x.part o)

-- programs in their first part
abbrev pub first_parts : List OpenUnit → List Id
first_parts os = filter_map (λ (o : OpenUnit). program_begun o.kind) os

-- in their first part, or accepted and not released
abbrev pub under_way_by : State → List Id
under_way_by s = in_order (s.watch.programs ++ first_parts s.units.units)

-- where a program stands
abbrev pub base_at_by : State → Id → BaseAt
base_at_by s b = elim (cont_of b s.units.kept) [ Some c ↦ Next c.next | None ↦ (if s.watch.dependencies.finished b then Finished else First) ]

abbrev pub base_item_by : State → Id → Item
base_item_by s b = Item.Base b (s.names b) (base_at_by s b)

abbrev pub items_by : (s : State) → WatchReading s.watch → Items
items_by s x = record {
  locks =
      map Item.Lock (flat_map (λ b. locks_by x (Base b)) s.watch.programs) ++
      map Item.Lock (flat_map (λ u. locks_by x (Unit u)) (in_order (names_in s.units.units)));
  bases = map (base_item_by s) (under_way_by s);
}

abbrev pub beside_by : (s : State) → WatchReading s.watch → Beside
beside_by s x = record {
  clash = clash_by s;
  items = items_by s x;
  victim = victim_in s.watch.dependencies (locks_in s.watch) s.watch.waits x.sources;
  served = served_in (locks_in s.watch) s.watch.waits;
  due = in_order x.due;
}

abbrev pub under_way_of : State → UnderWay
under_way_of s = record {
  count = length (under_way_by s);
  holds = not (is_empty s.watch.programs);
  covers = shares s.units.named s.watch.programs;
  can_stop = s.can_stop;
  over_net = s.over_net;
}
