-- A state by lists, which computes: locks in the order taken, last writers by key, pairs, finished programs.
use Rattle.law_states.specs.KeptLocks.{AreBelow, Numbered, Sooner}
use Rattle.law_states.specs.KeptPrograms.{unreleased_after}
use Rattle.law_states.specs.KeptSources.{given_up, unless_among}
use Rattle.law_states.specs.KeptWaits.{Asker}
use Rattle.law_states.specs.Members.{Ascends}
use Rattle.law_states.specs.OpenUnits.{UnitState}
use Rattle.law_states.specs.Overlays.{Edit}
use Rattle.law_states.specs.PairClosures.{Pair, dependencies_of}
use Rattle.law_states.specs.States.{State, name_at, named_by, net_by}
use Rattle.law_states.specs.Steps.{units_after, units_asked, units_at, units_turned}
use Rattle.law_states.specs.UnitFacts.{UnitFacts, facts_in}
use Rattle.law_states.specs.WatchSteps.{base_by, counted_by, first_by, table_by, waits_by}
use Rattle.law_states.specs.Watches.{Watch}
use Rattle.salt_model.specs.Tables.{is_within, place_cmp}
use Rattle.salt_model.specs.Trace.{Asked, Start, Trace, from, ◌asks◌, ◌says◌, ◌turns◌}
use Rattle.salt_model.specs.declared.events.End.TheVariants.{Committed}
use Rattle.salt_model.specs.declared.events.Event.{Event}
use Rattle.salt_model.specs.declared.events.Event.TheVariants.{Did, Early, Ended, Finished, Ready, Released}
use Rattle.salt_model.specs.declared.locks.Reach.{Reach}
use Rattle.salt_model.specs.declared.places.Place.{Place}
use Rattle.salt_net.specs.Turns.{Turning}
use Rattle.salt_place.specs.declared.placement.Shape.{Shape}
use Rattle.salt_stands.specs.Turning.{no_turns}
use Rattle.salt_values.specs.Id.{has_id, in_order, is_same_id, without}
use Rattle.salt_values.specs.declared.cont.Cont.{Cont}
use Rattle.salt_values.specs.declared.id.Id.{Id}
use Rattle.std.specs.Bool.{then_some}
use Rattle.std.specs.FinMap.Entries.{find, where_key}
use Rattle.std.specs.List.{filter, filter_map, flat_map}
use Rattle.std.specs.Prelude.{Bool, List, None, Option, Some, [], if◌then◌else◌, is_some, map, not, option_and_then, ℕ, ◌&&◌, ◌++◌, ◌∷◌}

pub record PlainWatch : Type 0 where
  pub table : List Numbered
  pub taken : ℕ
  pub waits : List Asker
  pub programs : List Id
  pub writers : List (Place × Id)
  pub pairs : List Pair
  pub finished : List Id

abbrev pub writer_in : List (Place × Id) → Place → Option Id
writer_in ws p = find place_cmp p ws

abbrev pub watch_of : PlainWatch → Watch
watch_of w = record {
  table = w.table;
  taken = w.taken;
  waits = w.waits;
  programs = w.programs;
  dependencies = dependencies_of (writer_in w.writers) w.pairs w.finished;
}

abbrev pub writers_by : Option Id → List Edit → List (Place × Id)
writers_by None ds = []
writers_by (Some b) ds = map (λ (d : Edit). (d.0, b)) ds

abbrev pub writers_after : UnitFacts → Event → List (Place × Id) → List (Place × Id)
writers_after f (Ended u (Committed n)) ws =
    writers_by (base_by f) f.changes ++ where_key place_cmp (λ p. not (is_some (find place_cmp p f.changes))) ws
writers_after f (Released bs) ws = where_key place_cmp (λ p. is_some (unless_among bs (writer_in ws p))) ws
writers_after f Ready ws = []
writers_after f (Early bs) ws = []
writers_after f e ws = ws

-- a program reads what another wrote last
abbrev pub pair_with : Id → Id → Option Pair
pair_with b y = then_some (not (is_same_id y b)) (record { reader = b; source = y })

abbrev pub pair_at : Id → Reach → List (Place × Id) → Place × Id → Option Pair
pair_at b r ws w = if is_within r w.0 then option_and_then (pair_with b) (writer_in ws w.0) else None

abbrev pub pairs_read : Option Id → Option Reach → List (Place × Id) → List Pair
pairs_read (Some b) (Some r) ws = filter_map (pair_at b r ws) ws
pairs_read b r ws = []

-- each of these with each other
abbrev pub pairs_among : List Id → List Pair
pairs_among bs = flat_map (λ x. filter_map (pair_with x) bs) bs

abbrev pub pairs_after : UnitFacts → Event → List (Place × Id) → List Pair → List Pair
pairs_after f (Did u st a) ws ps = pairs_read (base_by f) f.reach ws ++ ps
pairs_after f (Ended u end) ws ps = filter (λ p. not (has_id p.reader (given_up end (first_by f)))) ps
pairs_after f (Released bs) ws ps = filter (λ p. not (has_id p.reader bs) && not (has_id p.source bs)) ps
pairs_after f Ready ws ps = []
pairs_after f (Early bs) ws ps = pairs_among bs
pairs_after f e ws ps = ps

abbrev pub finished_after : Event → List Id → List Id
finished_after (Finished c) bs = c ∷ bs
finished_after (Released cs) bs = without cs bs
finished_after Ready bs = []
finished_after (Early cs) bs = []
finished_after e bs = bs

abbrev pub watch_after : UnitFacts → Event → PlainWatch → PlainWatch
watch_after f e w = record {
  table = table_by f w.taken e w.table;
  taken = counted_by f e w.taken;
  waits = waits_by f e w.waits;
  programs = unreleased_after e w.programs;
  writers = writers_after f e w.writers;
  pairs = pairs_after f e w.writers w.pairs;
  finished = finished_after e w.finished;
}

pub record PlainState : Type 0 where
  pub units : UnitState
  pub watch : PlainWatch
  pub names : Id → List ℕ
  pub can_stop : Bool
  pub over_net : Bool
  pub net : Shape → Turning

abbrev pub as_state : PlainState → State
as_state p = record { units = p.units; watch = watch_of p.watch; names = p.names; can_stop = p.can_stop; over_net = p.over_net; net = p.net }

-- the state after an event, computed
abbrev pub state_after : Event → PlainState → PlainState
state_after e p = record {
  units = units_after e p.units;
  watch = watch_after (facts_in p.units e) e p.watch;
  names = named_by e p.names;
  can_stop = p.can_stop;
  over_net = p.over_net;
  net = net_by e p.units p.net;
}

-- after a line, and after a turn of `go all`
abbrev pub state_asked : Asked → PlainState → PlainState
state_asked asked p = record p { units = units_asked asked p.units }

abbrev pub state_turned : Id → PlainState → PlainState
state_turned b p = record p { units = units_turned b p.units }

-- at a start: the programs that go on are not released, and nothing else is watched
abbrev pub state_at : Start → PlainState
state_at k = record {
  units = units_at k.kept k.early;
  watch = record {
    table = [];
    taken = 0;
    waits = [];
    programs = in_order (map (λ (c : Cont). c.base) k.kept.conts);
    writers = [];
    pairs = [];
    finished = [];
  };
  names = name_at k;
  can_stop = k.can_stop;
  over_net = k.over_net;
  net = λ shape. no_turns;
}

-- the state that goes along with a trace
abbrev pub state_of : Trace → PlainState
state_of (from k) = state_at k
state_of (trace asks asked) = state_asked asked (state_of trace)
state_of (trace turns b) = state_turned b (state_of trace)
state_of (trace says e) = state_after e (state_of trace)

-- locks are in the order taken, and numbers stay below the next one
pub record IsInTurn (w : PlainWatch) : Type 0 where
  pub rises : Ascends Sooner w.table
  pub below : AreBelow w.taken w.table
