-- The state of an engine: units and tables, locks, waits, sources, releases, messages; and what an event, a line and a turn make of it.
use Rattle.law_states.specs.Keeps.{KeepsUnits}
use Rattle.law_states.specs.KeptSources.{no_dependencies}
use Rattle.law_states.specs.OpenUnits.{UnitState}
use Rattle.law_states.specs.Steps.{units_after, units_asked, units_at, units_turned}
use Rattle.law_states.specs.UnitFacts.{facts_in}
use Rattle.law_states.specs.WatchSteps.{WatchChange}
use Rattle.law_states.specs.Watches.{Watch, Watches}
use Rattle.salt_model.specs.Kept.{cont_of}
use Rattle.salt_model.specs.Shown.{name_of_base}
use Rattle.salt_model.specs.Trace.{Asked, Start, Trace, start_of}
use Rattle.salt_net.specs.Turns.{Turning}
use Rattle.salt_place.specs.declared.placement.Shape.{Shape}
use Rattle.salt_stands.specs.Turning.{change_at, no_turns, turned, turning}
use Rattle.salt_values.specs.Id.{in_order}
use Rattle.salt_model.specs.declared.events.Event.{Event}
use Rattle.salt_model.specs.declared.events.Event.TheVariants.{Began}
use Rattle.salt_model.specs.declared.events.UnitKind.TheVariants.{First}
use Rattle.salt_values.specs.Id.{is_same_id}
use Rattle.salt_values.specs.declared.cont.Cont.{Cont}
use Rattle.salt_values.specs.declared.id.Id.{Id}
use Rattle.std.specs.Prelude.{Bool, List, None, Some, [], if◌then◌else◌, map, ℕ, ◌≡◌}

pub record State : Type 0 where
  pub units : UnitState
  pub watch : Watch
  -- the names that programs were called by
  pub names : Id → List ℕ
  pub can_stop : Bool
  pub over_net : Bool
  -- what commits have sent over messages, where these are the partitions
  pub net : Shape → Turning

-- it is that of a trace
pub record Keeps (s : State) (trace : Trace) : Type 0 where
  pub units : KeepsUnits s.units trace
  pub watch : Watches s.watch trace
  pub names : (b : Id) → name_of_base b trace ≡ s.names b
  pub can_stop : (start_of trace).can_stop ≡ s.can_stop
  pub over_net : (start_of trace).over_net ≡ s.over_net
  pub net : (shape : Shape) → turning shape trace ≡ s.net shape

abbrev pub named_by : Event → (Id → List ℕ) → Id → List ℕ
named_by (Began u (First t c n args)) old b = if is_same_id b c then n else old b
named_by e old b = old b

-- what an event makes of messages, by the units before it
abbrev pub net_by : Event → UnitState → (Shape → Turning) → Shape → Turning
net_by e s old shape = turned shape s.line s.kept.boot (map change_at (facts_in s e).changes) e (old shape)

-- what an event makes of a state; of locks and sources this tells members and tests, not where they stand
pub record After (e : Event) (old new : State) : Type 0 where
  pub units : new.units ≡ units_after e old.units
  pub watch : WatchChange old.units e old.watch new.watch
  pub names : (b : Id) → new.names b ≡ named_by e old.names b
  pub can_stop : new.can_stop ≡ old.can_stop
  pub over_net : new.over_net ≡ old.over_net
  pub net : (shape : Shape) → new.net shape ≡ net_by e old.units old.net shape

-- a line and a turn change the state of units alone
abbrev pub asked_of : Asked → State → State
asked_of asked s = record s { units = units_asked asked s.units }

abbrev pub turned_to : Id → State → State
turned_to b s = record s { units = units_turned b s.units }

abbrev pub name_at : Start → Id → List ℕ
name_at k b = elim (cont_of b k.kept) [ None ↦ [] | Some c ↦ c.program ]

-- the state of a start: the programs that go on are not released
abbrev pub started : Start → State
started k = record {
  units = units_at k.kept k.early;
  watch = record { table = []; taken = 0; waits = []; programs = in_order (map (λ (c : Cont). c.base) k.kept.conts); dependencies = no_dependencies };
  names = name_at k;
  can_stop = k.can_stop;
  over_net = k.over_net;
  net = λ shape. no_turns;
}
