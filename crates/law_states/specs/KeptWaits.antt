-- What is kept of the waiting units: each with its statement and what that would reach; the victim and the next to be served come from it.
use Rattle.salt_ast.specs.declared.trees.Statement.{Statement}
use Rattle.law_states.specs.KeptLocks.{clash_in}
use Rattle.law_states.specs.KeptSources.{Dependencies, IsKnown, Through}
use Rattle.law_states.specs.Members.{In}
use Rattle.salt_model.specs.After.{reach_now}
use Rattle.salt_model.specs.Locks.{family_of, owners_of}
use Rattle.salt_model.specs.Trace.{Trace}
use Rattle.salt_model.specs.Units.{kind_of, program_of, wait_list}
use Rattle.salt_model.specs.Waiting.{WaitUnit, asked_by, clashing_now, is_on_cycle, victim_of, wait_graph}
use Rattle.salt_model.specs.Words.{is_empty}
use Rattle.salt_values.specs.Id.{has_id}
use Rattle.salt_model.specs.declared.events.Owner.{Owner}
use Rattle.salt_model.specs.declared.events.Owner.TheVariants.{Base, Unit}
use Rattle.salt_model.specs.declared.locks.Family.{Family}
use Rattle.salt_model.specs.declared.locks.Lock.{Lock}
use Rattle.salt_model.specs.declared.locks.Reach.{Reach}
use Rattle.salt_values.specs.Id.{is_same_id}
use Rattle.salt_values.specs.declared.id.Id.{Id}
use Rattle.std.specs.List.{filter, find, flat_map, list_any}
use Rattle.std.specs.Prelude.{Bool, List, None, Option, Some, [], false, is_none, is_some, map, not, option_and_then, option_map, true, ⊤, ◌&&◌, ◌↔◌, ◌∷◌, ◌≡◌}

-- a unit that asks: whose it is, its statement, and what that would reach
pub record Asker : Type 0 where
  pub unit : Id
  pub base : Option Id
  pub family : Family
  pub asked : Option Statement
  pub reach : Option Reach

-- a unit with the statement that it asks for at a trace
abbrev pub asker : Trace → Id → Asker
asker trace u = record {
  unit = u;
  base = program_of u trace;
  family = family_of (kind_of u trace);
  asked = asked_by u trace;
  reach = option_and_then (reach_now u trace) (asked_by u trace);
}

-- the waiting units, the longest first
abbrev pub waiting : Trace → List Asker
waiting trace = map (asker trace) (wait_list trace)

abbrev pub drop_asker : Id → List Asker → List Asker
drop_asker u ws = filter (λ w. not (has_id w.unit (u ∷ []))) ws

-- whom a waiting unit clashes with, by a list of locks
abbrev pub clash_owners : List Lock → Asker → List Owner
clash_owners ls w = owners_of (clash_in (Unit w.unit) w.family w.reach ls)

-- the longest waiting one that clashes with nothing
abbrev pub served_in : List Lock → List Asker → Option Id
served_in ls ws = option_map (λ w. w.unit) (find (λ w. is_empty (clash_owners ls w)) ws)

abbrev pub is_base_of : Option Id → Id → Bool
is_base_of None b = false
is_base_of (Some c) b = is_same_id b c

-- the waiting units of the unfinished programs among these
abbrev pub waiting_for : Dependencies → List Asker → List Id → List Id
waiting_for d ws bs = map (λ w. w.unit) (filter (λ w. list_any (λ b. not (d.finished b) && is_base_of w.base b) bs) ws)

abbrev pub edges_of : Dependencies → List Asker → (Id → List Id) → Owner → List Id
edges_of d ws sources (Unit v) = v ∷ []
edges_of d ws sources (Base c) = waiting_for d ws (sources c)

abbrev pub graph_unit : Dependencies → List Lock → List Asker → (Id → List Id) → Asker → WaitUnit
graph_unit d ls ws sources w = record { unit = w.unit; acid = is_none w.base; edges = flat_map (edges_of d ws sources) (clash_owners ls w) }

-- the victim, by the kept locks, waiting units and sources
abbrev pub victim_in : Dependencies → List Lock → List Asker → (Id → List Id) → Option Id
victim_in d ls ws sources = victim_of (map (graph_unit d ls ws sources) ws)

-- lists of the programs that each known program comes to by kept pairs
abbrev pub AreSources : Trace → Dependencies → (Id → List Id) → Type 0
AreSources trace d sources = (c : Id) → IsKnown trace c → (b : Id) → In b (sources c) ↔ Through d.reads c b

-- when settling has ended: each waiting unit asks for a statement and clashes, and none lies on a cycle
pub record IsSettled (trace : Trace) : Type 0 where
  pub clash : (u : Id) → In u (wait_list trace) → is_empty (clashing_now trace u) ≡ false
  pub ask : (u : Id) → In u (wait_list trace) → is_some (asked_by u trace) ≡ true
  pub no_cycle : (w : WaitUnit) → In w (wait_graph trace) → is_on_cycle (wait_graph trace) w ≡ false

-- each name once
abbrev pub AreDistinct : List Id → Type 0
AreDistinct [] = ⊤
AreDistinct (u ∷ us) = (In u us → ⊥) × AreDistinct us
