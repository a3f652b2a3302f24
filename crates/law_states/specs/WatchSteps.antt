-- What an event makes of locks, waits and sources, given its unit.
use Rattle.law_states.specs.KeptLocks.{Numbered, is_base_among, is_owned_by, lock_committed, lock_taken, numbered_from, on_lock}
use Rattle.law_states.specs.KeptPrograms.{unreleased_after}
use Rattle.law_states.specs.KeptSources.{Dependencies, FinishedAfter, WritesIn, given_up, unless_among}
use Rattle.law_states.specs.KeptWaits.{Asker, drop_asker}
use Rattle.law_states.specs.Members.{SameMembers}
use Rattle.law_states.specs.OpenUnits.{UnitState}
use Rattle.law_states.specs.UnitFacts.{UnitFacts, facts_at, facts_in}
use Rattle.law_states.specs.Watches.{Watch}
use Rattle.salt_model.specs.Tables.{place_cmp}
use Rattle.salt_model.specs.Trace.{Trace}
use Rattle.salt_model.specs.Units.{program_begun, program_of_kind}
use Rattle.salt_model.specs.declared.events.End.TheVariants.{Committed}
use Rattle.salt_model.specs.declared.events.Event.{Event}
use Rattle.salt_model.specs.declared.events.Event.TheVariants.{Did, Early, Ended, Ready, Released, Waits}
use Rattle.salt_model.specs.declared.events.Owner.TheVariants.{Unit}
use Rattle.salt_model.specs.declared.locks.Lock.{Lock}
use Rattle.salt_model.specs.declared.places.Place.{Place}
use Rattle.salt_values.specs.Id.{has_id, is_same_id}
use Rattle.salt_values.specs.declared.id.Id.{Id}
use Rattle.std.specs.Bool.{then_some}
use Rattle.std.specs.FinMap.Entries.{find}
use Rattle.std.specs.List.{filter_map}
use Rattle.std.specs.Prelude.{IsTrue, List, None, Option, Some, [], false, if◌then◌else◌, is_some, length, not, option_and_then, ℕ, ◌++◌, ◌+◌, ◌↔◌, ◌≡◌, ◌⊎◌}

-- the program of the event's unit, and the program whose first part it is
abbrev pub base_by : UnitFacts → Option Id
base_by f = option_and_then program_of_kind f.kind

abbrev pub first_by : UnitFacts → Option Id
first_by f = option_and_then program_begun f.kind

-- locks

abbrev pub fate_by : UnitFacts → Event → Lock → Option Lock
fate_by f (Ended u (Committed n)) l = lock_committed u (base_by f) l
fate_by f (Ended u end) l = then_some (not (is_owned_by (Unit u) l)) l
fate_by f (Released bs) l = then_some (not (is_base_among bs l.owner)) l
fate_by f Ready l = None
fate_by f (Early bs) l = None
fate_by f e l = Some l

abbrev pub won_by : UnitFacts → Event → List Lock
won_by f (Did u st a) = lock_taken u f.kind f.reach
won_by f (Early bs) = f.cover
won_by f e = []

-- how many locks were taken before: behind an opening the count begins anew
abbrev pub taken_by_now : Event → ℕ → ℕ
taken_by_now Ready n = 0
taken_by_now (Early bs) n = 0
taken_by_now e n = n

abbrev pub table_by : UnitFacts → ℕ → Event → List Numbered → List Numbered
table_by f k e table = filter_map (on_lock (fate_by f e)) table ++ numbered_from (taken_by_now e k) (won_by f e)

-- how many locks were taken since the last opening
abbrev pub counted_by : UnitFacts → Event → ℕ → ℕ
counted_by f e n = taken_by_now e n + length (won_by f e)

-- waits

abbrev pub waits_by : UnitFacts → Event → List Asker → List Asker
waits_by f (Waits u owners) ws = drop_asker u ws ++ f.asks
waits_by f (Did u st a) ws = drop_asker u ws
waits_by f (Ended u end) ws = drop_asker u ws
waits_by f Ready ws = []
waits_by f (Early bs) ws = []
waits_by f e ws = ws

-- last writers: a commit is its program's, and an ACID unit's is forgotten; direct reads; finished programs

abbrev pub writer_by : UnitFacts → Event → (Place → Option Id) → Place → Option Id
writer_by f (Ended u (Committed n)) old p = if is_some (find place_cmp p f.changes) then base_by f else old p
writer_by f (Released bs) old p = unless_among bs (old p)
writer_by f Ready old p = None
writer_by f (Early bs) old p = None
writer_by f e old p = old p

abbrev pub ReadsBy : UnitFacts → Event → Dependencies → Id → Id → Type 0
ReadsBy f (Did u st a) old x y = IsTrue (old.reads x y) ⊎ ((base_by f ≡ Some x) × (is_same_id y x ≡ false) × WritesIn old.writer f.reach y)
ReadsBy f (Ended u end) old x y = IsTrue (old.reads x y) × (has_id x (given_up end (first_by f)) ≡ false)
ReadsBy f (Released bs) old x y = IsTrue (old.reads x y) × (has_id x bs ≡ false) × (has_id y bs ≡ false)
ReadsBy f Ready old x y = ⊥
ReadsBy f (Early bs) old x y = IsTrue (has_id x bs) × IsTrue (has_id y bs) × (is_same_id y x ≡ false)
ReadsBy f e old x y = IsTrue (old.reads x y)

pub record DependenciesBy (f : UnitFacts) (e : Event) (old new : Dependencies) : Type 0 where
  pub writer : (p : Place) → new.writer p ≡ writer_by f e old.writer p
  pub reads : (x y : Id) → IsTrue (new.reads x y) ↔ ReadsBy f e old x y
  pub finished : (b : Id) → IsTrue (new.finished b) ↔ FinishedAfter e old b

-- the whole
pub record WatchBy (f : UnitFacts) (e : Event) (old new : Watch) : Type 0 where
  pub locks : SameMembers new.table (table_by f old.taken e old.table)
  pub taken : new.taken ≡ counted_by f e old.taken
  pub waits : new.waits ≡ waits_by f e old.waits
  pub programs : new.programs ≡ unreleased_after e old.programs
  pub dependencies : DependenciesBy f e old.dependencies new.dependencies

-- what an event makes of a watch, by the state of units before it
abbrev pub WatchChange : UnitState → Event → Watch → Watch → Type 0
WatchChange s e old new = WatchBy (facts_in s e) e old new

-- the same, by the trace before the event

abbrev pub lock_fate : Trace → Event → Lock → Option Lock
lock_fate trace e l = fate_by (facts_at trace e) e l

abbrev pub lock_won : Trace → Event → List Lock
lock_won trace e = won_by (facts_at trace e) e

abbrev pub locks_after : Trace → Event → List Lock → List Lock
locks_after trace e ls = filter_map (lock_fate trace e) ls ++ lock_won trace e

abbrev pub table_after : ℕ → Trace → Event → List Numbered → List Numbered
table_after k trace e table = table_by (facts_at trace e) k e table

abbrev pub waiting_after : Trace → Event → List Asker → List Asker
waiting_after trace e ws = waits_by (facts_at trace e) e ws

abbrev pub writer_after : Trace → Event → (Place → Option Id) → Place → Option Id
writer_after trace e old p = writer_by (facts_at trace e) e old p

abbrev pub ReadsAfter : Trace → Event → Dependencies → Id → Id → Type 0
ReadsAfter trace e old x y = ReadsBy (facts_at trace e) e old x y

abbrev pub DependenciesAfter : Trace → Event → Dependencies → Dependencies → Type 0
DependenciesAfter trace e old new = DependenciesBy (facts_at trace e) e old new

abbrev pub WatchAfter : Trace → Event → Watch → Watch → Type 0
WatchAfter trace e old new = WatchBy (facts_at trace e) e old new
