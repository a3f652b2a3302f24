-- Worked rows: the state after a script, computed event by event, tells what the trace of the script tells.
use Rattle.law_states.specs.KeptWaits.{Asker, served_in, victim_in}
use Rattle.law_states.specs.OpenUnits.{OpenUnit, names_in, next_turn_in}
use Rattle.law_states.specs.PairClosures.{all_sources, due_in}
use Rattle.law_states.specs.PlainStates.{PlainState, as_state, state_of, watch_of}
use Rattle.law_states.specs.Readings.{locks_in, under_way_by}
use Rattle.salt_ast.specs.Sample.{acct_def, pay}
use Rattle.salt_model.specs.After.{kept}
use Rattle.salt_model.specs.Computing.{computing}
use Rattle.salt_model.specs.Kept.{Kept}
use Rattle.salt_model.specs.Locks.{held, lock_of}
use Rattle.salt_model.specs.Phases.{Opening, Phase, Serving, phase}
use Rattle.salt_model.specs.Programs.{under_way, unreleased}
use Rattle.salt_model.specs.Reads.{to_release}
use Rattle.salt_model.specs.Scripts.{accounts, at, bal_at, base, begin, call, call_transfer, go, insert_acct, numbers, unit}
use Rattle.salt_model.specs.Tables.{place}
use Rattle.salt_model.specs.Trace.{Trace, Tree, ◌asks◌, ◌says◌}
use Rattle.salt_model.specs.Turns.{next_turn}
use Rattle.salt_model.specs.Units.{base_count, is_waiting, open_units, unit_count, wait_list}
use Rattle.salt_model.specs.Waiting.{next_unblocked, victim}
use Rattle.salt_model.specs.Walk.{completed, walk}
use Rattle.salt_model.specs.declared.events.Event.TheVariants.{Down, Opened}
use Rattle.salt_model.specs.declared.events.Owner.{Owner}
use Rattle.salt_model.specs.declared.events.Owner.TheVariants.{Base, Unit}
use Rattle.salt_model.specs.declared.events.Why.TheVariants.{Stopped}
use Rattle.salt_model.specs.declared.locks.Family.{Family}
use Rattle.salt_model.specs.declared.locks.Family.TheVariants.{Acid, Alkaline, Saline}
use Rattle.salt_model.specs.declared.locks.Lock.{Lock}
use Rattle.salt_model.specs.declared.locks.Mode.{Mode}
use Rattle.salt_model.specs.declared.locks.Mode.TheVariants.{Read, Write}
use Rattle.salt_ranges.specs.Ranges.{one_key}
use Rattle.salt_values.specs.Id.{in_order}
use Rattle.salt_values.specs.declared.cont.Cont.{Cont}
use Rattle.salt_values.specs.declared.id.Id.{Id}
use Rattle.salt_values.specs.declared.value.Value.{Value}
use Rattle.salt_values.specs.declared.value.Value.TheVariants.{Int}
use Rattle.std.specs.Prelude.{Bool, List, None, Option, Some, [], codes, false, map, pos, refl, true, ℕ, ◌++◌, ◌∷◌, ◌≡◌}
use Rattle.salt_ast.specs.declared.lines.Line.TheVariants as line

-- what is told of a place in a run: the rows, the last decision, where programs stand and the tries that they have left, and so on
pub record Sight : Type 0 where
  pub phase : Phase
  pub boot : ℕ
  pub rows : List (List Value)
  pub decisions : ℕ
  pub parts : List ℕ
  pub tries : List ℕ
  pub units : List Id
  pub waiting : List Bool
  pub locks : List Lock
  pub waits : List Id
  pub unreleased : List Id
  pub under_way : List Id
  pub unit_count : ℕ
  pub base_count : ℕ
  pub victim : Option Id
  pub served : Option Id
  pub due : List Id
  pub turn : Option Id

abbrev pub rows_of : Kept → List (List Value)
rows_of k = map (λ e. e.1) k.tables.list

abbrev pub by_trace : Trace → Sight
by_trace trace = record {
  phase = phase trace;
  boot = (kept trace).boot;
  rows = rows_of (kept trace);
  decisions = (kept trace).decisions;
  parts = map (λ (c : Cont). c.next) (kept trace).conts;
  tries = map (λ (c : Cont). c.tries) (kept trace).conts;
  units = open_units trace;
  waiting = map (is_waiting trace) (open_units trace);
  locks = held trace;
  waits = wait_list trace;
  unreleased = unreleased trace;
  under_way = under_way trace;
  unit_count = unit_count trace;
  base_count = base_count trace;
  victim = victim trace;
  served = next_unblocked trace;
  due = to_release trace;
  turn = next_turn trace;
}

abbrev pub by_state : PlainState → Sight
by_state s = let w = watch_of s.watch in record {
  phase = s.units.phase;
  boot = s.units.kept.boot;
  rows = rows_of s.units.kept;
  decisions = s.units.kept.decisions;
  parts = map (λ (c : Cont). c.next) s.units.kept.conts;
  tries = map (λ (c : Cont). c.tries) s.units.kept.conts;
  units = names_in s.units.units;
  waiting = map (λ (o : OpenUnit). o.waiting) s.units.units;
  locks = locks_in w;
  waits = map (λ (a : Asker). a.unit) w.waits;
  unreleased = w.programs;
  under_way = under_way_by (as_state s);
  unit_count = s.units.unit_count;
  base_count = s.units.base_count;
  victim = victim_in w.dependencies (locks_in w) w.waits (all_sources s.watch.pairs);
  served = served_in (locks_in w) w.waits;
  due = in_order (due_in s.watch.pairs s.watch.finished);
  turn = next_turn_in s.units;
}

-- a lock on one account
abbrev pub on_account : Owner → Family → Mode → ℕ → Lock
on_account owner family mode k = lock_of owner family (record { table = 0; range = one_key (Int (pos k)); mode = mode })

abbrev pub account : (key balance : ℕ) → List Value
account k v = numbers (pos k ∷ pos v ∷ [])

-- Session 1 has put in a third account, and session 2 one more, and neither has ended.

abbrev two_open : Trace
two_open = walk (accounts ++ begin 1 ∷ at 1 (insert_acct 3 7) ∷ begin 2 ∷ at 2 (insert_acct 4 9) ∷ [])

abbrev two_open_sight : Sight
two_open_sight = record {
  phase = Serving;
  boot = 1;
  rows = account 1 100 ∷ account 2 50 ∷ [];
  decisions = 4;
  parts = [];
  tries = [];
  units = unit 3 ∷ unit 4 ∷ [];
  waiting = false ∷ false ∷ [];
  locks = on_account (Unit (unit 3)) Acid Write 3 ∷ on_account (Unit (unit 4)) Acid Write 4 ∷ [];
  waits = [];
  unreleased = [];
  under_way = [];
  unit_count = 4;
  base_count = 0;
  victim = None;
  served = None;
  due = [];
  turn = None;
}

two_open_by_state : by_state (state_of two_open) ≡ two_open_sight
unfolding computing
two_open_by_state = refl

two_open_by_trace : by_trace two_open ≡ two_open_sight
unfolding computing
two_open_by_trace = refl

edits_of_two : map (λ (o : OpenUnit). o.changes) (state_of two_open).units.units ≡
    ((place 0 (Int (pos 3)), Some (account 3 7)) ∷ []) ∷ ((place 0 (Int (pos 4)), Some (account 4 9)) ∷ []) ∷ []
unfolding computing
edits_of_two = refl

-- An ACID reader waits for a program that is not released.

abbrev reader_waits : Trace
reader_waits = walk (accounts ++ call_transfer 1 1 2 30 ∷ at 2 (bal_at 1) ∷ [])

abbrev reader_waits_sight : Sight
reader_waits_sight = record {
  phase = Serving;
  boot = 1;
  rows = account 1 70 ∷ account 2 50 ∷ [];
  decisions = 5;
  parts = 2 ∷ [];
  tries = 0 ∷ [];
  units = unit 4 ∷ [];
  waiting = true ∷ [];
  locks = on_account (Base (base 1)) Saline Write 1 ∷ [];
  waits = unit 4 ∷ [];
  unreleased = base 1 ∷ [];
  under_way = base 1 ∷ [];
  unit_count = 4;
  base_count = 1;
  victim = None;
  served = None;
  due = [];
  turn = None;
}

reader_waits_by_state : by_state (state_of reader_waits) ≡ reader_waits_sight
unfolding computing
reader_waits_by_state = refl

reader_waits_by_trace : by_trace reader_waits ≡ reader_waits_sight
unfolding computing
reader_waits_by_trace = refl

reader_asks : map (λ (a : Asker). a.asked) (state_of reader_waits).watch.waits ≡ Some (bal_at 1) ∷ []
unfolding computing
reader_asks = refl

-- A program that read from an unfinished one is finished, and not released.

abbrev reads_unfinished : Trace
reads_unfinished = walk (accounts ++ at 1 (insert_acct 3 0) ∷ call_transfer 1 1 2 30 ∷ call_transfer 2 1 3 10 ∷ go 2 ∷ at 3 (bal_at 3) ∷ [])

abbrev reads_unfinished_sight : Sight
reads_unfinished_sight = record {
  phase = Serving;
  boot = 1;
  rows = account 1 60 ∷ account 2 50 ∷ account 3 10 ∷ [];
  decisions = 8;
  parts = 2 ∷ [];
  tries = 0 ∷ [];
  units = unit 7 ∷ [];
  waiting = true ∷ [];
  locks = on_account (Base (base 1)) Saline Write 1 ∷ on_account (Base (base 2)) Saline Write 1 ∷ on_account (Base (base 2)) Saline Write 3 ∷ [];
  waits = unit 7 ∷ [];
  unreleased = base 1 ∷ base 2 ∷ [];
  under_way = base 1 ∷ base 2 ∷ [];
  unit_count = 7;
  base_count = 2;
  victim = None;
  served = None;
  due = [];
  turn = None;
}

reads_unfinished_by_state : by_state (state_of reads_unfinished) ≡ reads_unfinished_sight
unfolding computing
reads_unfinished_by_state = refl

reads_unfinished_by_trace : by_trace reads_unfinished ≡ reads_unfinished_sight
unfolding computing
reads_unfinished_by_trace = refl

pairs_of_two : (state_of reads_unfinished).watch.pairs ≡ record { reader = base 2; source = base 1 } ∷ []
unfolding computing
pairs_of_two = refl

finished_of_two : (state_of reads_unfinished).watch.finished ≡ base 2 ∷ []
unfolding computing
finished_of_two = refl

-- A reader and a program wait for each other: the reader is to give way.

abbrev on_cycle : Trace
on_cycle = completed 1 (walk (accounts ++ call_transfer 1 1 2 30 ∷ begin 2 ∷ at 2 (bal_at 2) ∷ go 1 ∷ []) asks Tree (at 2 (bal_at 1)))

abbrev on_cycle_sight : Sight
on_cycle_sight = record {
  phase = Serving;
  boot = 1;
  rows = account 1 70 ∷ account 2 50 ∷ [];
  decisions = 5;
  parts = 2 ∷ [];
  tries = 0 ∷ [];
  units = unit 4 ∷ unit 5 ∷ [];
  waiting = true ∷ true ∷ [];
  locks = on_account (Base (base 1)) Saline Write 1 ∷ on_account (Unit (unit 4)) Acid Read 2 ∷ [];
  waits = unit 5 ∷ unit 4 ∷ [];
  unreleased = base 1 ∷ [];
  under_way = base 1 ∷ [];
  unit_count = 5;
  base_count = 1;
  victim = Some (unit 4);
  served = None;
  due = [];
  turn = None;
}

on_cycle_by_state : by_state (state_of on_cycle) ≡ on_cycle_sight
unfolding computing
on_cycle_by_state = refl

on_cycle_by_trace : by_trace on_cycle ≡ on_cycle_sight
unfolding computing
on_cycle_by_trace = refl

-- A part has failed once, and is to be tried once more.

abbrev failed_once : Trace
failed_once =
    walk (line.Table acct_def ∷ line.Program pay ∷ at 1 (insert_acct 1 100) ∷ at 1 (insert_acct 3 990) ∷
    call 1 (codes "pay") (pos 1 ∷ pos 3 ∷ pos 30 ∷ []) ∷ go 1 ∷ [])

abbrev failed_once_sight : Sight
failed_once_sight = record {
  phase = Serving;
  boot = 1;
  rows = account 1 70 ∷ account 3 990 ∷ [];
  decisions = 6;
  parts = 2 ∷ [];
  tries = 0 ∷ [];
  units = [];
  waiting = [];
  locks = on_account (Base (base 1)) Saline Write 1 ∷ [];
  waits = [];
  unreleased = base 1 ∷ [];
  under_way = base 1 ∷ [];
  unit_count = 4;
  base_count = 1;
  victim = None;
  served = None;
  due = [];
  turn = None;
}

failed_once_by_state : by_state (state_of failed_once) ≡ failed_once_sight
unfolding computing
failed_once_by_state = refl

failed_once_by_trace : by_trace failed_once ≡ failed_once_sight
unfolding computing
failed_once_by_trace = refl

-- `go all` is asked, and turns to the first of two programs.

abbrev all_go : Trace
all_go = walk (accounts ++ call_transfer 1 1 2 30 ∷ call_transfer 2 2 1 10 ∷ []) asks Tree line.GoAll

abbrev all_go_sight : Sight
all_go_sight = record {
  phase = Serving;
  boot = 1;
  rows = account 1 70 ∷ account 2 40 ∷ [];
  decisions = 6;
  parts = 2 ∷ 2 ∷ [];
  tries = 0 ∷ 0 ∷ [];
  units = [];
  waiting = [];
  locks = on_account (Base (base 1)) Saline Write 1 ∷ on_account (Base (base 2)) Saline Write 2 ∷ [];
  waits = [];
  unreleased = base 1 ∷ base 2 ∷ [];
  under_way = base 1 ∷ base 2 ∷ [];
  unit_count = 4;
  base_count = 2;
  victim = None;
  served = None;
  due = [];
  turn = Some (base 1);
}

all_go_by_state : by_state (state_of all_go) ≡ all_go_sight
unfolding computing
all_go_by_state = refl

all_go_by_trace : by_trace all_go ≡ all_go_sight
unfolding computing
all_go_by_trace = refl

-- A stop cuts a unit, and the opening has begun the part of a program; then a second stop, and an opening that goes to its end.

abbrev before_stop : Trace
before_stop = completed 2 (walk (accounts ++ call_transfer 1 1 2 30 ∷ line.Crash ((1, 0) ∷ []) ∷ []) asks Tree (at 2 (insert_acct 7 1)))

abbrev in_opening : Trace
in_opening = completed 3 (before_stop says Down Stopped says Opened 2 5)

abbrev in_opening_sight : Sight
in_opening_sight = record {
  phase = Opening;
  boot = 2;
  rows = account 1 70 ∷ account 2 50 ∷ [];
  decisions = 5;
  parts = 2 ∷ [];
  tries = 0 ∷ [];
  units = record { boot = 2; seq = 1 } ∷ [];
  waiting = false ∷ [];
  locks = on_account (Base (base 1)) Saline Write 1 ∷ on_account (Unit (record { boot = 2; seq = 1 })) Alkaline Write 2 ∷ [];
  waits = [];
  unreleased = base 1 ∷ [];
  under_way = base 1 ∷ [];
  unit_count = 1;
  base_count = 0;
  victim = None;
  served = None;
  due = [];
  turn = None;
}

in_opening_by_state : by_state (state_of in_opening) ≡ in_opening_sight
unfolding computing
in_opening_by_state = refl

in_opening_by_trace : by_trace in_opening ≡ in_opening_sight
unfolding computing
in_opening_by_trace = refl

abbrev drained : Trace
drained = completed 40 (in_opening says Down Stopped says Opened 3 5)

abbrev drained_sight : Sight
drained_sight = record {
  phase = Serving;
  boot = 3;
  rows = account 1 70 ∷ account 2 80 ∷ [];
  decisions = 6;
  parts = [];
  tries = [];
  units = [];
  waiting = [];
  locks = [];
  waits = [];
  unreleased = [];
  under_way = [];
  unit_count = 1;
  base_count = 0;
  victim = None;
  served = None;
  due = [];
  turn = None;
}

drained_by_state : by_state (state_of drained) ≡ drained_sight
unfolding computing
drained_by_state = refl

drained_by_trace : by_trace drained ≡ drained_sight
unfolding computing
drained_by_trace = refl
