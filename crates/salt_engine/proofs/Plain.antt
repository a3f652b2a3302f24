-- What follows in a line is no preparation, and neither is the first event of a line that prepares nothing.
use Rattle.salt_ast.specs.declared.lines.Act.{Act}
use Rattle.salt_ast.specs.declared.lines.Act.TheVariants.{Begin, Call, Commit, Do, Rollback, Step}
use Rattle.salt_ast.specs.declared.lines.Line.{Line}
use Rattle.salt_ast.specs.declared.lines.Line.TheVariants.{Crash, Go, GoAll, Net, Nothing, Program, Session, ShowBases, ShowLocks, Table}
use Rattle.salt_ast.specs.declared.programs.ProgramDef.{ProgramDef}
use Rattle.salt_ast.specs.declared.trees.Statement.{Statement}
use Rattle.salt_engine.proofs.Unprepared.{done-plain, either-plain, finish-plain, serves-plain}
use Rattle.salt_engine.specs.Performing.{is_prepared}
use Rattle.law_states.specs.Follows.{settles_in}
use Rattle.law_states.specs.OpenUnits.{OpenUnit, UnitState, asks_next, unit_named, unit_of_program, unit_of_session}
use Rattle.law_states.specs.Readings.{WatchReading, beside_by}
use Rattle.law_states.specs.States.{State}
use Rattle.law_states.specs.Told.{Beside, Clashes, Items, act_in, asks_in, begins_in, calls_in, commits_in, go_in, goes_on_in, kind_called_in, line_in, settle_in, turn_in, turn_of_in}
use Rattle.salt_model.specs.Kept.{cont_of, kept_program}
use Rattle.salt_model.specs.Turns.{releases}
use Rattle.salt_model.specs.declared.events.Event.{Event}
use Rattle.salt_model.specs.declared.events.Event.TheVariants.{Armed, Defined, Refused}
use Rattle.salt_model.specs.declared.events.Owner.{Owner}
use Rattle.salt_model.specs.declared.events.UnitKind.TheVariants.{Later}
use Rattle.salt_scheduler.specs.Follows.{event_of}
use Rattle.salt_scheduler.specs.Serving.{is_prepared_line}
use Rattle.salt_scheduler.specs.Standing.{behind_in}
use Rattle.salt_scheduler.specs.declared.follow.Follow.{Follow}
use Rattle.salt_scheduler.specs.declared.follow.Follow.TheVariants as follow
use Rattle.salt_driver.specs.Counting.{armed_at}
use Rattle.salt_values.specs.declared.cont.Cont.{Cont}
use Rattle.salt_values.specs.declared.id.Id.{Id}
use Rattle.salt_values.specs.declared.value.Value.{Value}
use Rattle.std.specs.Prelude.{List, None, Option, Some, [], false, option_and_then, option_map, refl, ℕ, ◌∷◌, ◌≡◌}

mapped-plain : {A : Type 0} (f : A → Event) → ((x : A) → is_prepared (Some (f x)) ≡ false) → (o : Option A) → is_prepared (option_map f o) ≡ false
mapped-plain f h None = refl
mapped-plain f h (Some x) = h x

turn-plain : (s : UnitState) (clash : Clashes) (o : OpenUnit) → is_prepared (turn_in s clash o) ≡ false
turn-plain s clash o = by (asks_next s o)
  where
    asks : (st : Statement) (owners : List Owner) → is_prepared (Some (asks_in s o st owners)) ≡ false
    asks st [] = refl
    asks st (w ∷ ws) = refl

    by : (q : Option Statement) → is_prepared (option_map (λ st. asks_in s o st (clash o st)) q) ≡ false
    by None = refl
    by (Some st) = asks st (clash o st)

turn-of-plain : (s : UnitState) (clash : Clashes) (o : Option OpenUnit) → is_prepared (turn_of_in s clash o) ≡ false
turn-of-plain s clash None = refl
turn-of-plain s clash (Some o) = turn-plain s clash o

releases-plain : (bs : List Id) → is_prepared (releases bs) ≡ false
releases-plain [] = refl
releases-plain (b ∷ bs) = refl

settles-plain : (s : UnitState) (x : Beside) → is_prepared (settles_in s x) ≡ false
settles-plain s x = by x.victim (option_and_then (λ u. unit_named u s.units) x.served)
  where
    by : (v : Option Id) (o : Option OpenUnit) → is_prepared (settle_in s v o) ≡ false
    by (Some u) o = refl
    by None (Some o) = serves-plain s (Some o)
    by None None = refl

follows-plain : (f : Follow) (s : UnitState) (x : Beside) → is_prepared (event_of f s x) ≡ false
follows-plain follow.Nothing s x = refl
follows-plain (follow.Turn u) s x = turn-of-plain s x.clash (unit_named u s.units)
follows-plain (follow.Done u failed) s x = done-plain s failed (unit_named u s.units)
follows-plain (follow.Accept b) s x = refl
follows-plain (follow.Finish b) s x = finish-plain s b
follows-plain (follow.Release b) s x = releases-plain x.due

pub line-plain : (s : State) (r : WatchReading s.watch) (f : Follow) → is_prepared (behind_in s r f) ≡ false
line-plain s r f =
    either-plain (event_of f s.units (beside_by s r)) (settles_in s.units (beside_by s r)) (follows-plain f s.units (beside_by s r)) (settles-plain s.units (beside_by s r))

pub go-plain : (s : UnitState) (clash : Clashes) (b : Id) → is_prepared (go_in s clash b) ≡ false
go-plain s clash b = by (unit_of_program b s)
  where
    by : (o : Option OpenUnit) → is_prepared (goes_on_in s clash b o) ≡ false
    by (Some o) = turn-plain s clash o
    by None = mapped-plain (λ (c : Cont). begins_in s (Later b c.next)) (λ c. refl) (cont_of b s.kept)

calls-plain : (s : UnitState) (t : ℕ) (name : List ℕ) (args : List Value) → is_prepared (calls_in s t name args) ≡ false
calls-plain s t name args = mapped-plain (λ (p : ProgramDef). begins_in s (kind_called_in s t name args p.body)) (λ p. refl) (kept_program name s.kept)

act-plain : (s : UnitState) (clash : Clashes) (t : ℕ) (act : Act) (o : Option OpenUnit) → is_prepared (act_in s clash t act o) ≡ false
act-plain s clash t Begin o = refl
act-plain s clash t (Do st) None = refl
act-plain s clash t (Do st) (Some o) = turn-plain s clash o
act-plain s clash t (Call n args) o = calls-plain s t n args
act-plain s clash t Step o = turn-of-plain s clash o
act-plain s clash t Commit o = mapped-plain (commits_in s) (λ o. refl) o
act-plain s clash t Rollback None = refl
act-plain s clash t Rollback (Some o) = refl

pub first-plain : (s : UnitState) (clash : Clashes) (items : Items) (line : Line) → is_prepared_line line ≡ false → is_prepared (line_in s clash items line) ≡ false
first-plain s clash items Nothing h = refl
first-plain s clash items (Table d) h = cc
first-plain s clash items (Program p) h = cc
first-plain s clash items (Session t act) h = act-plain s clash t act (unit_of_session t s)
first-plain s clash items (Go b) h = go-plain s clash b
first-plain s clash items GoAll h = refl
first-plain s clash items ShowLocks h = refl
first-plain s clash items ShowBases h = refl
first-plain s clash items (Crash pairs) h = cc
first-plain s clash items (Net pairs) h = cc

pub plain-unarmed : (line : Line) (e : Option Event) → is_prepared e ≡ false → armed_at line e ≡ []
plain-unarmed line None h = refl
plain-unarmed line (Some e) h = by e h
  where
    by : (e : Event) → is_prepared (Some e) ≡ false → armed_at line (Some e) ≡ []
    by (Refused refusal) h = cc
    by (Armed pairs) h = cc
    by (Defined n text) h = cc
    by e h = refl
