-- A database is as its opening is, or its engine; and goes from the one to the other.
use Rattle.salt_ast.specs.declared.lines.Line.{Line}
use Rattle.salt_books.specs.declared.books.Books.{Books}
use Rattle.salt_database.specs.Halves.{IfClosed, IfEither, IsBehind, IsLeftBy, IsMade, by_half, database_fresh, database_can_reopen, database_net, database_stands_for, opening_can_reopen, opening_stands_for}
use Rattle.salt_database.specs.Standing.{OpensIn, left_in}
use Rattle.salt_database.specs.declared.database.Database.{Database}
use Rattle.salt_database.specs.declared.database.Database.TheVariants.{Closed, Moving, Open}
use Rattle.salt_database.specs.declared.opening.Opening.{Opening}
use Rattle.salt_disk.specs.Disks.{View}
use Rattle.salt_engine.proofs.Flying.{none-flies}
use Rattle.salt_engine.specs.Engines.{engine_can_reopen, engine_stands_for, engine_storage, engine_turns, engine_waits}
use Rattle.salt_engine.specs.Flights.{IsInFlight}
use Rattle.salt_engine.specs.Netted.{CanReopenNet, AgreesWithNet}
use Rattle.salt_engine.specs.Standing.{AgreesWithState, KnowsUnits, LeavesOnDevices, ServesFrom, StandsAtEventIn}
use Rattle.salt_engine.specs.declared.engine.Engine.{Engine}
use Rattle.salt_engine.specs.declared.flights.InFlight.{InFlight}
use Rattle.salt_engine.specs.declared.stage.Stage.{Stage}
use Rattle.salt_engine.specs.declared.stage.Stage.TheVariants as at
use Rattle.law_states.specs.Points.{Point}
use Rattle.law_states.specs.States.{State}
use Rattle.salt_drain.specs.declared.recovery.Recovery.{Recovery}
use Rattle.salt_model.specs.Kept.{Kept}
use Rattle.salt_model.specs.Phases as phases
use Rattle.salt_model.specs.declared.events.Event.{Event}
use Rattle.salt_net.specs.Turns.{Turning}
use Rattle.salt_scheduler.specs.Standing.{StandsForState}
use Rattle.salt_scheduler.specs.declared.scheduler.Scheduler.{Scheduler}
use Rattle.salt_driver.specs.Opening.{OpensAt}
use Rattle.salt_driver.specs.Standing.{IsAt, IsIdleAt, IsOpeningAt, left_to_come}
use Rattle.salt_storage.specs.Staying.{Setup, StaysWithin}
use Rattle.salt_storage.specs.declared.found.Numbers.{Numbers}
use Rattle.salt_values.specs.declared.id.Id.{Id}
use Rattle.std.proofs.Common.{ap, arith, refl, subst, sym, ◌∙◌}
use Rattle.std.specs.Prelude.{Bool, IsSome, List, None, Option, Some, [], ℕ, ⊤, ◌<◌, ◌≡◌, ◌≤◌}

module _ {S : Type 0} (asked : S → Setup) (net : S → Option Turning) (holds : S → Kept → Type 0) (is_new : S → Id → Type 0) (stoppable : Bool) where
  abbrev of_database : Database S → Option Event → State → Type 0
  of_database x next s = database_stands_for holds is_new stoppable x next s × database_net asked net x next s

  abbrev of_engine : Engine S → Option Event → State → Type 0
  of_engine e next s = engine_stands_for holds is_new stoppable e next s × AgreesWithNet (asked (engine_storage e)) (net (engine_storage e)) next s

  abbrev of_opening : Opening S → Option Event → State → Type 0
  of_opening o next s = opening_stands_for holds is_new stoppable o next s

  -- IT IS OPEN

  pub open-sees : (x : Database S) (e : Engine S) (next : Option Event) (s : State) → x ≡ Open e → of_database x next s → of_engine e next s
  open-sees x e next s is h = subst (λ (y : Database S). of_database y next s) is h

  pub open-at : (x : Database S) (e : Engine S) (line : Line) (next : Option Event) (p : Point) → x ≡ Open e → IsAt (of_database x) line next p → IsAt (of_engine e) line next p
  open-at x e line next p is h =
      record { state = open-sees x e next p.state is h.state; comes = h.comes; serves = h.serves; line = h.line }

  pub at-open : (e : Engine S) (line : Line) (next : Option Event) (p : Point) → IsAt (of_engine e) line next p → IsAt (of_database (Open e)) line next p
  at-open e line next p h = record { state = h.state; comes = h.comes; serves = h.serves; line = h.line }

  pub open-idle : (x : Database S) (e : Engine S) (p : Point) → x ≡ Open e → IsIdleAt (of_database x) p → IsIdleAt (of_engine e) p
  open-idle x e p is h = record { state = open-sees x e None p.state is h.state; idle = h.idle }

  pub never-open : (x : Database S) (s : State) → ((e : Engine S) → x ≡ Open e → ⊥) → of_database x None s → ⊥
  never-open (Closed o) s never h = h.0
  never-open (Open e) s never h = never e refl
  never-open Moving s never h = h.0

  -- where the disks tell, none is asked while it is closed, and none is opened while it is open

  pub closed-asks : (x : Database S) (o : Opening S) (p : Point) → x ≡ Closed o → IsIdleAt (of_database x) p → ⊥
  closed-asks x o p is h = (subst (λ (y : Database S). of_database y None p.state) is h.state).0

  late-opens : (t : S) (stage : Stage Recovery) (e : Event) (s : State) → OpensIn (holds t) (is_new t) stage (Some e) s → s.units.phase ≡ phases.Serving → ⊥
  late-opens t (at.Going x) e s h serves = let no = sym h.3 ∙ serves in cc
  late-opens t (at.Down books) e s h serves = absurd h
  late-opens t at.Lost e s h serves = absurd h

  pub closed-serves : (x : Database S) (o : Opening S) (line : Line) (next : Option Event) (p : Point) → x ≡ Closed o → IsAt (of_database x) line next p → ⊥
  closed-serves x o line None p is h = (subst (λ (y : Database S). of_database y None p.state) is h.state).0
  closed-serves x o line (Some e) p is h = late-opens o.storage o.stage e p.state (subst (λ (y : Database S). of_database y (Some e) p.state) is h.state).0.0.seen h.serves

  early-serves : (t : S) (stage : Stage Scheduler) (e : Event) (s : State) → StandsAtEventIn (holds t) (is_new t) stage (Some e) s → s.units.phase ≡ phases.Opening → ⊥
  early-serves t (at.Going x) e s h opens = let no = sym h.3 ∙ opens in cc
  early-serves t (at.Down books) e s h opens = absurd h
  early-serves t at.Lost e s h opens = absurd h

  pub else-opens : (x : Database S) (e : Event) (p : Point) → ((o : Opening S) → x ≡ Closed o → ⊥) → IsOpeningAt (of_database x) (Some e) p → ⊥
  else-opens (Closed o) e p never h = never o refl
  else-opens (Open g) e p never h = early-serves g.storage g.stage e p.state h.state.0.seen h.opening
  else-opens Moving e p never h = h.state.0

  -- a storage holds what it stands for
  opens-held : (t : S) (stage : Stage Recovery) (e : Event) (s : State) → OpensIn (holds t) (is_new t) stage (Some e) s → (k : Kept) × holds t k
  opens-held t (at.Going x) e s h = (_, h.2.holding)
  opens-held t (at.Down books) e s h = absurd h
  opens-held t at.Lost e s h = absurd h

  pub closed-held : (x : Database S) (o : Opening S) (next : Option Event) (s : State) → x ≡ Closed o → of_database x next s → (k : Kept) × holds o.storage k
  closed-held x o None s is h = absurd (subst (λ (y : Database S). of_database y None s) is h).0
  closed-held x o (Some e) s is h = opens-held o.storage o.stage e s (subst (λ (y : Database S). of_database y (Some e) s) is h).0.0.seen

  pub moving-sees : (x : Database S) (next : Option Event) (s : State) → x ≡ Moving → of_database x next s → ⊥
  moving-sees x None s is h = (subst (λ (y : Database S). of_database y None s) is h).0
  moving-sees x (Some e) s is h = (subst (λ (y : Database S). of_database y (Some e) s) is h).0

  -- IT IS CLOSED

  closed-sees : (x : Database S) (o : Opening S) (e : Event) (s : State) → x ≡ Closed o → of_database x (Some e) s → of_database (Closed o) (Some e) s
  closed-sees x o e s is h = subst (λ (y : Database S). of_database y (Some e) s) is h

  pub closed-at : (x : Database S) (o : Opening S) (e : Event) (p : Point) → x ≡ Closed o → IsOpeningAt (of_database x) (Some e) p → IsOpeningAt (of_opening o) (Some e) p
  closed-at x o e p is h = record { state = (closed-sees x o e p.state is h.state).0; comes = h.comes; opening = h.opening }

  pub closed-net : (x : Database S) (o : Opening S) (e : Event) (p : Point) → x ≡ Closed o → IsOpeningAt (of_database x) (Some e) p → AgreesWithNet (asked o.storage) (net o.storage) (Some e) p.state
  closed-net x o e p is h = (closed-sees x o e p.state is h.state).1

  pub at-closed : (o : Opening S) (e : Event) (p : Point) → IsOpeningAt (of_opening o) (Some e) p → AgreesWithNet (asked o.storage) (net o.storage) (Some e) p.state → IsOpeningAt (of_database (Closed o)) (Some e) p
  at-closed o e p h sent = record { state = (h.state, sent); comes = h.comes; opening = h.opening }

  pub opens-at : (o : Opening S) (room : ℕ) (p : Point) (story told : List Event) (next : Event) (h : OpensAt (of_opening o) room p story next told) →
      AgreesWithNet (asked o.storage) (net o.storage) (Some next) h.has.point.state → OpensAt (of_database (Closed o)) room p story next told
  opens-at o room p story told next h sent = record { has = h.has; stands = at-closed o next h.has.point h.stands sent; tells = h.tells }

  -- IT IS OPENED: an engine is made of its opening.

  pub engine-sees : (o : Opening S) (x : Scheduler) (e : Engine S) (s : State) → e.storage ≡ o.storage → ((s : State) → StandsForState x s → ServesFrom e.stage s) → e.single ≡ o.single →
      e.in_flight ≡ None → AgreesWithState (StandsAtEventIn (holds o.storage) (is_new o.storage) (at.Going x)) stoppable o.single o.in_flight None s →
      AgreesWithNet (asked o.storage) (net o.storage) None s → of_engine e None s
  engine-sees o x e s stored serves single none h sent =
      let f = serves s h.seen.0 in (
        record {
          seen =
              subst (λ (t : S). StandsAtEventIn (holds t) (is_new t) e.stage None s) (sym stored)
              (subst (λ (k : Stage Scheduler). StandsAtEventIn (holds o.storage) (is_new o.storage) k None s) (sym f.1) (f.2, h.seen.1));
          can_stop = h.can_stop;
          line = single ∙ h.line;
          flies = none-flies e.in_flight None s.units none refl;
        },
        subst (λ (t : S). AgreesWithNet (asked t) (net t) None s) (sym stored) sent,
      )

-- WHAT CAN BE OPENED

module _ {S : Type 0} (asked : S → Setup) (net : S → Option Turning) (holds : S → Kept → Type 0) (leaves : S → Kept → Kept → Type 0) (stoppable : Bool) (room : ℕ) (p : Point) where
  abbrev lies : Database S → Type 0
  lies x = database_can_reopen holds leaves stoppable x room p × database_fresh asked net x p.state

  pub closed-lies : (x : Database S) (o : Opening S) → x ≡ Closed o → lies x → opening_can_reopen holds leaves stoppable o room p × CanReopenNet (asked o.storage) (net o.storage) o.found p.state
  closed-lies x o is h = subst lies is h

  behind-lies : (e : Engine S) (o : Opening S) → IsBehind e o → engine_can_reopen holds leaves stoppable e room p → opening_can_reopen holds leaves stoppable o room p
  behind-lies e o b h = record {
    left =
        subst (λ (i : Option InFlight). LeavesOnDevices (holds o.storage) (leaves o.storage) (IsSome i) o.found room p) (sym b.flies)
        (subst (λ (t : S). LeavesOnDevices (holds t) (leaves t) (IsSome e.in_flight) o.found room p) (sym b.storage)
        (subst (λ (f : Option Numbers). LeavesOnDevices (holds e.storage) (leaves e.storage) (IsSome e.in_flight) f room p) (sym b.found) h.left));
    knows = subst (λ (books : Option Books). KnowsUnits books p.state.units) (sym b.books) h.knows;
    sound = h.sound;
    can_stop = h.can_stop;
    line = b.single ∙ h.line;
    flies = subst (λ (i : Option InFlight). IsInFlight i p.flight p.state.units) (sym b.flies) h.flies;
  }

  pub left-by : (x : Database S) (o : Opening S) → IsLeftBy x o → lies x → opening_can_reopen holds leaves stoppable o room p × (p.state.over_net ≡ (asked o.storage).over_net)
  left-by (Closed was) o is h =
      (subst (λ (y : Opening S). opening_can_reopen holds leaves stoppable y room p) (sym is) h.0, h.1.over ∙ ap (λ (y : Opening S). (asked y.storage).over_net) (sym is))
  left-by (Open e) o b h = (behind-lies e o b h.0, h.1.over ∙ ap (λ (t : S). (asked t).over_net) (sym b.storage))
  left-by Moving o b h = absurd h.0

-- what holds of the half that it has

pub open-has : {S : Type 0} (P : Opening S → Type 0) (Q : Engine S → Type 0) (x : Database S) (e : Engine S) → x ≡ Open e → IfEither P Q x → Q e
open-has P Q x e is h = subst (IfEither P Q) is h

pub closed-has : {S : Type 0} (P : Opening S → Type 0) (Q : Engine S → Type 0) (x : Database S) (o : Opening S) → x ≡ Closed o → IfEither P Q x → P o
closed-has P Q x o is h = subst (IfEither P Q) is h

pub closed-made : {S : Type 0} (x : Database S) (o : Opening S) → x ≡ Closed o → IfClosed (λ o. ⊤) x
closed-made x o is = subst (IfClosed (λ o. ⊤)) (sym is) tt

pub moving-never : {S : Type 0} (P : Opening S → Type 0) (Q : Engine S → Type 0) (x : Database S) → x ≡ Moving → IfEither P Q x → ⊥
moving-never P Q x is h = subst (IfEither P Q) is h

pub has-made : {S : Type 0} (P : Opening S → Type 0) (Q : Engine S → Type 0) (x : Database S) → IfEither P Q x → IsMade x
has-made P Q (Closed o) h = tt
has-made P Q (Open e) h = tt
has-made P Q Moving h = h

pub left-has : {S : Type 0} (able : S → Type 0) (x : Database S) (o : Opening S) → IsLeftBy x o → IfEither (λ o. able o.storage) (λ e. able (engine_storage e)) x → able o.storage
left-has able (Closed was) o is h = subst (λ (b : Opening _). able b.storage) (sym is) h
left-has able (Open e) o b h = subst able (sym b.storage) h
left-has able Moving o b h = absurd b

-- what is read off the half that it has

pub open-same : {S A : Type 0} (closed : Opening S → A) (served : Engine S → A) (moving : A) (x : Database S) (e now : Engine S) → x ≡ Open e → served now ≡ served e →
    by_half closed served moving (Open now) ≡ by_half closed served moving x
open-same closed served moving x e now is same = same ∙ sym (ap (by_half closed served moving) is)

pub closed-same : {S A : Type 0} (closed : Opening S → A) (served : Engine S → A) (moving : A) (x : Database S) (o now : Opening S) → x ≡ Closed o → closed now ≡ closed o →
    by_half closed served moving (Closed now) ≡ by_half closed served moving x
closed-same closed served moving x o now is same = same ∙ sym (ap (by_half closed served moving) is)

pub half-within : {S : Type 0} (closed : Opening S → Setup) (served : Engine S → Setup) (moving : Setup) (x y : Database S) (is : Setup) (old new : View) → x ≡ y →
    StaysWithin (by_half closed served moving y) is old new → StaysWithin (by_half closed served moving x) is old new
half-within closed served moving x y is old new same h = subst (λ (z : Database _). StaysWithin (by_half closed served moving z) is old new) (sym same) h

pub left-within : {S : Type 0} (asked : S → Setup) (moving : Setup) (x : Database S) (o : Opening S) (is : Setup) (old new : View) → IsLeftBy x o → StaysWithin (asked o.storage) is old new →
    StaysWithin (by_half (λ o. asked o.storage) (λ e. asked e.storage) moving x) is old new
left-within asked moving (Closed was) o is old new left h = subst (λ (b : Opening _). StaysWithin (asked b.storage) is old new) left h
left-within asked moving (Open e) o is old new b h = subst (λ t. StaysWithin (asked t) is old new) b.storage h
left-within asked moving Moving o is old new left h = absurd left

pub both-within : {S : Type 0} (closed : Opening S → Setup) (served : Engine S → Setup) (moving : Setup) (x y : Database S) (old new : View) → x ≡ y →
    StaysWithin (by_half closed served moving y) (by_half closed served moving y) old new → StaysWithin (by_half closed served moving x) (by_half closed served moving x) old new
both-within closed served moving x y old new same h =
    subst (λ (z : Database _). StaysWithin (by_half closed served moving z) (by_half closed served moving z) old new) (sym same) h

-- the turns that may still come, and what is left behind an event, of one that is open

pub open-fewer : {S : Type 0} (x : Database S) (e : Engine S) (n : ℕ) → x ≡ Open e → n < engine_turns e → n < by_half (λ (o : Opening S). 0) engine_turns 0 x
open-fewer x e n is h = subst (λ (y : Database _). n < by_half (λ (o : Opening _). 0) engine_turns 0 y) (sym is) h

pub open-most : {S : Type 0} (x : Database S) (e : Engine S) (n : ℕ) → x ≡ Open e → n ≤ engine_turns e → n ≤ by_half (λ (o : Opening S). 0) engine_turns 0 x
open-most x e n is h = subst (λ (y : Database _). n ≤ by_half (λ (o : Opening _). 0) engine_turns 0 y) (sym is) h

pub open-waits : {S : Type 0} (x : Database S) (e : Engine S) (next : Option Event) (n : ℕ) → x ≡ Open e → n < left_to_come (engine_waits e) next →
    n < left_to_come (by_half (λ (o : Opening S). []) engine_waits [] x) next
open-waits x e next n is h = subst (λ (y : Database _). n < left_to_come (by_half (λ (o : Opening _). []) engine_waits [] y) next) (sym is) h

-- what is left of an opening

pub some-less : (m n : ℕ) → m < n → 0 < n
some-less m n h = omega (arith, h)

pub still-to-open : {S : Type 0} (x : Database S) (o : Opening S) (next : Option Event) (left : ℕ) → x ≡ Closed o → left < left_in o.stage next →
    left < by_half (λ (b : Opening S). left_in b.stage next) (λ e. 0) 0 x
still-to-open x o next left is h = subst (λ (y : Database _). left < by_half (λ (b : Opening _). left_in b.stage next) (λ e. 0) 0 y) (sym is) h
