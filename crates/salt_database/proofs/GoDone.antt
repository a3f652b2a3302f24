-- An opening goes on, or is done and lines are served: what was performed is a move of the engine's point, or it broke off there.
use Rattle.salt_books.specs.Books.{AreBooks}
use Rattle.salt_books.specs.declared.books.Books.{Books}
use Rattle.law_states.specs.Watches.{empty_watch}
use Rattle.salt_database.proofs.OpeningGoes.{leaves-less, meant, moves, point, stands}
use Rattle.salt_database.proofs.EarlyDone.{ends-early}
use Rattle.salt_database.proofs.Ends.{EndsAt}
use Rattle.salt_database.proofs.ReadyDone.{ends-ready}
use Rattle.salt_database.specs.Halves.{IsOnward}
use Rattle.salt_database.specs.Performing.{MayStep}
use Rattle.salt_database.specs.Standing.{OpensIn, ServesBehind, ends_opening, left_in, opening_books}
use Rattle.salt_database.specs.declared.onward.Onward.TheVariants.{Served}
use Rattle.salt_database.specs.declared.opening.Opening as closed
use Rattle.salt_engine.proofs.Broken.{noted}
use Rattle.salt_engine.proofs.Flying.{flight-next, kept-decided, none-flies}
use Rattle.salt_engine.proofs.Going.{flight-decides, line-stays, onwards-line}
use Rattle.salt_engine.proofs.Halting.{halts, memory-at}
use Rattle.salt_engine.specs.Flights.{IsInFlight, flight_of}
use Rattle.salt_engine.specs.Performing.{BreaksOff}
use Rattle.salt_engine.specs.Standing.{left_on_devices}
use Rattle.salt_engine.specs.Stored.{Stored, kept_behind}
use Rattle.salt_engine.specs.declared.flights.InFlight.{InFlight}
use Rattle.salt_engine.specs.declared.stage.Stage.{Stage}
use Rattle.salt_engine.specs.declared.stage.Stage.TheVariants as at
use Rattle.law_states.specs.OpenUnits.{UnitState}
use Rattle.law_states.specs.Points.{Moves, Point, Say}
use Rattle.law_states.specs.States.{State}
use Rattle.salt_model.specs.Kept.{Kept}
use Rattle.salt_model.specs.Next.{decision_in}
use Rattle.salt_model.specs.Phases.{Fallen, Opening}
use Rattle.salt_model.specs.Turns.{is_statement_line}
use Rattle.salt_model.specs.declared.events.Event.{Event}
use Rattle.salt_model.specs.declared.events.Event.TheVariants.{Early, Ready}
use Rattle.salt_drain.specs.Recovering.{HasDoneEvent, books_of}
use Rattle.salt_drain.specs.declared.recovery.Recovery.{Recovery}
use Rattle.salt_driver.specs.Draining.{MayTick}
use Rattle.salt_driver.specs.Standing.{BreaksAt, IsOpenedOn, IsSoundPoint}
use Rattle.salt_scheduler.specs.Standing.{IsTurning, StandsForState}
use Rattle.salt_scheduler.specs.declared.scheduler.Scheduler.{Scheduler}
use Rattle.salt_storage.specs.Storing.{IsSoundKept}
use Rattle.salt_storage.specs.Writing.{ToWrite}
use Rattle.salt_storage.specs.declared.found.Numbers.{Numbers}
use Rattle.salt_storage.specs.declared.halt.Halt.{Halt}
use Rattle.salt_storage.specs.declared.halt.Halt.TheVariants.{Memory}
use Rattle.salt_values.specs.declared.id.Id.{Id}
use Rattle.std.proofs.Common.{ap, arith, inl, inr, subst, sym, ◌∙◌}
use Rattle.std.specs.Prelude.{Bool, List, None, Option, Some, [], false, refl, true, ℕ, ◌++◌, ◌<◌, ◌∷◌, ◌≡◌}

never-down : (p : Point) → p.state.units.phase ≡ Opening → p.state.units.phase ≡ Fallen → ⊥
never-down p opening fallen = let no = sym opening ∙ fallen in cc

-- BEFORE the event was told

pub untold-lost : (x : Recovery) (e : Event) (p : Point) (sound : IsSoundPoint p) (t : State) → HasDoneEvent x e p.state t → p.next ≡ Some e → p.state.units.phase ≡ Opening →
    (holds : Kept → Type 0) (leaves : Kept → Kept → Type 0) (rests : Kept → Type 0) (fills : ToWrite → ℕ → Type 0) (stoppable : Bool) (found : Option Numbers) → found ≡ None → (single : Bool)
    (stage : Stage Recovery) (in_flight : Option InFlight) (story told : List Event) → leaves t.units.kept t.units.kept → stage ≡ at.Lost → IsInFlight in_flight (decision_in (Some e)) p.state.units →
    told ≡ story →
    BreaksAt (left_on_devices holds leaves rests fills stoppable found (opening_books stage) single in_flight) (flight_of in_flight) Memory p e story told
untold-lost x e p sound t d comes opening holds leaves rests fills stoppable found unfound single stage in_flight story told left there flies same =
    let flown : IsInFlight in_flight (decision_in p.next) p.state.units = subst (λ (m : Option Event). IsInFlight in_flight (decision_in m) p.state.units) (sym comes) flies in
    let behind : t.units.kept ≡ kept_behind (decision_in p.next) p.state.units =
    ap (λ (s : UnitState). s.kept) d.after.units ∙ kept-decided e p.state.units d.plain ∙ ap (λ (o : Option Event). kept_behind (decision_in o) p.state.units) (sym comes) in
    inl (
      same,
      memory-at books_of holds leaves rests fills stoppable found unfound stage single in_flight p t.units.kept (flight-next p sound.trace sound.keeps (never-down p opening)) left
          (noted in_flight (decision_in p.next) p.state.units t.units.kept flown (inr (tt, behind))) (record { there = there; flies = inr flown }),
      refl,
    )

-- IT GOES ON

module _ (x : Recovery) (e : Event) (p : Point) (sound : IsSoundPoint p) (t : State) (d : HasDoneEvent x e p.state t) (comes : p.next ≡ Some e) (going : ends_opening e ≡ false) where
  abbrev pub now : Point
  now = point x e p sound t d comes going

  abbrev pub wanted : Option Event
  wanted = meant x e p sound t d comes going

  pub opens-there : (stands_for : Option Event → State → Type 0) (given : Event) → stands_for (Some given) t → Some given ≡ wanted →
      (q : Point) × Moves (Say e) p q × IsOpenedOn stands_for (Some given) q
  opens-there stands_for given state told =
      (now, moves x e p sound t d comes going, record { state = state; comes = sym told; opening = (stands x e p sound t d comes going).opening })

  now-flies : now.flight ≡ decision_in now.next
  now-flies = flight-decides e p.flight wanted d.plain

  pub opens-halts : (holds : Kept → Type 0) (leaves : Kept → Kept → Type 0) (rests : Kept → Type 0) (fills : ToWrite → ℕ → Type 0) (halt : Halt) (old stoppable : Bool) (found : Option Numbers) → found ≡ None →
      (was single : Bool) (stage : Stage Recovery) (in_flight : Option InFlight) (story told : List Event) → BreaksOff leaves fills halt stage in_flight wanted t.units → p.state.can_stop ≡ old → stoppable ≡ old →
      was ≡ is_statement_line p.state.units.line → single ≡ was → IsSoundKept t.units.kept → told ≡ story ++ e ∷ [] →
      BreaksAt (left_on_devices holds leaves rests fills stoppable found (opening_books stage) single in_flight) (flight_of in_flight) halt p e story told
  opens-halts holds leaves rests fills halt old stoppable found unfound was single stage in_flight story told b can same lined kept may tells = inr (
    tells,
    (
      now,
      moves x e p sound t d comes going,
      halts books_of holds leaves rests fills halt stoppable found unfound stage single in_flight now b now-flies (d.after.can_stop ∙ can ∙ sym same)
          (kept ∙ lined ∙ ap is_statement_line (sym (onwards-line p sound e t d.plain comes d.after))) may,
    ),
  )

  -- the steps for what comes there
  pub opens-short : (story told : List Event) (old new : ℕ) → MayStep wanted old new → told ≡ story ++ e ∷ [] → MayTick p e story told old new
  opens-short story told old new (inl same) tells = inl same
  opens-short story told old new (inr step) tells = inr (tells, (now, moves x e p sound t d comes going, step))

-- IT IS DONE

-- behind a Ready
pub serves-late : (e : Event) (x : Books) (y : Scheduler) → ends_opening e ≡ true → ((bs : List Id) → e ≡ Early bs → ⊥) →
    ((s : State) → AreBooks x s.units → s.units.units ≡ [] → s.watch ≡ empty_watch 0 → IsTurning s.units → StandsForState y s) → ServesBehind e x (λ s. StandsForState y s)
serves-late Ready x y ends late new = λ s o. new s o.books o.units o.watch (inl o.to_go)
serves-late (Early bs) x y ends late new = absurd (late bs refl)
serves-late e x y ends late new = cc

pub ended : (x : Recovery) (e : Event) (p : Point) (sound : IsSoundPoint p) (t : State) → HasDoneEvent x e p.state t → p.next ≡ Some e → p.state.units.phase ≡ Opening →
    (goes : State → Type 0) → ends_opening e ≡ true → ServesBehind e (books_of x) goes → EndsAt e p t goes
ended x Ready p sound t d comes opening goes ends serves = ends-ready x p sound t d comes opening goes serves
ended x (Early bs) p sound t d comes opening goes ends serves = ends-early x bs p sound t d comes opening goes serves
ended x e p sound t d comes opening goes ends serves = cc

pub ended-at : {S : Type 0} (holds : S → Kept → Type 0) (is_new : S → Id → Type 0) (o : closed.Opening S) (y : Scheduler) (e : Event) (p : Point) (t : State) (old stoppable was : Bool) →
    EndsAt e p t (λ s. StandsForState y s) → Stored (holds o.storage) (is_new o.storage) t.units → p.state.can_stop ≡ old → stoppable ≡ old →
    was ≡ is_statement_line p.state.units.line → o.single ≡ was → o.in_flight ≡ None → (q : Point) × Moves (Say e) p q × IsOnward holds is_new stoppable o (Served y) q
ended-at holds is_new o y e p t old stoppable was h stored can same line kept none =
    let after = h.moves.0.after in (
      h.point,
      h.moves,
      record {
        state = record {
          seen = (h.serves, subst (λ (u : UnitState). Stored (holds o.storage) (is_new o.storage) u) (sym h.units) stored);
          can_stop = after.can_stop ∙ can ∙ sym same;
          line = kept ∙ line ∙ ap is_statement_line (sym (ap (λ (u : UnitState). u.line) after.units ∙ line-stays e p.state.units h.moves.1));
          flies = none-flies o.in_flight None h.point.state.units none refl;
        };
        idle = h.idle;
      },
    )

-- what is left of the opening is less

pub end-less : (old : Stage Recovery) (x : Recovery) (e : Event) → old ≡ at.Going x → ends_opening e ≡ true → 0 < left_in old (Some e)
end-less old x e there ends = subst (λ (s : Stage Recovery). 0 < left_in s (Some e)) (sym there) (by e ends)
  where
    by : (e : Event) → ends_opening e ≡ true → 0 < left_in (at.Going x) (Some e)
    by Ready h = omega arith
    by (Early bs) h = omega arith
    by e h = cc

pub opening-less : (holds : Kept → Type 0) (is_new : Id → Type 0) (old stage : Stage Recovery) (x : Recovery) (e given : Event) (p : Point) (sound : IsSoundPoint p) (t : State)
    (d : HasDoneEvent x e p.state t) (comes : p.next ≡ Some e) (going : ends_opening e ≡ false) → old ≡ at.Going x → OpensIn holds is_new stage (Some given) t →
    IsSoundKept t.units.kept → Some given ≡ meant x e p sound t d comes going → left_in stage (Some given) < left_in old (Some e)
opening-less holds is_new old stage x e given p sound t d comes going there seen kept told =
    subst (λ (s : Stage Recovery). left_in stage (Some given) < left_in s (Some e)) (sym there) (by stage seen)
  where
    by : (s : Stage Recovery) → OpensIn holds is_new s (Some given) t → left_in s (Some given) < left_in (at.Going x) (Some e)
    by (at.Going y) h = leaves-less x e p sound t d comes going y given kept told (h.0, h.1)
    by (at.Down books) h = absurd h
    by at.Lost h = absurd h
