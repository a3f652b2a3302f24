-- An event of a line is said: what was performed behind it is a move of the engine's point, or it broke off there.
use Rattle.salt_ast.specs.declared.lines.Line.{Line}
use Rattle.salt_engine.proofs.Netted.{other-sent}
use Rattle.salt_engine.specs.Netted.{net_after}
use Rattle.salt_net.specs.Turns.{Turning}
use Rattle.salt_storage.specs.Staying.{Setup}
use Rattle.salt_engine.proofs.Broken.{noted}
use Rattle.salt_engine.proofs.Flying.{flight-next, kept-decided}
use Rattle.salt_engine.proofs.Going.{flight-decides}
use Rattle.salt_engine.proofs.Halting.{halts, memory-as}
use Rattle.salt_engine.proofs.InStage.{broken-out, followed}
use Rattle.salt_engine.proofs.ServingGoes.{goes, meant, moves, plain, point, read, serves, serves-on}
use Rattle.salt_engine.proofs.Stages.{left-at, serves-now, turns-done, turns-now}
use Rattle.salt_engine.specs.Flights.{IsInFlight, flight_of}
use Rattle.salt_engine.specs.Performing.{BreaksOff, GoesOnServingIn, PerformsEvent, broken_by}
use Rattle.salt_engine.specs.Standing.{AgreesWithState, IsGoingStage, StandsAtEventIn, follow_in, left_on_devices, serving_books, turns_in, waits_in}
use Rattle.salt_engine.specs.Stored.{Stored, kept_behind}
use Rattle.salt_engine.specs.declared.flights.InFlight.{InFlight}
use Rattle.salt_engine.specs.declared.stage.Stage.TheVariants as at
use Rattle.salt_engine.specs.declared.stage.Stage.{Stage}
use Rattle.law_states.proofs.SettlingEnds.{to-come-falls}
use Rattle.law_states.specs.Points.{Moves, Point, Say}
use Rattle.law_states.specs.Settling.{to_come, waiters}
use Rattle.law_states.specs.States.{State}
use Rattle.law_states.specs.OpenUnits.{UnitState}
use Rattle.salt_model.specs.Kept.{Kept}
use Rattle.salt_model.specs.Next.{decision_in}
use Rattle.salt_model.specs.Phases.{Fallen, Serving}
use Rattle.salt_model.specs.Turns.{is_statement_line}
use Rattle.salt_model.specs.declared.events.Event.TheVariants.{Refused}
use Rattle.salt_model.specs.declared.events.Event.{Event}
use Rattle.salt_model.specs.declared.events.Refusal.{Refusal}
use Rattle.salt_scheduler.proofs.Following.{not-of-run}
use Rattle.salt_scheduler.specs.Standing.{HasDoneEvent, behind_in, books_of}
use Rattle.salt_scheduler.specs.declared.scheduler.Scheduler.{Scheduler}
use Rattle.salt_driver.proofs.Advancing.{sound-moved}
use Rattle.salt_driver.proofs.Refusing.{refused-rests}
use Rattle.salt_driver.specs.Standing.{BreaksAt, IsAt, IsSoundPoint, left_to_come}
use Rattle.salt_storage.specs.Storing.{IsSoundKept}
use Rattle.salt_storage.specs.Writing.{ToWrite}
use Rattle.salt_storage.specs.declared.halt.Halt.TheVariants.{Memory}
use Rattle.salt_storage.specs.declared.halt.Halt.{Halt}
use Rattle.salt_values.specs.declared.id.Id.{Id}
use Rattle.std.proofs.Common.{ap, arith, inl, inr, subst, sym, ◌∙◌}
use Rattle.std.specs.Prelude.{Bool, List, None, Option, Some, [], refl, ℕ, ◌++◌, ◌<◌, ◌∷◌, ◌≡◌, ◌≤◌}

-- while it serves it has not fallen
pub never-fallen : (p : Point) → p.state.units.phase ≡ Serving → p.state.units.phase ≡ Fallen → ⊥
never-fallen p serves fallen = let no = sym serves ∙ fallen in cc

-- what is kept behind an event that comes next
pub kept-behind-next : (p : Point) (sound : IsSoundPoint p) (e : Event) (t : State) (x : Scheduler) → p.next ≡ Some e → HasDoneEvent x e p.state t → p.state.units.phase ≡ Serving →
    t.units.kept ≡ kept_behind (decision_in p.next) p.state.units
kept-behind-next p sound e t x comes d phase =
    ap (λ (s : UnitState). s.kept) d.after.units ∙ kept-decided e p.state.units (not-of-run e d.served)
    ∙ ap (λ (o : Option Event). kept_behind (decision_in o) p.state.units) (sym comes)

module _ (line : Line) (x : Scheduler) (e : Event) (p : Point) (sound : IsSoundPoint p) (t : State) (d : HasDoneEvent x e p.state t) (comes : p.next ≡ Some e)
    (phase : p.state.units.phase ≡ Serving) (served : p.state.units.line ≡ line) where
  abbrev pub now : Point
  now = point line x e p sound t d comes phase served

  abbrev pub wanted : Option Event
  wanted = meant line x e p sound t d comes phase served (read line x e p sound t d comes phase served)

  pub said-there : (stands_for : Option Event → State → Type 0) (given : Option Event) → stands_for given t → given ≡ wanted →
      (q : Point) × Moves (Say e) p q × IsAt stands_for line given q
  said-there stands_for given state told =
      let s = serves line x e p sound t d comes phase served in
      (now, moves line x e p sound t d comes phase served, record { state = state; comes = sym told; serves = s.phase; line = s.line })

  pub said-goes : (holds : Kept → Type 0) (is_new : Id → Type 0) (stage : Stage Scheduler) → stage ≡ at.Going x → Stored holds is_new t.units → GoesOnServingIn holds is_new line stage t
  said-goes holds is_new stage there stored =
      subst (λ (q : Stage Scheduler). GoesOnServingIn holds is_new line q t) (sym there) (goes line x e p sound t d comes phase served holds is_new stored)

  -- what was meant, by the stage that it stood in
  behind-as : (stage : Stage Scheduler) → stage ≡ at.Going x → behind_in t (read line x e p sound t d comes phase served) (follow_in stage) ≡ wanted
  behind-as stage there = sym (followed t (read line x e p sound t d comes phase served) stage x there)

  pub said-performs : (holds : Kept → Type 0) (is_new : Id → Type 0) (stage later : Stage Scheduler) (in_flight : Option InFlight) (given : Option Event) → stage ≡ at.Going x →
      PerformsEvent (StandsAtEventIn holds is_new later) in_flight (behind_in t (read line x e p sound t d comes phase served) (follow_in stage)) given t →
      PerformsEvent (StandsAtEventIn holds is_new later) in_flight wanted given t
  said-performs holds is_new stage later in_flight given there h = record { told = h.told ∙ behind-as stage there; sees = h.sees; flies = h.flies }

  -- what was sent of it
  pub said-sent : (setup : Setup) (old new : Option Turning) (stage : Stage Scheduler) → stage ≡ at.Going x →
      new ≡ net_after setup (behind_in t (read line x e p sound t d comes phase served) (follow_in stage)) t.units old → new ≡ net_after setup wanted t.units old
  said-sent setup old new stage there sent = other-sent setup old new (behind_in t (read line x e p sound t d comes phase served) (follow_in stage)) wanted t (behind-as stage there) sent

  pub said-breaks : (leaves : Kept → Kept → Type 0) (fills : ToWrite → ℕ → Type 0) (halt told : Halt) (stage later now : Stage Scheduler) (in_flight : Option InFlight) → stage ≡ at.Going x →
      told ≡ halt → now ≡ broken_by halt later →
      BreaksOff leaves fills halt (broken_by halt later) in_flight (behind_in t (read line x e p sound t d comes phase served) (follow_in stage)) t.units →
      BreaksOff leaves fills told now in_flight wanted t.units
  said-breaks leaves fills halt told stage later now in_flight there same broken b =
      subst (λ (m : Option Event). BreaksOff leaves fills told now in_flight m t.units) (behind-as stage there)
      (broken-out leaves fills halt told later now in_flight (behind_in t (read line x e p sound t d comes phase served) (follow_in stage)) t.units same broken b)

  pub said-sees : (holds : Kept → Type 0) (is_new : Id → Type 0) (old stoppable : Bool) (was single : Bool) (stage : Stage Scheduler) (in_flight : Option InFlight) (given : Option Event) →
      PerformsEvent (StandsAtEventIn holds is_new stage) in_flight wanted given t → p.state.can_stop ≡ old → stoppable ≡ old → was ≡ is_statement_line p.state.units.line → single ≡ was →
      AgreesWithState (StandsAtEventIn holds is_new stage) stoppable single in_flight given t
  said-sees holds is_new old stoppable was single stage in_flight given h can same lined kept =
      serves-on line x e p sound t d comes phase served holds is_new old stoppable was single stage in_flight given h can same lined kept

  -- it broke off behind the event

  now-flies : now.flight ≡ decision_in now.next
  now-flies = flight-decides e p.flight wanted (plain line x e p sound t d comes phase served)

  line-now : (was single : Bool) → was ≡ is_statement_line p.state.units.line → single ≡ was → single ≡ is_statement_line t.units.line
  line-now was single lined kept =
      let s = serves line x e p sound t d comes phase served in
      kept ∙ lined ∙ ap is_statement_line (served ∙ sym s.line)

  pub said-halts : (holds : Kept → Type 0) (leaves : Kept → Kept → Type 0) (rests : Kept → Type 0) (fills : ToWrite → ℕ → Type 0) (halt : Halt) (old stoppable : Bool) (was single : Bool) (stage : Stage Scheduler)
      (in_flight : Option InFlight) (story told : List Event) → BreaksOff leaves fills halt stage in_flight wanted t.units → p.state.can_stop ≡ old → stoppable ≡ old →
      was ≡ is_statement_line p.state.units.line → single ≡ was → IsSoundKept t.units.kept → told ≡ story ++ e ∷ [] →
      BreaksAt (left_on_devices holds leaves rests fills stoppable None (serving_books stage) single in_flight) (flight_of in_flight) halt p e story told
  said-halts holds leaves rests fills halt old stoppable was single stage in_flight story told b can same lined kept may tells = inr (
    tells,
    (now, moves line x e p sound t d comes phase served, halts books_of holds leaves rests fills halt stoppable None refl stage single in_flight now b now-flies (d.after.can_stop ∙ can ∙ sym same) (line-now was single lined kept) may),
  )

  -- or before it was told
  pub said-lost : (holds : Kept → Type 0) (leaves : Kept → Kept → Type 0) (rests : Kept → Type 0) (fills : ToWrite → ℕ → Type 0) (halt : Halt) (stoppable : Bool) (single : Bool) (stage : Stage Scheduler)
      (in_flight : Option InFlight) (story told : List Event) → halt ≡ Memory → leaves t.units.kept t.units.kept → stage ≡ at.Lost → IsInFlight in_flight (decision_in (Some e)) p.state.units → told ≡ story →
      BreaksAt (left_on_devices holds leaves rests fills stoppable None (serving_books stage) single in_flight) (flight_of in_flight) halt p e story told
  said-lost holds leaves rests fills halt stoppable single stage in_flight story told memory left there flies same =
      let flown : IsInFlight in_flight (decision_in p.next) p.state.units = subst (λ (m : Option Event). IsInFlight in_flight (decision_in m) p.state.units) (sym comes) flies in
      inl (
        same,
        memory-as books_of holds leaves rests fills stoppable stage single in_flight halt p t.units.kept memory (flight-next p sound.trace sound.keeps (never-fallen p phase)) left
            (noted in_flight (decision_in p.next) p.state.units t.units.kept flown (inr (tt, kept-behind-next p sound e t x comes d phase))) (record { there = there; flies = inr flown }),
        memory,
      )

  -- less is still to come, and no more turns

  now-sound : IsSoundPoint now
  now-sound = sound-moved (Say e) p now tt sound (moves line x e p sound t d comes phase served)

  stage-now : (holds : Kept → Type 0) (is_new : Id → Type 0) (stage : Stage Scheduler) (given : Option Event) → StandsAtEventIn holds is_new stage given t → IsGoingStage stage
  stage-now holds is_new stage given seen = serves-now holds is_new stage given t seen

  pub said-less : (holds later : Kept → Type 0) (is_new new_later : Id → Type 0) (old stage : Stage Scheduler) (given : Option Event) → StandsAtEventIn holds is_new old (Some e) p.state →
      StandsAtEventIn later new_later stage given t → given ≡ wanted → left_to_come (waits_in stage) given < left_to_come (waits_in old) (Some e)
  said-less holds later is_new new_later old stage given seen sees told =
      let m = moves line x e p sound t d comes phase served in
      let before : left_to_come (waits_in old) (Some e) ≡ to_come (waiters p.state) (Some e) =
      left-at holds is_new old (Some e) p sound comes seen (serves-now holds is_new old (Some e) p.state seen) in
      let after : left_to_come (waits_in stage) given ≡ to_come (waiters t) given =
      left-at later new_later stage given now now-sound (sym told) sees (stage-now later new_later stage given sees) in
      subst (λ n. n < left_to_come (waits_in old) (Some e)) (sym after)
      (subst (λ n. to_come (waiters t) given < n) (sym before)
      (subst (λ (o : Option Event). to_come (waiters t) o < to_come (waiters p.state) (Some e)) (sym m.0.next ∙ sym told)
      (to-come-falls e p.state t m.0.read p.flight m.1 (serves line x e p sound t d comes phase served).phase d.after)))

  pub said-turns : (later : Kept → Type 0) (new_later : Id → Type 0) (old stage : Stage Scheduler) (given : Option Event) → old ≡ at.Going x →
      StandsAtEventIn later new_later stage given t → turns_in stage ≤ turns_in old
  said-turns later new_later old stage given there sees =
      let before = turns-done old x e p.state t there d in
      let after = turns-now later new_later stage given t sees in
      omega arith

  -- behind a refusal nothing comes
  pub said-rests : (r : Refusal) → e ≡ Refused r → wanted ≡ None
  said-rests r is = refused-rests r p now sound phase (subst (λ (f : Event). Moves (Say f) p now) is (moves line x e p sound t d comes phase served))
