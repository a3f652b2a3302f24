-- A drain does no more statements than the rests of its programs tell.
use Rattle.law_states.proofs.KeepsOn.{state-kept}
use Rattle.law_states.proofs.PointsGoOn.{says-point}
use Rattle.law_states.specs.Follows.{cut_in, cuts_or_drains_in, opened_in, stands_in}
use Rattle.law_states.specs.Keeps.{KeepsUnits}
use Rattle.law_states.specs.Laws.{IsSound, is_of_run}
use Rattle.law_states.specs.OpenUnits.{UnitState}
use Rattle.law_states.specs.Points.{Ask, KeepsPoint, TraceStep, Moves, Point, Runs, Say, Says, Turn, told_by}
use Rattle.law_states.specs.Steps.{units_after, units_of}
use Rattle.law_states.specs.Told.{next_decision_number}
use Rattle.law_story.proofs.Coming.{Good}
use Rattle.law_story.proofs.Every.{IfSome}
use Rattle.law_story.proofs.Fresh.{IfComes, comes-option_or, comes-then_some}
use Rattle.law_story.proofs.Replays.{replays}
use Rattle.salt_model.specs.Kept.{WellKept, programs_of}
use Rattle.salt_model.specs.Next.{flight, is_decision, next}
use Rattle.salt_model.specs.Phases.{Opening, Serving, phase}
use Rattle.salt_model.specs.Played.{IsPlayed}
use Rattle.salt_model.specs.Segments.{May}
use Rattle.salt_model.specs.Stops.{is_just_opened}
use Rattle.salt_model.specs.Trace.{Trace, from, start_of, ◌asks◌, ◌says◌, ◌turns◌}
use Rattle.salt_model.specs.Words.{Every}
use Rattle.salt_model.specs.declared.events.Event.{Event}
use Rattle.salt_model.specs.declared.events.Event.TheVariants.{Defined, Down, Early, Opened, Ready}
use Rattle.law_openings.proofs.Draining.{Goes, cuts-follow, is_defined, opening-follows}
use Rattle.law_openings.proofs.OneState.{one-state}
use Rattle.law_openings.proofs.Opening.{said-last, serves-not}
use Rattle.law_openings.proofs.Standing.{comes-weaker, decided, stands-at, told-opened, told-within}
use Rattle.law_openings.proofs.Staying.{can-stay}
use Rattle.law_openings.specs.Draining.{CanDrain, IsBehindFlight, LeadsOn, Stands, defined_in, rests_behind, statements_at, statements_left}
use Rattle.salt_model.specs.Rests.{rests_of, statements_in, statements_told}
use Rattle.std.proofs.Common.{ap, arith, inl, inr, subst, sym, ◌∙◌}
use Rattle.std.specs.Bool.{then_some}
use Rattle.std.specs.Prelude.{Bool, List, None, Option, Some, [], false, refl, true, ℕ, ◌+◌, ◌==◌, ◌∷◌, ◌≡◌, ◌≤◌, ◌⊎◌}

-- the decision in flight isn't what comes next
abbrev IsNoFlight : Trace → Event → Type 0
IsNoFlight trace e = (is_just_opened trace ≡ false) ⊎ (is_decision e ≡ false)

may-next : (trace : Trace) (e : Event) → is_of_run e ≡ false → May trace e → next trace ≡ Some e
may-next trace (Down why) r m = cc
may-next trace (Opened boot n) r m = cc
may-next trace e r m = m

abbrev Drives : UnitState → Event → Type 0
Drives s e = (f : Event) × Goes f s e

abbrev DrivesUnless : UnitState → Event → Type 0
DrivesUnless s e = is_decision e ≡ false → Drives s e

-- behind an Opened the decision in flight comes, or the drain goes on
opened-drives : (s : UnitState) (boot n : ℕ) (pending : Option Event) → Stands s (Opened boot n) → IfSome (λ e. is_decision e ≡ true) pending →
    IfComes (DrivesUnless s) (opened_in s n pending)
opened-drives s boot n pending all flying =
    comes-option_or (DrivesUnless s) (stands_in s n pending) (cuts_or_drains_in s (cut_in s)) (flies pending flying)
    (comes-weaker (Goes (Opened boot n) s) (DrivesUnless s) (λ e g d. (Opened boot n, g)) (cuts_or_drains_in s (cut_in s)) (cuts-follow (Opened boot n) s all (omega arith) (omega arith)))
  where
    flies : (o : Option Event) → IfSome (λ e. is_decision e ≡ true) o → IfComes (DrivesUnless s) (stands_in s n o)
    flies None h = tt
    flies (Some e) h = comes-then_some (DrivesUnless s) (n == next_decision_number s) e (λ d. let t : true ≡ false = sym h ∙ d in cc)

drives-next : (trace : Trace) (f e : Event) → IsPlayed (trace says f) → WellKept (start_of trace).kept → phase (trace says f) ≡ Opening →
    next (trace says f) ≡ Some e → IsNoFlight (trace says f) e → Drives (units_of (trace says f)) e
drives-next trace (Down why) e p w h n q = cc
drives-next trace Ready e p w h n q = cc
drives-next trace (Early bs) e p w h n q = cc
drives-next trace (Opened boot m) e p w h n (inl q) = cc
drives-next trace (Opened boot m) e p w h n (inr q) =
    let s = units_of (trace says Opened boot m) in
    subst (IfComes (DrivesUnless s)) (sym (told-opened trace boot m p w) ∙ n)
    (opened-drives s boot m (flight trace) (stands-at trace (Opened boot m) p w h) (decided (Good trace) (flight trace) (replays trace p.0).flying)) q
drives-next trace f e p w h n q =
    let s = units_of (trace says f) in
    (f, subst (IfComes (Goes f s)) (sym (told-within trace f refl p w h) ∙ n) (opening-follows (units_of trace) s f refl (stands-at trace f p w h)))

drives-at : (trace : Trace) (e : Event) → IsPlayed trace → WellKept (start_of trace).kept → phase trace ≡ Opening → next trace ≡ Some e → IsNoFlight trace e →
    Drives (units_of trace) e
drives-at (from k) e p w h n q = cc
drives-at (trace asks asked) e p w h n q = absurd (serves-not (phase trace) p.1.0 (inr h))
drives-at (trace turns b) e p w h n q = absurd (serves-not (phase trace) p.1 (inr h))
drives-at (trace says f) e p w h n q = drives-next trace f e p w h n q

drives : (e : Event) (s : UnitState) (trace : Trace) → KeepsUnits s trace → IsSound (trace says e) → is_of_run e ≡ false → s.phase ≡ Opening → IsNoFlight trace e →
    Drives s e
drives e s trace keeps sound r h q =
    let same : units_of trace ≡ s = one-state trace (units_of trace) s (state-kept trace sound.played.0 sound.well) keeps in
    subst (λ s. Drives s e) same (drives-at trace e sound.played.0 sound.well (keeps.phase ∙ h) (may-next trace e r sound.played.1) q)

no-flight : (trace : Trace) (e : Event) → IsBehindFlight trace (Some e) → IsNoFlight trace e
no-flight trace e (inl h) = inl h
no-flight trace e (inr h) = inr (by (is_decision e) refl h)
  where
    by : (b : Bool) → is_decision e ≡ b → then_some b e ≡ None → is_decision e ≡ false
    by false d x = d
    by true d x = cc

pub statements-fall : (e : Event) (s : UnitState) (trace : Trace) → KeepsUnits s trace → IsSound (trace says e) → is_of_run e ≡ false → s.phase ≡ Opening →
    IsBehindFlight trace (Some e) → CanDrain s.kept → statements_left (units_after e s) + statements_in e ≤ statements_left s
statements-fall e s trace keeps sound r h q can = (drives e s trace keeps sound r h (no-flight trace e q)).1.statements can

-- A RUN within an opening.

none-defined : (s : UnitState) (e : Event) → is_defined e ≡ false → Every LeadsOn (defined_in s e)
none-defined s (Defined n text) d = cc
none-defined s e d = tt

phase-on : (e : Event) (s : UnitState) → is_of_run e ≡ false → ((units_after e s).phase ≡ s.phase) ⊎ ((units_after e s).phase ≡ Serving)
phase-on (Down why) s r = cc
phase-on (Opened boot n) s r = cc
phase-on Ready s r = inr refl
phase-on (Early bs) s r = inr refl
phase-on e s r = inl refl

serves-on : (m : TraceStep) (p q : Point) → Moves m p q → p.state.units.phase ≡ Serving → q.state.units.phase ≡ Serving
serves-on (Ask asked) p q a h = ap (λ s. s.units.phase) a.state ∙ h
serves-on (Turn b) p q a h = ap (λ s. s.units.phase) a.state ∙ h
serves-on (Say e) p q a h = ap (λ (s : UnitState). s.phase) a.0.after.units ∙ by (phase-on e p.state.units a.1)
  where
    by : ((units_after e p.state.units).phase ≡ p.state.units.phase) ⊎ ((units_after e p.state.units).phase ≡ Serving) → (units_after e p.state.units).phase ≡ Serving
    by (inl x) = x ∙ h
    by (inr x) = x

serves-through : (ms : List TraceStep) (p q : Point) → Runs p ms q → p.state.units.phase ≡ Serving → q.state.units.phase ≡ Serving
serves-through [] p q r h = ap (λ (p : Point). p.state.units.phase) (sym r) ∙ h
serves-through (m ∷ ms) p q r h = serves-through ms r.0 q r.2 (serves-on m p r.0 r.1 h)

not-both : {A : Type 0} (p : Point) → p.state.units.phase ≡ Opening → p.state.units.phase ≡ Serving → A
not-both p h g = cc

pub left-most : (s : UnitState) → statements_left s ≤ rests_of (programs_of s.kept) s.kept.conts
left-most s = omega arith

-- within an opening each point is in it
mid-opens : (e : Event) (ms : List TraceStep) (old mid new : Point) → Moves (Say e) old mid → old.state.units.phase ≡ Opening → Runs mid ms new → new.state.units.phase ≡ Opening →
    mid.state.units.phase ≡ Opening
mid-opens e ms old mid new m h r g = by (phase-on e old.state.units m.1)
  where
    after : mid.state.units.phase ≡ (units_after e old.state.units).phase
    after = ap (λ (s : UnitState). s.phase) m.0.after.units

    by : ((units_after e old.state.units).phase ≡ old.state.units.phase) ⊎ ((units_after e old.state.units).phase ≡ Serving) → mid.state.units.phase ≡ Opening
    by (inl x) = after ∙ x ∙ h
    by (inr x) = not-both new g (serves-through ms mid new r (after ∙ x))

-- where a run within an opening has come to, and what it has done
record Drained (ms : List TraceStep) (old new : Point) : Type 0 where
  trace : Trace
  keeps : KeepsPoint new trace
  sound : IsSound trace
  can : CanDrain new.state.units.kept
  behind : IsBehindFlight trace new.next
  less : statements_left new.state.units + statements_told (told_by ms) ≤ statements_left old.state.units

drained : (ms : List TraceStep) (old new : Point) (trace : Trace) → KeepsPoint old trace → IsSound trace → CanDrain old.state.units.kept →
    old.state.units.phase ≡ Opening → IsBehindFlight trace old.next → Runs old ms new → new.state.units.phase ≡ Opening → Drained ms old new
drained [] old new trace k sound can h q r g =
    subst (Drained [] old) r (record { trace = trace; keeps = k; sound = sound; can = can; behind = q; less = omega arith })
drained (Ask asked ∷ ms) old new trace k sound can h q r g = not-both old h r.1.idle.serves
drained (Turn b ∷ ms) old new trace k sound can h q r g = not-both old h r.1.serves
drained (Say e ∷ ms) old new trace k sound can h q r g =
    let mid = r.0 in
    let said : Says e old mid = r.1.0 in
    let on = says-point e old mid trace k sound said r.1.1 in
    let free = no-flight trace e (subst (IsBehindFlight trace) said.comes q) in
    let goes = drives e old.state.units trace k.state.units on.1 r.1.1 h free in
    let left = goes.1.statements can in
    let after : CanDrain (units_after e old.state.units).kept = can-stay old.state.units trace e k.state.units on.1 can (none-defined old.state.units e goes.1.defines) in
    let here : CanDrain mid.state.units.kept = subst (λ (s : UnitState). CanDrain s.kept) (sym said.after.units) after in
    let rest = drained ms mid new (trace says e) on.0 on.1 here (mid-opens e ms old mid new r.1 h r.2 g) (inl (said-last trace e r.1.1)) r.2 g in
    let same = ap statements_left said.after.units in
    let less = rest.less in
    record { trace = rest.trace; keeps = rest.keeps; sound = rest.sound; can = rest.can; behind = rest.behind; less = omega arith }

pub does-no-more : (ms : List TraceStep) (old new : Point) (trace : Trace) → KeepsPoint old trace → IsSound trace → CanDrain old.state.units.kept →
    old.state.units.phase ≡ Opening → IsBehindFlight trace old.next → Runs old ms new → new.state.units.phase ≡ Opening →
    statements_left new.state.units + statements_told (told_by ms) ≤ statements_left old.state.units
does-no-more ms old new trace k sound can h q r g = (drained ms old new trace k sound can h q r g).less

-- what comes next may stand
next-may : (trace : Trace) (e : Event) → is_of_run e ≡ false → next trace ≡ Some e → May trace e
next-may trace (Down why) r m = cc
next-may trace (Opened boot n) r m = cc
next-may trace e r m = m

idle-of-run : (e : Event) → is_of_run e ≡ true → statements_in e ≡ 0
idle-of-run (Down why) r = refl
idle-of-run (Opened boot n) r = refl
idle-of-run e r = cc

-- nor with the event at hand
does-no-more-next : (ms : List TraceStep) (old new : Point) (trace : Trace) (e : Event) → KeepsPoint old trace → IsSound trace → CanDrain old.state.units.kept →
    old.state.units.phase ≡ Opening → IsBehindFlight trace old.next → Runs old ms new → new.state.units.phase ≡ Opening → new.next ≡ Some e →
    statements_told (told_by ms) + statements_in e ≤ statements_left old.state.units
does-no-more-next ms old new trace e k sound can h q r g comes = by (is_of_run e) refl
  where
    d : Drained ms old new
    d = drained ms old new trace k sound can h q r g

    by : (b : Bool) → is_of_run e ≡ b → statements_told (told_by ms) + statements_in e ≤ statements_left old.state.units
    by true run = let none = idle-of-run e run in let less = d.less in omega arith
    by false plain =
        let here : IsSound (d.trace says e) = record { played = (d.sound.played, next-may d.trace e plain (d.keeps.next ∙ comes)); well = d.sound.well } in
        let last = statements-fall e new.state.units d.trace d.keeps.state.units here plain g (subst (IsBehindFlight d.trace) comes d.behind) d.can in
        let less = d.less in
        omega arith

-- from what comes next in an opening on, also the decision in flight
pub does-its-rests : (ms : List TraceStep) (old new : Point) (trace : Trace) (first e : Event) → KeepsPoint old trace → IsSound trace → old.state.units.phase ≡ Opening →
    old.next ≡ Some first → CanDrain (units_after first old.state.units).kept → Runs old ms new → new.state.units.phase ≡ Opening → new.next ≡ Some e →
    statements_told (told_by ms) + statements_in e ≤ rests_behind first old.state.units + statements_in first
does-its-rests [] old new trace first e k sound h comes can r g at =
    let both : Some first ≡ Some e = sym comes ∙ ap (λ (p : Point). p.next) r ∙ at in
    let same = ap statements_at both in
    omega arith
does-its-rests (Ask asked ∷ ms) old new trace first e k sound h comes can r g at = not-both old h r.1.idle.serves
does-its-rests (Turn b ∷ ms) old new trace first e k sound h comes can r g at = not-both old h r.1.serves
does-its-rests (Say f ∷ ms) old new trace first e k sound h comes can r g at =
    let mid = r.0 in
    let said : Says f old mid = r.1.0 in
    let on = says-point f old mid trace k sound said r.1.1 in
    let same : first ≡ f = let both : Some first ≡ Some f = sym comes ∙ said.comes in cc in
    let after : mid.state.units ≡ units_after first old.state.units = said.after.units ∙ ap (λ x. units_after x old.state.units) (sym same) in
    let here : CanDrain mid.state.units.kept = subst (λ (s : UnitState). CanDrain s.kept) (sym after) can in
    let rest = does-no-more-next ms mid new (trace says f) e on.0 on.1 here (mid-opens f ms old mid new r.1 h r.2 g) (inl (said-last trace f r.1.1)) r.2 g at in
    let most = left-most mid.state.units in
    let rests : rests_of (programs_of mid.state.units.kept) mid.state.units.kept.conts ≡ rests_behind first old.state.units =
    ap (λ (s : UnitState). rests_of (programs_of s.kept) s.kept.conts) after in
    let done = ap statements_in same in
    omega arith
