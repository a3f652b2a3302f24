-- An opening never rests: something comes next until it is ready.
use Rattle.salt_ast.specs.declared.trees.Statement.{Statement}
use Rattle.law_states.specs.Follows.{cut_in, cuts_or_drains_in, drains_in, follow_opening_in, opening_in, stands_in, unit_of}
use Rattle.law_states.specs.Laws.{IsSound}
use Rattle.law_states.specs.OpenUnits.{OpenUnit, UnitState, asking, asks_next, names_in, unit_named}
use Rattle.law_states.specs.Points.{KeepsPoint, Point}
use Rattle.law_states.specs.Steps.{units_of}
use Rattle.law_states.specs.Told.{after_did_in, commits_in, does_in, is_at_end_in, serve_in}
use Rattle.law_states.proofs.KeepsOn.{state-kept}
use Rattle.law_story.proofs.Lists.{order-none}
use Rattle.salt_model.specs.Kept.{WellKept, block_of_kind}
use Rattle.salt_model.specs.Next.{flight, next}
use Rattle.salt_model.specs.Phases.{Opening, phase}
use Rattle.salt_model.specs.Played.{IsPlayed}
use Rattle.salt_model.specs.Trace.{Trace, from, start_of, ◌asks◌, ◌says◌, ◌turns◌}
use Rattle.salt_model.specs.Words.{Every, is_empty}
use Rattle.salt_model.specs.declared.events.Answer.{Answer}
use Rattle.salt_model.specs.declared.events.Answer.TheVariants.{Failed}
use Rattle.salt_model.specs.declared.events.Event.{Event}
use Rattle.salt_model.specs.declared.events.Event.TheVariants.{Began, Did, Down, Early, Opened, Ready}
use Rattle.salt_model.specs.declared.events.UnitKind.{UnitKind}
use Rattle.salt_model.specs.declared.events.UnitKind.TheVariants.{Later}
use Rattle.law_openings.proofs.Draining.{IsWithin, State, Unit, block-counts, block-found, drained, drained-within, found}
use Rattle.law_openings.proofs.OneState.{one-state}
use Rattle.law_openings.proofs.Opening.{serves-not}
use Rattle.law_openings.proofs.Standing.{stands-at, told-opened, told-within}
use Rattle.law_openings.specs.Draining.{AreEarlier, CanDrain, Stands, StandsAtPart, is_earlier, is_within}
use Rattle.salt_values.specs.declared.cont.Cont.{Cont}
use Rattle.salt_values.specs.declared.id.Id.{Id}
use Rattle.std.proofs.Common.{ap, arith, inr, subst, sym, ◌∙◌}
use Rattle.std.proofs.lemmas.Bool.Decides.{nat_tests}
use Rattle.std.proofs.lemmas.Option.{slice_get-get_or}
use Rattle.std.specs.Bool.{then_some}
use Rattle.std.specs.List.{filter}
use Rattle.std.specs.Option.{option_or}
use Rattle.std.specs.Prelude.{Bool, IsSome, List, None, Option, Some, [], cond, false, is_some, length, nat_lt, option_map, refl, slice_get, true, ℕ, ◌<◌, ◌==◌, ◌∷◌, ◌≡◌, ◌≤◌}

abbrev Comes : Option Event → Type 0
Comes o = is_some o ≡ true

either-comes : (o p : Option Event) → Comes p → Comes (option_or o p)
either-comes None p h = h
either-comes (Some e) p h = refl

first-comes : (o p : Option Event) → Comes o → Comes (option_or o p)
first-comes None p h = cc
first-comes (Some e) p h = refl

served-comes : {A : Type 0} (f : A → Event) (o : Option A) → is_some o ≡ true → Comes (option_map f o)
served-comes f None h = cc
served-comes f (Some x) h = refl

-- where no unit is left to cut, none is open
none-left : (boot : ℕ) (os : List OpenUnit) → Every (λ o. is_earlier boot o ≡ true) os → filter (λ u. nat_lt u.boot boot) (names_in os) ≡ [] → os ≡ []
none-left boot [] h e = refl
none-left boot (o ∷ os) h e = let more : o.unit ∷ filter (λ u. nat_lt u.boot boot) (names_in os) ≡ [] = subst (λ b. cond b (o.unit ∷ filter (λ u. nat_lt u.boot boot) (names_in os)) (filter (λ u. nat_lt u.boot boot) (names_in os)) ≡ []) h.0 e in cc

cuts-come : (s : UnitState) → AreEarlier s → Comes (cuts_or_drains_in s (cut_in s))
cuts-come s all = by (cut_in s) refl
  where
    by : (us : List Id) → cut_in s ≡ us → Comes (cuts_or_drains_in s us)
    by (u ∷ us) e = refl
    by [] e =
        let none : s.units ≡ [] = none-left s.kept.boot s.units all (order-none (filter (λ u. nat_lt u.boot s.kept.boot) (names_in s.units)) e) in
        ap (λ (os : List OpenUnit). is_some (then_some (is_empty os) (drains_in s s.kept.conts))) none

earlier-comes : (s : UnitState) (o : Option Event) → AreEarlier s → Comes (option_or o (cuts_or_drains_in s (cut_in s)))
earlier-comes s o all = either-comes o (cuts_or_drains_in s (cut_in s)) (cuts-come s all)

-- A DRAIN'S UNIT has a statement to do, or its end.

at-end : (n m : ℕ) → n ≤ m → (n == m) ≡ false → n < m
at-end n m l h = grind (arith, nat_tests)

has-more : (block : List Statement) (n : ℕ) → n < length block → is_some (slice_get block n) ≡ true
has-more [] n l = absurd (omega arith)
has-more (st ∷ sts) n l = ap is_some (slice_get-get_or (st ∷ sts) n st l)

module _ (s : UnitState) (o : OpenUnit) (c : Cont) (cs : List Cont) (boot : o.unit.boot ≡ s.kept.boot) (can : CanDrain (State s o c cs boot).kept) where
  abbrev Here : UnitState
  Here = State s o c cs boot

  abbrev Its : OpenUnit
  Its = Unit s o c cs boot

  at : StandsAtPart Here.kept c
  at = can.conts.0

  block : block_of_kind Here.kept (Later c.base c.next) ≡ Some at.part.block
  block = block-found s o c cs boot at

  asks-more : o.done < length at.part.block → is_some (asks_next Here Its) ≡ true
  asks-more l = ap (λ b. is_some (asking Here.line Its b)) block ∙ has-more at.part.block o.done l

  began-comes : (kind : UnitKind) → o.done ≡ 0 → Comes (opening_in Here (Began o.unit kind) (unit_named o.unit Here.units))
  began-comes kind z =
      let l = block-counts Here.kept can c at in
      subst (λ q. Comes (opening_in Here (Began o.unit kind) q)) (sym (found s o c cs boot))
      (first-comes (serve_in Here Its) (cuts_or_drains_in Here (cut_in Here)) (served-comes (does_in Here Its) (asks_next Here Its) (asks-more (omega arith))))

  ends-or-does : (b : Bool) → (o.done == length at.part.block) ≡ b → o.done ≤ length at.part.block →
      Comes (option_or (then_some b (commits_in Here Its)) (serve_in Here Its))
  ends-or-does true e l = refl
  ends-or-does false e l = served-comes (does_in Here Its) (asks_next Here Its) (asks-more (at-end o.done (length at.part.block) l e))

  did-more : (a : Answer) → IsWithin s o c cs boot → Comes (option_or (after_did_in Here Its a) (serve_in Here Its))
  did-more (Failed x) w = refl
  did-more a w =
      subst (λ q. Comes (option_or (then_some (is_at_end_in Its q) (commits_in Here Its)) (serve_in Here Its))) (sym block)
      (ends-or-does (o.done == length at.part.block) refl (w at.part.block block))

  did-comes : (st : Statement) (a : Answer) → IsWithin s o c cs boot → Comes (opening_in Here (Did o.unit st a) (unit_named o.unit Here.units))
  did-comes st a w =
      subst (λ q. Comes (opening_in Here (Did o.unit st a) q)) (sym (found s o c cs boot))
      (first-comes (option_or (after_did_in Here Its a) (serve_in Here Its)) (cuts_or_drains_in Here (cut_in Here)) (did-more a w))

pub opening-comes : (before s : UnitState) (f : Event) → is_within f ≡ true → Stands s f → CanDrain s.kept → Comes (opening_in s f (unit_of f before s))
opening-comes before s (Down why) w h can = cc
opening-comes before s (Opened boot n) w h can = cc
opening-comes before s Ready w h can = cc
opening-comes before s (Early bs) w h can = cc
opening-comes before s (Began u kind) w h can =
    drained (λ t v. CanDrain t.kept → Comes (opening_in t (Began v kind) (unit_named v t.units))) s u h.0
    (λ can. began-comes s h.0.unit h.0.cont h.0.others h.0.boot can kind h.1) can
opening-comes before s (Did u st a) w h can =
    drained (λ t v. CanDrain t.kept → Comes (opening_in t (Did v st a) (unit_named v t.units))) s u h
    (λ can. did-comes s h.unit h.cont h.others h.boot can st a (drained-within s u h)) can
opening-comes before s f w h can = earlier-comes s (follow_opening_in s f (unit_of f before s)) h

-- AT EACH PLACE of an opening.

next-comes : (trace : Trace) (f : Event) → IsPlayed (trace says f) → WellKept (start_of trace).kept → phase (trace says f) ≡ Opening →
    CanDrain (units_of (trace says f)).kept → Comes (next (trace says f))
next-comes trace (Down why) p w h can = cc
next-comes trace Ready p w h can = cc
next-comes trace (Early bs) p w h can = cc
next-comes trace (Opened boot n) p w h can =
    subst Comes (sym (told-opened trace boot n p w))
    (earlier-comes (units_of (trace says Opened boot n)) (stands_in (units_of (trace says Opened boot n)) n (flight trace)) (stands-at trace (Opened boot n) p w h))
next-comes trace f p w h can =
    subst Comes (sym (told-within trace f refl p w h))
    (opening-comes (units_of trace) (units_of (trace says f)) f refl (stands-at trace f p w h) can)

opens-on : (trace : Trace) → IsPlayed trace → WellKept (start_of trace).kept → phase trace ≡ Opening → CanDrain (units_of trace).kept → Comes (next trace)
opens-on (from k) p w h can = cc
opens-on (trace asks asked) p w h can = absurd (serves-not (phase trace) p.1.0 (inr h))
opens-on (trace turns b) p w h can = absurd (serves-not (phase trace) p.1 (inr h))
opens-on (trace says f) p w h can = next-comes trace f p w h can

pub never-rests : (p : Point) (trace : Trace) → KeepsPoint p trace → IsSound trace → p.state.units.phase ≡ Opening → CanDrain p.state.units.kept → IsSome p.next
never-rests p trace k sound h can =
    let same : p.state.units ≡ units_of trace = one-state trace p.state.units (units_of trace) k.state.units (state-kept trace sound.played sound.well) in
    let comes = opens-on trace sound.played sound.well (k.state.units.phase ∙ h) (subst (λ (s : UnitState). CanDrain s.kept) same can) in
    subst Comes k.next comes
