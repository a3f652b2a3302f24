-- At each event of an opening the units stand as a drain has them.
use Rattle.law_states.proofs.KeepsOn.{state-kept}
use Rattle.law_states.proofs.NextTold.{IsBeside, opened-told, said-told}
use Rattle.law_states.specs.Follows.{cut_in, cuts_or_drains_in, opened_in, opening_in, stands_in, unit_of}
use Rattle.law_states.specs.OpenUnits.{OpenUnit, UnitState, unit_named, without_unit}
use Rattle.law_states.specs.Steps.{kept_ended, units_after, units_of}
use Rattle.law_states.specs.Told.{Beside, next_decision_number}
use Rattle.law_states.proofs.UnitLists.{every-unmapped}
use Rattle.law_story.proofs.Every.{IfSome, every-filter, every-map, every-passes}
use Rattle.law_story.proofs.Coming.{Good}
use Rattle.law_story.proofs.Fresh.{IfComes, comes-option_or, comes-then_some}
use Rattle.law_story.proofs.Replays.{replays}
use Rattle.law_story.proofs.Upheld.{holds, may-fit}
use Rattle.law_story.proofs.Sound.{Sound, old-fallen, open-named}
use Rattle.law_story.proofs.WellKept.{of-start}
use Rattle.salt_model.specs.After.{kept}
use Rattle.salt_model.specs.Kept.{Kept, WellKept}
use Rattle.salt_model.specs.Locks.{clashing}
use Rattle.salt_model.specs.Next.{flight, is_decision, next, said_event}
use Rattle.salt_model.specs.Phases.{Opening, Phase, phase}
use Rattle.salt_model.specs.Played.{IsPlayed}
use Rattle.salt_model.specs.Reads.{to_release}
use Rattle.salt_model.specs.Shown.{base_items, lock_items}
use Rattle.salt_model.specs.Trace.{Trace, from, start_of, ◌asks◌, ◌says◌, ◌turns◌}
use Rattle.salt_model.specs.Turns.{fresh_unit}
use Rattle.salt_model.specs.Units.{is_open, open_units, units_begun}
use Rattle.salt_model.specs.Waiting.{next_unblocked, victim}
use Rattle.salt_model.specs.Words.{Every}
use Rattle.salt_model.specs.declared.events.End.{End}
use Rattle.salt_model.specs.declared.events.End.TheVariants.{Branched, Committed}
use Rattle.salt_model.specs.declared.events.Event.{Event}
use Rattle.salt_model.specs.declared.events.Event.TheVariants.{Defined, Down, Early, Ended, Opened, Ready}
use Rattle.law_openings.proofs.Draining.{Goes, cuts-follow, opening-follows}
use Rattle.law_openings.proofs.Opening.{serves-not}
use Rattle.law_openings.specs.Draining.{AreEarlier, Stands, is_earlier, is_within}
use Rattle.salt_values.specs.Id.{is_same_id}
use Rattle.salt_values.specs.declared.id.Id.{Id}
use Rattle.std.proofs.Common.{ap, arith, inr, subst, sym, ◌∙◌}
use Rattle.std.proofs.lemmas.Bool.Decides.{nat_tests}
use Rattle.std.specs.Prelude.{None, Option, Some, nat_lt, not, refl, true, ℕ, ◌<◌, ◌==◌, ◌≡◌, ◌≤◌}

-- DIRECTLY BEHIND AN OPENED.

is-below : (a b : ℕ) → a < b → nat_lt a b ≡ true
is-below a b h = grind (arith, nat_tests)

opened-earlier : (trace : Trace) (boot n : ℕ) → IsPlayed (trace says Opened boot n) → WellKept (start_of trace).kept →
    AreEarlier (units_after (Opened boot n) (units_of trace))
opened-earlier trace boot n p w =
    every-unmapped (λ u. nat_lt u.boot boot ≡ true) (λ (o : OpenUnit). o.unit) (units_of trace).units
    (subst (Every (λ u. nat_lt u.boot boot ≡ true)) (state-kept trace p.0 w).units
    (every-map (λ u. is_open trace u ≡ true) (λ u. nat_lt u.boot boot ≡ true) earlier (open_units trace) (every-passes (is_open trace) (units_begun trace))))
  where
    sound : Sound trace
    sound = (holds trace p.0 (of-start (start_of trace).kept w)).sound

    above : (kept trace).boot < boot
    above = (may-fit trace (Opened boot n) (holds trace p.0 (of-start (start_of trace).kept w)).comes p.1).1

    earlier : (u : Id) → is_open trace u ≡ true → nat_lt u.boot boot ≡ true
    earlier u h =
        let l : u.boot ≤ (kept trace).boot = old-fallen (phase trace) u (fresh_unit trace) (sound.older u (open-named trace u h)) in
        let a = above in
        is-below u.boot boot (omega arith)

-- a decision leaves units of earlier boots
boot-ended : (k : Kept) (end : End) (o : Option OpenUnit) → (kept_ended k end o).boot ≡ k.boot
boot-ended k (Committed n) (Some o) = refl
boot-ended k (Branched n x) (Some o) = refl
boot-ended k (Committed n) None = refl
boot-ended k (Branched n x) None = refl
boot-ended k end o = refl

ended-earlier : (s : UnitState) (u : Id) (end : End) → AreEarlier s → AreEarlier (units_after (Ended u end) s)
ended-earlier s u end all =
    subst (λ boot. Every (λ o. is_earlier boot o ≡ true) (without_unit u s.units)) (sym (boot-ended s.kept end (unit_named u s.units)))
    (every-filter (λ o. is_earlier s.kept.boot o ≡ true) (λ (o : OpenUnit). not (is_same_id o.unit u)) s.units all)

decision-earlier : (s : UnitState) (e : Event) → is_decision e ≡ true → AreEarlier s → Stands (units_after e s) e
decision-earlier s (Defined n text) d all = all
decision-earlier s (Ended u (Committed n)) d all = ended-earlier s u (Committed n) all
decision-earlier s (Ended u (Branched n x)) d all = ended-earlier s u (Branched n x) all
decision-earlier s e d all = cc

pub comes-weaker : (P Q : Event → Type 0) → ((e : Event) → P e → Q e) → (o : Option Event) → IfComes P o → IfComes Q o
comes-weaker P Q f None h = tt
comes-weaker P Q f (Some e) h = f e h

abbrev pub StandsOn : UnitState → Event → Type 0
StandsOn s e = Stands (units_after e s) e

pub opened-follows : (s : UnitState) (boot n : ℕ) (pending : Option Event) → AreEarlier s → IfSome (λ e. is_decision e ≡ true) pending →
    IfComes (StandsOn s) (opened_in s n pending)
opened-follows s boot n pending all decided =
    comes-option_or (StandsOn s) (stands_in s n pending) (cuts_or_drains_in s (cut_in s)) (flies pending decided)
    (comes-weaker (Goes (Opened boot n) s) (StandsOn s) (λ e g. g.stands) (cuts_or_drains_in s (cut_in s)) (cuts-follow (Opened boot n) s all (omega arith) (omega arith)))
  where
    flies : (o : Option Event) → IfSome (λ e. is_decision e ≡ true) o → IfComes (StandsOn s) (stands_in s n o)
    flies None h = tt
    flies (Some e) h = comes-then_some (StandsOn s) (n == next_decision_number s) e (decision-earlier s e h all)

-- AT EACH EVENT.

-- what is known beside the units, as the trace has it
abbrev beside : Trace → Beside
beside trace = record {
  clash = λ o st. clashing trace o.unit st;
  items = record { locks = lock_items trace; bases = base_items trace };
  victim = victim trace;
  served = next_unblocked trace;
  due = to_release trace;
}

is-beside : (trace : Trace) → IsBeside trace (beside trace)
is-beside trace = record { clash = λ o st h. refl; items = refl; victim = refl; served = refl; due = refl }

next-within : (trace : Trace) (e : Event) → is_within e ≡ true → next (trace says e) ≡ said_event (phase (trace says e)) (trace says e) e
next-within trace (Down why) w = cc
next-within trace (Opened boot n) w = cc
next-within trace e w = refl

pub told-within : (trace : Trace) (e : Event) → is_within e ≡ true → IsPlayed (trace says e) → WellKept (start_of trace).kept → phase (trace says e) ≡ Opening →
    next (trace says e) ≡ opening_in (units_of (trace says e)) e (unit_of e (units_of trace) (units_of (trace says e)))
told-within trace e within p w h =
    next-within trace e within
    ∙ ap (λ (q : Phase). said_event q (trace says e) e) h
    ∙ said-told (units_of trace) trace e Opening (beside (trace says e)) (is-beside (trace says e)) (state-kept trace p.0 w) p w

pub told-opened : (trace : Trace) (boot n : ℕ) → IsPlayed (trace says Opened boot n) → WellKept (start_of trace).kept →
    next (trace says Opened boot n) ≡ opened_in (units_of (trace says Opened boot n)) n (flight trace)
told-opened trace boot n p w = opened-told (units_of (trace says Opened boot n)) (trace says Opened boot n) (state-kept (trace says Opened boot n) p w) n (flight trace)

pub decided : (P : Event → Type 0) (o : Option Event) → IfSome (λ e. P e × (is_decision e ≡ true)) o → IfSome (λ e. is_decision e ≡ true) o
decided P None h = tt
decided P (Some e) h = h.1

next-stands : (trace : Trace) (f : Event) → IsPlayed (trace says f) → WellKept (start_of trace).kept → phase (trace says f) ≡ Opening →
    Stands (units_of (trace says f)) f → IfComes (StandsOn (units_of (trace says f))) (next (trace says f))
next-stands trace (Down why) p w h all = cc
next-stands trace Ready p w h all = cc
next-stands trace (Early bs) p w h all = cc
next-stands trace (Opened boot n) p w h all =
    subst (IfComes (StandsOn (units_of (trace says Opened boot n)))) (sym (told-opened trace boot n p w))
    (opened-follows (units_of (trace says Opened boot n)) boot n (flight trace) all (decided (Good trace) (flight trace) (replays trace p.0).flying))
next-stands trace f p w h all =
    subst (IfComes (StandsOn (units_of (trace says f)))) (sym (told-within trace f refl p w h))
    (comes-weaker (Goes f (units_of (trace says f))) (StandsOn (units_of (trace says f))) (λ e g. g.stands)
    (opening_in (units_of (trace says f)) f (unit_of f (units_of trace) (units_of (trace says f))))
    (opening-follows (units_of trace) (units_of (trace says f)) f refl all))

pub stands-at : (trace : Trace) (e : Event) → IsPlayed (trace says e) → WellKept (start_of trace).kept → phase (trace says e) ≡ Opening →
    Stands (units_of (trace says e)) e
stands-at trace (Down why) p w h = cc
stands-at trace Ready p w h = cc
stands-at trace (Early bs) p w h = cc
stands-at trace (Opened boot n) p w h = opened-earlier trace boot n p w
stands-at (from k) e p w h = cc
stands-at (trace asks asked) e p w h = absurd (serves-not (phase trace) p.0.1.0 (inr h))
stands-at (trace turns b) e p w h = absurd (serves-not (phase trace) p.0.1 (inr h))
stands-at (trace says f) e p w h =
    subst (IfComes (StandsOn (units_of (trace says f)))) p.1 (next-stands trace f p.0 w h (stands-at trace f p.0 w h))
