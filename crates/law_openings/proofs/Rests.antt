-- In each opening of a played trace no more statements are told than the programs that it found had left.
use Rattle.law_openings.proofs.Doing.{left-most, statements-fall}
use Rattle.law_openings.proofs.Opening.{serves-not}
use Rattle.law_openings.specs.Draining.{CanDrain, IsBehindFlight, statements_left}
use Rattle.salt_model.specs.Rests.{DoesItsRests, done_since_opened, rests_at, rests_found, rests_of, statements_in}
use Rattle.law_states.proofs.KeepsOn.{state-kept}
use Rattle.law_states.specs.Keeps.{KeepsUnits}
use Rattle.law_states.specs.Laws.{IsSound}
use Rattle.law_states.specs.Steps.{units_after, units_of}
use Rattle.salt_model.specs.After.{kept}
use Rattle.salt_model.specs.Everywhere.{Always}
use Rattle.salt_model.specs.Kept.{Kept, programs_of}
use Rattle.salt_model.specs.Next.{is_decision}
use Rattle.salt_model.specs.Phases.{Opening, phase}
use Rattle.salt_model.specs.Stops.{is_just_opened}
use Rattle.salt_model.specs.Trace.{Trace, from, ◌asks◌, ◌says◌, ◌turns◌}
use Rattle.salt_model.specs.declared.events.Event.TheVariants.{Did, Down, Early, Opened, Ready}
use Rattle.salt_model.specs.declared.events.Event.{Event}
use Rattle.std.proofs.Common.{ap, arith, inl, inr, subst, sym, ◌∙◌}
use Rattle.std.specs.Bool.{then_some}
use Rattle.std.specs.Prelude.{Bool, Some, false, if◌then◌else◌, refl, true, ◌&&◌, ◌+◌, ◌≡◌, ◌≤◌}

-- what is left and what is done are what was found, at most
abbrev Within : Trace → Type 0
Within trace = statements_left (units_of trace) + done_since_opened trace ≤ rests_found trace

units-kept : (trace : Trace) → IsSound trace → KeepsUnits (units_of trace) trace
units-kept trace sound = state-kept trace sound.played sound.well

-- all is left of what a trace keeps
all-left : (trace : Trace) → IsSound trace → statements_left (units_of trace) ≤ rests_at trace
all-left trace sound = subst (λ (k : Kept). statements_left (units_of trace) ≤ rests_of (programs_of k) k.conts) (sym (units-kept trace sound).kept) (left-most (units_of trace))

-- A DECISION does no statement, and nothing is done between an Opened and it

decides-none : (e : Event) → is_decision e ≡ true → statements_in e ≡ 0
decides-none (Did u st answer) d = absurd (cc d)
decides-none e d = refl

opened-none : (trace : Trace) → is_just_opened trace ≡ true → done_since_opened trace ≡ 0
opened-none (from k) h = refl
opened-none (trace asks asked) h = absurd (cc h)
opened-none (trace turns b) h = absurd (cc h)
opened-none (trace says Opened boot n) h = refl
opened-none (trace says e) h = absurd (cc h)

-- AN EVENT within an opening

-- by whether an Opened stands before it, and whether it is a decision
goes-within : (trace : Trace) (e : Event) (just decided : Bool) → is_just_opened trace ≡ just → is_decision e ≡ decided →
    statements_left (units_after e (units_of trace)) ≤ rests_at (trace says e) →
    (IsBehindFlight trace (Some e) → statements_left (units_after e (units_of trace)) + statements_in e ≤ statements_left (units_of trace)) → Within trace →
    statements_left (units_after e (units_of trace)) + (done_since_opened trace + statements_in e) ≤ (if just && decided then rests_at (trace says e) else rests_found trace)
goes-within trace e true true j d all falls w =
    let none = opened-none trace j in
    let more = decides-none e d in
    omega arith
goes-within trace e true false j d all falls w =
    let less = falls (inr (ap (λ b. then_some b e) d)) in
    omega arith
goes-within trace e false decided j d all falls w =
    let less = falls (inl j) in
    omega arith

says-within : (trace : Trace) (e : Event) → IsSound (trace says e) → CanDrain (kept trace) → phase (trace says e) ≡ Opening → (phase trace ≡ Opening → Within trace) → Within (trace says e)
says-within trace (Opened boot n) sound can h w = let all = all-left (trace says Opened boot n) sound in omega arith
says-within trace (Down why) sound can h w = absurd (cc h)
says-within trace Ready sound can h w = absurd (cc h)
says-within trace (Early bs) sound can h w = absurd (cc h)
says-within trace e sound can h w =
    let before : IsSound trace = record { played = sound.played.0; well = sound.well } in
    let keeps = units-kept trace before in
    goes-within trace e (is_just_opened trace) (is_decision e) refl refl (all-left (trace says e) sound)
    (λ free. statements-fall e (units_of trace) trace keeps sound refl (sym keeps.phase ∙ h) free (subst CanDrain keeps.kept can)) (w h)

-- EACH PLACE of a trace

last : (trace : Trace) → Always (λ t. CanDrain (kept t)) trace → CanDrain (kept trace)
last (from k) can = can
last (trace asks asked) can = can.1
last (trace turns b) can = can.1
last (trace says e) can = can.1

within : (trace : Trace) → IsSound trace → Always (λ t. CanDrain (kept t)) trace → phase trace ≡ Opening → Within trace
within (from k) sound can h = absurd (cc h)
within (trace asks asked) sound can h = absurd (serves-not (phase trace) sound.played.1.0 (inr h))
within (trace turns b) sound can h = absurd (serves-not (phase trace) sound.played.1 (inr h))
within (trace says e) sound can h =
    says-within trace e sound (last trace can.0) h (within trace (record { played = sound.played.0; well = sound.well }) can.0)

does-rests : (trace : Trace) → IsSound trace → Always (λ t. CanDrain (kept t)) trace → DoesItsRests trace
does-rests trace sound can = λ h. let w = within trace sound can h in omega arith

pub each-does-rests : (trace : Trace) → IsSound trace → Always (λ t. CanDrain (kept t)) trace → Always DoesItsRests trace
each-does-rests (from k) sound can = does-rests (from k) sound can
each-does-rests (trace asks asked) sound can = (each-does-rests trace (record { played = sound.played.0; well = sound.well }) can.0, does-rests (trace asks asked) sound can)
each-does-rests (trace turns b) sound can = (each-does-rests trace (record { played = sound.played.0; well = sound.well }) can.0, does-rests (trace turns b) sound can)
each-does-rests (trace says e) sound can = (each-does-rests trace (record { played = sound.played.0; well = sound.well }) can.0, does-rests (trace says e) sound can)
