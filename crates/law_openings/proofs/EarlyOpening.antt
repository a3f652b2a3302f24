-- An opening that may be early does no statement.
use Rattle.law_openings.proofs.Moving.{units-stand}
use Rattle.law_openings.proofs.Opening.{serves-not}
use Rattle.law_openings.specs.Draining.{Stands}
use Rattle.law_states.proofs.KeepsOn.{state-kept}
use Rattle.law_states.specs.Keeps.{KeepsUnits}
use Rattle.law_states.specs.Laws.{IsSound}
use Rattle.law_states.specs.OpenUnits.{UnitState}
use Rattle.law_states.specs.Steps.{units_of}
use Rattle.salt_model.specs.Everywhere.{Always}
use Rattle.salt_model.specs.Phases.{Opening, phase}
use Rattle.salt_model.specs.Rests.{done_since_opened, statements_in}
use Rattle.salt_model.specs.Trace.{Trace, from, start_of, ◌asks◌, ◌says◌, ◌turns◌}
use Rattle.salt_model.specs.declared.events.Event.{Event}
use Rattle.salt_model.specs.declared.events.Event.TheVariants.{Did, Down, Early, Opened, Ready}
use Rattle.std.proofs.Common.{arith, inr, sym, ◌∙◌}
use Rattle.std.specs.Prelude.{false, refl, true, ◌+◌, ◌≡◌}

-- a drain's unit is open only where openings are not early
stands-idle : (s : UnitState) (e : Event) → s.early ≡ true → Stands s e → statements_in e ≡ 0
stands-idle s (Did u st answer) y h = let x : true ≡ false = sym y ∙ h.late in cc
stands-idle s e y h = refl

pub early-idles : (e : Event) (s : UnitState) (trace : Trace) → KeepsUnits s (trace says e) → IsSound (trace says e) → s.phase ≡ Opening → s.early ≡ true →
    statements_in e ≡ 0
early-idles e s trace k sound h y = stands-idle s e y (units-stand s trace e k sound h)

says-none : (trace : Trace) (e : Event) → IsSound (trace says e) → (start_of trace).early ≡ true → phase (trace says e) ≡ Opening →
    done_since_opened trace ≡ 0 → done_since_opened trace + statements_in e ≡ 0
says-none trace e sound y h before =
    let keeps : KeepsUnits (units_of (trace says e)) (trace says e) = state-kept (trace says e) sound.played sound.well in
    let none = early-idles e (units_of (trace says e)) trace keeps sound (sym keeps.phase ∙ h) (sym keeps.early ∙ y) in
    omega arith

-- EACH PLACE of a trace

-- since its Opened none is done
abbrev DoesNone : Trace → Type 0
DoesNone trace = phase trace ≡ Opening → done_since_opened trace ≡ 0

none-done : (trace : Trace) → IsSound trace → (start_of trace).early ≡ true → DoesNone trace
none-done (from k) sound y h = refl
none-done (trace asks asked) sound y h = absurd (serves-not (phase trace) sound.played.1.0 (inr h))
none-done (trace turns b) sound y h = absurd (serves-not (phase trace) sound.played.1 (inr h))
none-done (trace says Opened boot n) sound y h = refl
none-done (trace says Down why) sound y h = absurd (cc h)
none-done (trace says Ready) sound y h = absurd (cc h)
none-done (trace says Early bs) sound y h = absurd (cc h)
none-done (trace says e) sound y h =
    says-none trace e sound y h (none-done trace (record { played = sound.played.0; well = sound.well }) y h)

pub each-idles : (trace : Trace) → IsSound trace → (start_of trace).early ≡ true → Always (λ t. phase t ≡ Opening → done_since_opened t ≡ 0) trace
each-idles (from k) sound y = none-done (from k) sound y
each-idles (trace asks asked) sound y = (each-idles trace (record { played = sound.played.0; well = sound.well }) y, none-done (trace asks asked) sound y)
each-idles (trace turns b) sound y = (each-idles trace (record { played = sound.played.0; well = sound.well }) y, none-done (trace turns b) sound y)
each-idles (trace says e) sound y = (each-idles trace (record { played = sound.played.0; well = sound.well }) y, none-done (trace says e) sound y)
