-- Before lines are served no turn is owed.
use Rattle.law_openings.proofs.Opening.{IsNotServing, serves-not}
use Rattle.law_states.specs.Keeps.{KeepsUnits}
use Rattle.law_states.specs.Laws.{IsSound}
use Rattle.law_states.specs.OpenUnits.{UnitState}
use Rattle.law_story.proofs.Upheld.{holds, may-fit}
use Rattle.law_story.proofs.WellKept.{of-start}
use Rattle.salt_model.specs.Kept.{WellKept}
use Rattle.salt_model.specs.Phases.{Fallen, Opening, Serving, phase}
use Rattle.salt_model.specs.Played.{IsPlayed}
use Rattle.salt_model.specs.Trace.{Trace, from, start_of, ◌asks◌, ◌says◌, ◌turns◌}
use Rattle.salt_model.specs.Turns.{owes_turn}
use Rattle.salt_model.specs.declared.events.Event.TheVariants.{Down, Early, Opened, Ready, Refused}
use Rattle.std.proofs.Common.{inl, subst, sym, ◌∙◌}
use Rattle.std.specs.Prelude.{false, refl, ◌≡◌, ◌⊎◌}

none-owed : (trace : Trace) → IsPlayed trace → WellKept (start_of trace).kept → IsNotServing (phase trace) → owes_turn trace ≡ false
none-owed (from k) p w h = refl
none-owed (trace asks asked) p w h = absurd (serves-not (phase trace) p.1.0 h)
none-owed (trace turns b) p w h = absurd (serves-not (phase trace) p.1 h)
none-owed (trace says Down why) p w h = refl
none-owed (trace says Refused r) p w h = refl
none-owed (trace says Opened boot n) p w h =
    none-owed trace p.0 w (inl (may-fit trace (Opened boot n) (holds trace p.0 (of-start (start_of trace).kept w)).comes p.1).0)
none-owed (trace says Ready) p w h = absurd (serves-not Serving refl h)
none-owed (trace says Early bs) p w h = absurd (serves-not Serving refl h)
none-owed (trace says e) p w h = none-owed trace p.0 w h

pub owes-none : (s : UnitState) (trace : Trace) → KeepsUnits s trace → IsSound trace → (s.phase ≡ Fallen) ⊎ (s.phase ≡ Opening) → s.owes ≡ false
owes-none s trace keeps sound h = sym keeps.owes ∙ none-owed trace sound.played sound.well (subst IsNotServing (sym keeps.phase) h)
