-- What is kept behind a trace, as a point of it has it.
use Rattle.salt_engine.specs.Stored.{IsLeft, kept_behind}
use Rattle.law_states.proofs.KeptAfter.{kept-says}
use Rattle.law_states.specs.Keeps.{KeepsUnits}
use Rattle.law_states.specs.OpenUnits.{UnitState}
use Rattle.law_states.specs.Points.{KeepsPoint, Point}
use Rattle.law_story.proofs.Coming.{Good}
use Rattle.law_story.proofs.Every.{IfSome}
use Rattle.law_story.proofs.Replays.{Ground, replays}
use Rattle.salt_model.specs.After.{kept}
use Rattle.salt_model.specs.Ends.{kept_with, raised}
use Rattle.salt_model.specs.Kept.{Kept}
use Rattle.salt_model.specs.Next.{flight, is_decision}
use Rattle.salt_model.specs.Played.{IsPlayed}
use Rattle.salt_model.specs.Trace.{Trace}
use Rattle.salt_model.specs.declared.events.Event.{Event}
use Rattle.salt_promise.specs.Ending.{IsLeftBehind, boots_untold}
use Rattle.std.proofs.Common.{ap, arith, inl, inr, sym, ◌∙◌}
use Rattle.std.specs.Prelude.{None, Option, Some, true, ℕ, ◌≡◌, ◌≤◌}

-- WITH THE FLIGHT

with-one : (s : UnitState) (trace : Trace) (o : Option Event) → Ground trace → IfSome (λ e. Good trace e × (is_decision e ≡ true)) o → KeepsUnits s trace →
    kept_with trace o ≡ kept_behind o s
with-one s trace None ground good keeps = keeps.kept
with-one s trace (Some e) ground good keeps = kept-says s trace e ground good.0 keeps

module _ (trace : Trace) (played : IsPlayed trace) (p : Point) (keeps : KeepsPoint p trace) where
  kept-is : kept trace ≡ p.state.units.kept
  kept-is = keeps.state.units.kept

  with-flight : kept_with trace (flight trace) ≡ kept_behind p.flight p.state.units
  with-flight =
      let inv = replays trace played in
      with-one p.state.units trace (flight trace) inv.base inv.flying keeps.state.units ∙ ap (λ o. kept_behind o p.state.units) keeps.flight

  -- what is left at a point is kept behind its trace
  pub is-behind : (doubt told : Type 0) → (doubt → told) → (room : ℕ) (k : Kept) → room ≤ boots_untold trace → IsLeft doubt room p k → IsLeftBehind told trace k
  is-behind doubt told to room k few left = record {
    boots = left.boots;
    most = let l = left.most in omega arith;
    is = elim left.is [
      | inl h ↦ inl (h ∙ ap (raised left.boots) (sym kept-is))
      | inr h ↦ inr (to h.0, h.1 ∙ ap (raised left.boots) (sym with-flight))
    ];
  }
