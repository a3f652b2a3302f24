-- A failure with tries left, in the state.
use Rattle.law_states.proofs.KeepsOn.{keeps-says}
use Rattle.law_states.specs.Keeps.{KeepsUnit, KeepsUnits}
use Rattle.law_states.specs.OpenUnits.{OpenUnit, UnitState}
use Rattle.law_states.specs.Steps.{units_after}
use Rattle.law_story.proofs.Tries.{tries-used}
use Rattle.law_story.proofs.WellKept.{of-start}
use Rattle.salt_model.specs.Kept.{Kept, WellKept, cont_of}
use Rattle.salt_model.specs.Played.{IsPlayed}
use Rattle.salt_model.specs.Trace.{Trace, start_of, ◌says◌}
use Rattle.salt_model.specs.declared.events.Cause.{Cause}
use Rattle.salt_model.specs.declared.events.End.TheVariants.{Branched}
use Rattle.salt_model.specs.declared.events.Event.TheVariants.{Ended}
use Rattle.salt_model.specs.declared.events.UnitKind.TheVariants.{Later}
use Rattle.salt_values.specs.declared.cont.Cont.{Cont}
use Rattle.salt_values.specs.declared.id.Id.{Id}
use Rattle.std.proofs.Common.{ap, subst, sym, ◌∙◌}
use Rattle.std.specs.Prelude.{Some, suc, ℕ, ◌≡◌}

pub tries-left : (s : UnitState) (trace : Trace) (o : OpenUnit) (b : Id) (part n tries : ℕ) (x : Cause) (c : Cont) → KeepsUnits s trace →
    KeepsUnit trace o → IsPlayed (trace says Ended o.unit (Branched n x)) → WellKept (start_of trace).kept →
    o.kind ≡ Later b part → cont_of b s.kept ≡ Some c → c.tries ≡ suc tries → cont_of b (units_after (Ended o.unit (Branched n x)) s).kept ≡ Some (record c { tries = tries })
tries-left s trace o b part n tries x c keeps k p w kind here left =
    let used = (tries-used (trace says Ended o.unit (Branched n x)) p (of-start (start_of trace).kept w) w.defined).1 in
    subst (λ (now : Kept). cont_of b now ≡ Some (record c { tries = tries })) (keeps-says s trace (Ended o.unit (Branched n x)) keeps p w).kept
    (used b part c tries (k.kind ∙ ap Some kind) (subst (λ (now : Kept). cont_of b now ≡ Some c) (sym keeps.kept) here) left)
