-- Each program goes along its declared path, through every opening.
use Rattle.law_story.proofs.Accounts.{accounts, goes-along}
use Rattle.law_story.proofs.Due.{accepts-due, finishes-due}
use Rattle.law_story.proofs.Fresh.{IfComes}
use Rattle.law_story.proofs.NextFits.{Comes, Fits, Within}
use Rattle.law_story.proofs.Rising.{Rises, first-accepted, rises}
use Rattle.law_story.proofs.Upheld.{OfBoots, comes-at, each, holds, may-fit}
use Rattle.salt_model.specs.After.{kept}
use Rattle.salt_model.specs.Continuing.{AcceptsDue, FinishesDue, GoesAlong, IsContinued, IsForOpening, Opens}
use Rattle.salt_model.specs.Everywhere.{Each}
use Rattle.salt_model.specs.Next.{next}
use Rattle.salt_model.specs.Phases.{Opening, phase}
use Rattle.salt_model.specs.Played.{IsPlayed}
use Rattle.salt_model.specs.Segments.{May}
use Rattle.salt_model.specs.Trace.{Trace, from, start_of, ◌asks◌, ◌says◌, ◌turns◌}
use Rattle.salt_model.specs.declared.events.End.TheVariants.{Victim}
use Rattle.salt_model.specs.declared.events.Event.{Event}
use Rattle.salt_model.specs.declared.events.Event.TheVariants.{Began, Down, Early, Ended, Opened, Ready}
use Rattle.salt_model.specs.declared.events.UnitKind.TheVariants.{Later}
use Rattle.std.proofs.Common.{subst}
use Rattle.std.specs.Prelude.{◌≡◌}

-- what comes within an opening comes where nothing is open, and first of the programs
comes-in : (trace : Trace) (e : Event) → Fits trace e → Rises (kept trace) → phase trace ≡ Opening → Within Opening e → IsForOpening trace e
comes-in trace (Began u (Later b part)) f r o w = let d = f.2.2 o in (d.2, d.0, first-accepted trace b r d.1)
comes-in trace Ready f r o w = f.3
comes-in trace (Early bs) f r o w = f.3
comes-in trace (Began u kind) f r o w = absurd w
comes-in trace (Ended u Victim) f r o w = absurd w
comes-in trace e f r o w = w

opens-at : (trace : Trace) (e : Event) → IfComes (Comes trace) (next trace) → Rises (kept trace) → May trace e → Opens trace e
opens-at trace (Down why) c r m = λ o. tt
opens-at trace (Opened boot n) c r m = λ o. tt
opens-at trace e c r m = λ o. let h = comes-at trace e c m in comes-in trace e h.0 r o (subst (λ p. Within p e) o h.1)

abbrev ContinuesAt : Trace → Event → Type 0
ContinuesAt trace e = AcceptsDue trace e × FinishesDue trace e × GoesAlong trace e × Opens trace e

continues : (trace : Trace) → IsPlayed trace → OfBoots (start_of trace).kept → Rises (start_of trace).kept → Each ContinuesAt trace
continues (from k) p w r = tt
continues (trace asks asked) p w r = continues trace p.0 w r
continues (trace turns b) p w r = continues trace p.0 w r
continues (trace says e) p w r =
    let h = holds trace p.0 w in
    let f = may-fit trace e h.comes p.1 in
    let a = accepts-due trace e p.0 h.comes p.1 in
    let d = finishes-due trace e p.0 h.comes p.1 in
    (continues trace p.0 w r, (a, d, goes-along trace e (accounts trace p.0 w) h.sound f a d, opens-at trace e h.comes (rises trace p.0 w r) p.1))

pub continued-played : (trace : Trace) → IsPlayed trace → OfBoots (start_of trace).kept → Rises (start_of trace).kept → IsContinued trace
continued-played trace p w r =
    let c = continues trace p w r in
    record {
      accepts = each ContinuesAt AcceptsDue (λ l e h. h.0) trace c;
      finishes = each ContinuesAt FinishesDue (λ l e h. h.1) trace c;
      goes_along = each ContinuesAt GoesAlong (λ l e h. h.2) trace c;
      opens = each ContinuesAt Opens (λ l e h. h.3) trace c;
    }
