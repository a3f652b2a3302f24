-- What is kept after a trace is as a start has to be.
use Rattle.law_story.proofs.Defined.{defined-kept, defined-with}
use Rattle.law_story.proofs.Fresh.{IfComes}
use Rattle.law_story.proofs.Lists.{In, either}
use Rattle.law_story.proofs.NextFits.{Flies}
use Rattle.law_story.proofs.Rising.{rises, rises-with}
use Rattle.law_story.proofs.Sound.{Old, boot-ended, conts-back, old-fallen}
use Rattle.law_story.proofs.Tries.{tries-with, tries-within}
use Rattle.law_story.proofs.Upheld.{OfBoots, Upheld, holds}
use Rattle.salt_model.specs.After.{kept}
use Rattle.salt_model.specs.Ends.{kept_with}
use Rattle.salt_model.specs.Kept.{Kept, WellKept}
use Rattle.salt_model.specs.Next.{flight}
use Rattle.salt_model.specs.Phases.{phase}
use Rattle.salt_model.specs.Played.{IsPlayed}
use Rattle.salt_model.specs.Trace.{Trace, start_of, ◌says◌}
use Rattle.salt_model.specs.Turns.{fresh_base}
use Rattle.salt_model.specs.Words.{Every}
use Rattle.salt_model.specs.declared.events.End.{End}
use Rattle.salt_model.specs.declared.events.End.TheVariants.{Branched, Committed}
use Rattle.salt_model.specs.declared.events.Event.{Event}
use Rattle.salt_model.specs.declared.events.Event.TheVariants.{Defined, Ended}
use Rattle.salt_values.specs.declared.cont.Cont.{Cont}
use Rattle.salt_values.specs.declared.id.Id.{Id}
use Rattle.std.proofs.Common.{inl, inr, subst}
use Rattle.std.specs.Prelude.{List, None, Option, Some, [], map, refl, ℕ, ◌∷◌, ◌≤◌}

-- a start as a list of facts, and as one of its members
each-base : (n : ℕ) (cs : List Cont) → Every (λ (c : Cont). c.base.boot ≤ n) cs → (b : Id) → In b (map (λ (c : Cont). c.base) cs) → b.boot ≤ n
each-base n [] h b i = absurd i
each-base n (c ∷ cs) h b (inl e) = subst (λ (x : Id). x.boot ≤ n) e h.0
each-base n (c ∷ cs) h b (inr i) = each-base n cs h.1 b i

base-each : (n : ℕ) (cs : List Cont) → ((b : Id) → In b (map (λ (c : Cont). c.base) cs) → b.boot ≤ n) → Every (λ (c : Cont). c.base.boot ≤ n) cs
base-each n [] h = tt
base-each n (c ∷ cs) h = (h c.base (inl refl), base-each n cs (λ b i. h b (inr i)))

-- the two facts that a start brings
pub of-start : (k : Kept) → WellKept k → OfBoots k
of-start k w = each-base k.boot k.conts w.boots

-- what is kept at any place is as a start is to be, with the flight or without
of-boots : (trace : Trace) → IsPlayed trace → OfBoots (start_of trace).kept → OfBoots (kept trace)
of-boots trace p w b i = old-fallen (phase trace) b (fresh_base trace) ((holds trace p w).sound.old_conts b i)

of-boots-flight : (trace : Trace) → IsPlayed trace → OfBoots (start_of trace).kept → OfBoots (kept_with trace (flight trace))
of-boots-flight trace p w = its (flight trace) h.flies
  where
    h : Upheld trace
    h = holds trace p w

    here : (b : Id) → Old trace b → b.boot ≤ (kept trace).boot
    here b o = old-fallen (phase trace) b (fresh_base trace) o

    ended : (u : Id) (end : End) → OfBoots (kept (trace says Ended u end))
    ended u end b i = rw (boot-ended trace u end) (here b (either (λ j. h.sound.old_conts b j) (λ q. h.sound.old_units b u q) (conts-back trace u end b i)))

    its : (f : Option Event) → IfComes (Flies trace) f → OfBoots (kept_with trace f)
    its None g = of-boots trace p w
    its (Some (Ended u (Committed n))) g = ended u (Committed n)
    its (Some (Ended u (Branched n c))) g = ended u (Branched n c)
    its (Some (Defined n text)) g = of-boots trace p w
    its (Some e) g = absurd g

well-kept : (trace : Trace) → IsPlayed trace → WellKept (start_of trace).kept → WellKept (kept trace)
well-kept trace p k =
    let w : OfBoots (start_of trace).kept = of-start (start_of trace).kept k in
    record {
      boots = base-each (kept trace).boot (kept trace).conts (of-boots trace p w);
      accepted = rises trace p w k.accepted;
      defined = defined-kept trace k.defined;
      tries = tries-within trace p w k.tries;
    }

well-kept-flight : (trace : Trace) → IsPlayed trace → WellKept (start_of trace).kept → WellKept (kept_with trace (flight trace))
well-kept-flight trace p k =
    let w : OfBoots (start_of trace).kept = of-start (start_of trace).kept k in
    let f = kept_with trace (flight trace) in
    record {
      boots = base-each f.boot f.conts (of-boots-flight trace p w);
      accepted = rises-with trace (flight trace) (holds trace p w).flies (rises trace p w k.accepted);
      defined = defined-with trace (flight trace) (defined-kept trace k.defined);
      tries = tries-with trace p w (tries-within trace p w k.tries);
    }

pub kept-well : (trace : Trace) → IsPlayed trace → WellKept (start_of trace).kept → WellKept (kept trace) × WellKept (kept_with trace (flight trace))
kept-well trace p k = (well-kept trace p k, well-kept-flight trace p k)
