-- Decision numbers, boots and what a stop leaves, for all played traces.
use Rattle.law_story.proofs.NextFits.{Fits}
use Rattle.law_story.proofs.OfBoot.{cuts-at, owns-at}
use Rattle.law_story.proofs.Upheld.{OfBoots, each, holds, may-fit}
use Rattle.salt_model.specs.After.{kept}
use Rattle.salt_model.specs.Decided.{CutsRight, IsKept, NumbersOn, OnlyAfter, OpensRight, TellsFlight, TellsOwn}
use Rattle.salt_model.specs.Everywhere.{Each}
use Rattle.salt_model.specs.Next.{flight, next, number_in}
use Rattle.salt_model.specs.Openings.{cuts_or_drains, drains, stands_now, to_cut, unfinished}
use Rattle.salt_model.specs.Phases.{Fallen, Opening, Phase, Serving, phase}
use Rattle.salt_model.specs.Played.{IsPlayed}
use Rattle.salt_model.specs.Segments.{May}
use Rattle.salt_model.specs.Stops.{MayOpen}
use Rattle.salt_model.specs.Trace.{Trace, from, start_of, ◌asks◌, ◌says◌, ◌turns◌}
use Rattle.salt_model.specs.Turns.{begins, next_number}
use Rattle.salt_model.specs.Units.{open_units}
use Rattle.salt_model.specs.Words.{is_empty}
use Rattle.salt_model.specs.declared.events.End.TheVariants.{Branched, Committed, Cut}
use Rattle.salt_model.specs.declared.events.Event.{Event}
use Rattle.salt_model.specs.declared.events.Event.TheVariants.{Defined, Down, Ended, Opened, Ready}
use Rattle.salt_model.specs.declared.events.UnitKind.TheVariants.{Later}
use Rattle.salt_values.specs.declared.cont.Cont.{Cont}
use Rattle.salt_values.specs.declared.id.Id.{Id}
use Rattle.std.proofs.Common.{ap, arith, inl, inr, subst, sym, ◌∙◌}
use Rattle.std.proofs.lemmas.Bool.Decides.{nat_tests}
use Rattle.std.specs.Bool.{then_some}
use Rattle.std.specs.Option.{option_or}
use Rattle.std.specs.Prelude.{Bool, IsSome, List, None, Option, Some, [], false, is_some, refl, true, ℕ, ◌+◌, ◌==◌, ◌∷◌, ◌≡◌, ◌⊎◌}

numbers-at : (trace : Trace) (e : Event) → Fits trace e → NumbersOn trace e
numbers-at trace (Defined n text) f = f.0
numbers-at trace (Ended u (Committed n)) f = f.1
numbers-at trace (Ended u (Branched n c)) f = f.1
numbers-at trace e f = tt

opens-at : (trace : Trace) (e : Event) → May trace e → OpensRight trace e
opens-at trace (Opened boot n) m = go (phase trace) m
  where
    go : (p : Phase) → MayOpen p trace boot n → MayOpen Fallen trace boot n
    go Fallen h = h
    go Opening h = absurd h
    go Serving h = absurd h
opens-at trace e m = tt

cuts-number : (trace : Trace) (e : Event) (us : List Id) (cs : List Cont) → (kept trace).conts ≡ cs → cuts_or_drains trace us ≡ Some e → number_in e ≡ None
cuts-number trace e (u ∷ us) cs k h = let g : Ended u Cut ≡ e = cc in ap number_in (sym g)
cuts-number trace e [] cs k h = go (is_empty (open_units trace)) cs (subst (λ l. then_some (is_empty (open_units trace)) (drains trace l) ≡ Some e) k h)
  where
    go : (b : Bool) (cs : List Cont) → then_some b (drains trace cs) ≡ Some e → number_in e ≡ None
    go true [] g = let i : Ready ≡ e = cc in ap number_in (sym i)
    go true (c ∷ cs) g = early (start_of trace).early g
      where
        early : (t : Bool) → Some (unfinished t trace c cs) ≡ Some e → number_in e ≡ None
        early true g = let i : unfinished true trace c cs ≡ e = cc in ap number_in (sym i)
        early false g = let i : begins trace (Later c.base c.next) ≡ e = cc in ap number_in (sym i)
    go false cs g = cc

unequal-next : (n d : ℕ) → n ≡ d → (n == d + 1) ≡ true → ⊥
unequal-next n d e h = grind (arith, nat_tests)

tells-flight : (trace : Trace) (boot n : ℕ) (e : Event) → IsPlayed (trace says Opened boot n) → next (trace says Opened boot n) ≡ Some e → OnlyAfter (n == (kept trace).decisions + 1) (flight trace) e
tells-flight trace boot n e p h = go (n == (kept trace).decisions + 1) refl (flight trace) (opens-at trace (Opened boot n) p.1).2 h
  where
    here : Trace
    here = trace says Opened boot n

    go : (b : Bool) → (n == (kept trace).decisions + 1) ≡ b → (f : Option Event) → ((n ≡ (kept trace).decisions) ⊎ (IsSome f × (n ≡ next_number trace))) → option_or (stands_now (trace says Opened boot n) n f) (cuts_or_drains (trace says Opened boot n) (to_cut (trace says Opened boot n))) ≡ Some e → OnlyAfter b f e
    go true q (Some d) m g = sym (ap (λ b. option_or (then_some b d) (cuts_or_drains (trace says Opened boot n) (to_cut (trace says Opened boot n)))) q) ∙ g
    go true q None (inl m) g = absurd (unequal-next n (kept trace).decisions m q)
    go true q None (inr m) g = let x : is_some {T = Event} None ≡ true = m.0 in cc
    go false q None m g = cuts-number (trace says Opened boot n) e (to_cut (trace says Opened boot n)) (kept trace).conts refl g
    go false q (Some d) m g = cuts-number (trace says Opened boot n) e (to_cut (trace says Opened boot n)) (kept trace).conts refl (sym (ap (λ b. option_or (then_some b d) (cuts_or_drains (trace says Opened boot n) (to_cut (trace says Opened boot n)))) q) ∙ g)

tells-by : (trace : Trace) (e : Event) → IsPlayed trace → next trace ≡ Some e → TellsFlight trace e
tells-by trace (Down why) p h = tt
tells-by (trace says Opened boot n) e p h = tells-flight trace boot n e p h
tells-by trace e p h = tt

tells-at : (trace : Trace) (e : Event) → IsPlayed trace → May trace e → TellsFlight trace e
tells-at trace (Down why) p m = tt
tells-at trace (Opened boot n) p m = opened trace p m
  where
    opened : (trace : Trace) → IsPlayed trace → MayOpen (phase trace) trace boot n → TellsFlight trace (Opened boot n)
    opened (trace says Opened x y) p m = absurd m
    opened trace p m = tt
tells-at trace e p m = tells-by trace e p m

abbrev KeptLaws : Trace → Event → Type 0
KeptLaws trace e = NumbersOn trace e × OpensRight trace e × TellsFlight trace e × TellsOwn trace e × CutsRight trace e

kept-laws : (trace : Trace) → IsPlayed trace → OfBoots (start_of trace).kept → Each KeptLaws trace
kept-laws (from k) p w = tt
kept-laws (trace asks line) p w = kept-laws trace p.0 w
kept-laws (trace turns b) p w = kept-laws trace p.0 w
kept-laws (trace says e) p w =
    let h = holds trace p.0 w in
    let f = may-fit trace e h.comes p.1 in
    (kept-laws trace p.0 w, (numbers-at trace e f, opens-at trace e p.1, tells-at trace e p.0 p.1, owns-at trace e p.0 w f p.1, cuts-at trace e h.sound f))

pub kept-played : (trace : Trace) → IsPlayed trace → OfBoots (start_of trace).kept → IsKept trace
kept-played trace p w =
    let a = kept-laws trace p w in
    record {
      numbers = each KeptLaws NumbersOn (λ l e r. r.0) trace a;
      opens = each KeptLaws OpensRight (λ l e r. r.1) trace a;
      flight = each KeptLaws TellsFlight (λ l e r. r.2) trace a;
      own = each KeptLaws TellsOwn (λ l e r. r.3) trace a;
      cuts = each KeptLaws CutsRight (λ l e r. r.4) trace a;
    }
