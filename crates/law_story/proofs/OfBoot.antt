-- Nothing is told of units of earlier boots but the flight, and their cuts, the least name first.
use Rattle.law_story.proofs.Coming.{Good}
use Rattle.law_story.proofs.Every.{IfSome}
use Rattle.law_story.proofs.Fresh.{IfComes, comes-map, comes-option_or, comes-then_some}
use Rattle.law_story.proofs.Ids.{is_same_id-true}
use Rattle.law_story.proofs.Lists.{In, either, in-filter, in-order, into-filter, order-none}
use Rattle.law_story.proofs.NextFits.{Fits, IsOwn, first-in}
use Rattle.law_story.proofs.Replays.{replays}
use Rattle.law_story.proofs.Sound.{Sound, boot-ended, kind-in, none-open, none-open-early, open-back}
use Rattle.law_story.proofs.Upheld.{OfBoots, holds, may-fit}
use Rattle.salt_model.specs.After.{kept}
use Rattle.salt_model.specs.Continuing.{last_said}
use Rattle.salt_model.specs.Decided.{CutsRight, IsLeftOpen, IsOfBoot, IsOwnIn, TellsOwn, counts_flight}
use Rattle.salt_model.specs.Kept.{cont_of}
use Rattle.salt_model.specs.Next.{flight, is_decision, next, said_event}
use Rattle.salt_model.specs.Openings.{cuts_or_drains, drains, follow_opening, stands_now, to_cut, unfinished}
use Rattle.salt_model.specs.Phases.{Fallen, Opening, Phase, Serving, phase}
use Rattle.salt_model.specs.Played.{IsPlayed}
use Rattle.salt_model.specs.Segments.{May}
use Rattle.salt_model.specs.Trace.{Trace, from, start_of, ◌asks◌, ◌says◌, ◌turns◌}
use Rattle.salt_model.specs.Turns.{after_did, after_end, commits, does, does_next, fails, finishes, is_at_end}
use Rattle.salt_model.specs.Units.{is_open, kind_of, open_units, units_begun}
use Rattle.salt_model.specs.Waiting.{asked_by, block_of}
use Rattle.salt_model.specs.Words.{first_of_list, is_empty}
use Rattle.salt_model.specs.declared.events.Answer.{Answer}
use Rattle.salt_model.specs.declared.events.Answer.TheVariants.{Failed}
use Rattle.salt_model.specs.declared.events.End.{End}
use Rattle.salt_model.specs.declared.events.End.TheVariants.{Branched, Committed, Cut}
use Rattle.salt_model.specs.declared.events.Event.{Event}
use Rattle.salt_model.specs.declared.events.Event.TheVariants.{Accepted, Began, Did, Down, Early, Ended, Finished, Opened, Ready, Waits}
use Rattle.salt_model.specs.declared.events.UnitKind.{UnitKind}
use Rattle.salt_model.specs.declared.events.UnitKind.TheVariants.{First, Later}
use Rattle.salt_values.specs.Id.{in_order, insert_id, is_older, is_same_id}
use Rattle.salt_values.specs.declared.cont.Cont.{Cont}
use Rattle.salt_values.specs.declared.id.Id.{Id}
use Rattle.std.proofs.Common.{ap, arith, inl, inr, subst, sym, ◌∙◌}
use Rattle.std.proofs.lemmas.Bool.Decides.{nat_tests}
use Rattle.std.specs.Bool.{then_some}
use Rattle.std.specs.List.{filter}
use Rattle.std.specs.Option.{option_or}
use Rattle.std.specs.Prelude.{Bool, List, None, Option, Some, [], cond, false, is_none, nat_lt, refl, true, ℕ, ◌+◌, ◌<◌, ◌==◌, ◌∷◌, ◌≡◌, ◌⊎◌}

-- names put in order

not-older-self : (u : Id) → is_older u u ≡ false
not-older-self u = grind (arith, nat_tests)

not-older-front : (v w x : Id) → is_older w x ≡ true → is_older v x ≡ false → is_older v w ≡ false
not-older-front v w x a b = grind (arith, nat_tests)

-- the first of them has the least name
first-least : (us : List Id) (u : Id) → first_of_list (in_order us) ≡ Some u → (v : Id) → In v us → is_older v u ≡ false
first-least [] u h v i = absurd i
first-least (w ∷ ws) u h v i = go (in_order ws) (λ x f k. first-least ws x f v k) refl h i
  where
    pick : (x : Id) (xs : List Id) → ((x : Id) → first_of_list (in_order ws) ≡ Some x → In v ws → is_older v x ≡ false) → first_of_list (in_order ws) ≡ Some x → (b : Bool) → is_older w x ≡ b → (c : Bool) →
        first_of_list (cond b (w ∷ x ∷ xs) (cond c (x ∷ xs) (x ∷ insert_id w xs))) ≡ Some u → In v (w ∷ ws) → is_older v u ≡ false
    pick x xs least f true e c g (inl s) = let t : w ≡ u = cc in subst (λ z. is_older z u ≡ false) s (subst (λ z. is_older w z ≡ false) t (not-older-self w))
    pick x xs least f true e c g (inr k) = let t : w ≡ u = cc in subst (λ z. is_older v z ≡ false) t (not-older-front v w x e (least x f k))
    pick x xs least f false e true g (inl s) = let t : x ≡ u = cc in subst (λ z. is_older z u ≡ false) s (subst (λ z. is_older w z ≡ false) t e)
    pick x xs least f false e true g (inr k) = let t : x ≡ u = cc in subst (λ z. is_older v z ≡ false) t (least x f k)
    pick x xs least f false e false g (inl s) = let t : x ≡ u = cc in subst (λ z. is_older z u ≡ false) s (subst (λ z. is_older w z ≡ false) t e)
    pick x xs least f false e false g (inr k) = let t : x ≡ u = cc in subst (λ z. is_older v z ≡ false) t (least x f k)

    go : (xs : List Id) → ((x : Id) → first_of_list (in_order ws) ≡ Some x → In v ws → is_older v x ≡ false) → in_order ws ≡ xs → first_of_list (insert_id w xs) ≡ Some u → In v (w ∷ ws) → is_older v u ≡ false
    go [] least e g (inl s) = let t : w ≡ u = cc in subst (λ z. is_older z u ≡ false) s (subst (λ z. is_older w z ≡ false) t (not-older-self w))
    go [] least e g (inr k) = absurd (subst (In v) (order-none ws e) k)
    go (x ∷ xs) least e g j = pick x xs least (ap first_of_list e) (is_older w x) refl (is_same_id w x) g j

below : (a b : ℕ) → nat_lt a b ≡ true → a < b
below a b h = grind (arith, nat_tests)

is-below : (a b : ℕ) → a < b → nat_lt a b ≡ true
is-below a b h = grind (arith, nat_tests)

pub cuts-at : (trace : Trace) (e : Event) → Sound trace → Fits trace e → CutsRight trace e
cuts-at trace (Ended u Cut) s f =
    let old : Id → Bool = λ u. nat_lt u.boot (kept trace).boot in
    let i = in-order u (filter old (open_units trace)) (first-in u (to_cut trace) f.1.1) in
    let b = (in-filter old u (open_units trace) i).1 in
    (f.1.0, (f.0, below u.boot (kept trace).boot b), least)
  where
    least : (v : Id) → IsLeftOpen trace v → is_older v u ≡ false
    least v l =
        let old : Id → Bool = λ u. nat_lt u.boot (kept trace).boot in
        let o : In v (open_units trace) = into-filter (is_open trace) v (units_begun trace) (kind-in trace v (s.known v l.0)) l.0 in
        first-least (filter old (open_units trace)) u f.1.1 v (into-filter old v (open_units trace) o (is-below v.boot (kept trace).boot l.1))
cuts-at trace e s f = tt

-- of this boot, in an opening

abbrev IsOfOpening : Trace → Event → Type 0
IsOfOpening trace e = IsOwnIn Opening trace e

cuts-own : (trace : Trace) (us : List Id) → IfComes (IsOfOpening trace) (cuts_or_drains trace us)
cuts-own trace (u ∷ us) = tt
cuts-own trace [] = comes-then_some (IsOfOpening trace) (is_empty (open_units trace)) (drains trace (kept trace).conts) (begun (kept trace).conts)
  where
    begun : (cs : List Cont) → IsOfOpening trace (drains trace cs)
    begun [] = tt
    begun (c ∷ cs) = by (start_of trace).early
      where
        by : (t : Bool) → IsOfOpening trace (unfinished t trace c cs)
        by true = tt
        by false = refl

does-own : (trace : Trace) (u : Id) → u.boot ≡ (kept trace).boot → IfComes (IsOfOpening trace) (does_next trace u)
does-own trace u h = comes-map (IsOfOpening trace) (does trace u) (asked_by u trace) (λ st. h)

did-own : (trace : Trace) (u : Id) (a : Answer) → u.boot ≡ (kept trace).boot → IfComes (IsOfOpening trace) (after_did trace u a)
did-own trace u (Failed c) h = go (kind_of u trace)
  where
    go : (o : Option UnitKind) → IsOfOpening trace (fails trace u c o)
    go (Some (Later b part)) = h
    go o = h
did-own trace u a h = comes-then_some (IsOfOpening trace) (is_at_end trace u (block_of u trace)) (commits trace u) h

finish-own : (trace : Trace) (b : Id) → IfComes (IsOfOpening trace) (finishes trace b)
finish-own trace b = comes-then_some (IsOfOpening trace) (is_none (cont_of b (kept trace))) (Finished b) tt

end-own : (trace : Trace) (end : End) (o : Option UnitKind) → IfComes (IsOfOpening trace) (after_end trace end o)
end-own trace (Committed n) (Some (First s b name args)) = tt
end-own trace (Committed n) (Some (Later b part)) = finish-own trace b
end-own trace (Branched n c) (Some (Later b part)) = finish-own trace b
end-own trace end o = tt

follow-own : (trace : Trace) (e : Event) → ((u : Id) → IsOwn u (Some e) → u.boot ≡ (kept (trace says e)).boot) → IfComes (IsOfOpening (trace says e)) (follow_opening (trace says e) e)
follow-own trace (Began u kind) own = does-own (trace says Began u kind) u (own u refl)
follow-own trace (Did u st a) own =
    comes-option_or (IsOfOpening (trace says Did u st a)) (after_did (trace says Did u st a) u a) (does_next (trace says Did u st a) u)
    (did-own (trace says Did u st a) u a (own u refl)) (does-own (trace says Did u st a) u (own u refl))
follow-own trace (Ended u end) own = end-own (trace says Ended u end) end (kind_of u trace)
follow-own trace (Accepted b) own = finish-own (trace says Accepted b) b
follow-own trace e own = tt

-- in an opening the unit that the last event is of is of this boot
abbrev Own : Trace → Type 0
Own trace = phase trace ≡ Opening → (u : Id) → IsOwn u (last_said trace) → u.boot ≡ (kept trace).boot

said-own : (trace : Trace) (e : Event) → Own (trace says e) → phase (trace says e) ≡ Opening → (p : Phase) → phase (trace says e) ≡ p → IfComes (IsOfOpening (trace says e)) (said_event p (trace says e) e)
said-own trace e own o Opening q =
    comes-option_or (IsOfOpening (trace says e)) (follow_opening (trace says e) e) (cuts_or_drains (trace says e) (to_cut (trace says e)))
    (follow-own trace e (own o)) (cuts-own (trace says e) (to_cut (trace says e)))
said-own trace e own o Serving q = cc
said-own trace e own o Fallen q = tt

abbrev IsFlight : Trace → Event → Type 0
IsFlight trace e = (counts_flight trace ≡ true) × (is_decision e ≡ true)

-- what comes next in an opening is of this boot, or the flight
next-own : (trace : Trace) (e : Event) → IsPlayed trace → Own trace → phase trace ≡ Opening → next trace ≡ Some e → IsFlight trace e ⊎ IsOfOpening trace e
next-own (from k) e p own o n = cc
next-own (trace asks asked) e p own o n = let s : phase trace ≡ Serving = p.1.0 in cc
next-own (trace turns b) e p own o n = let s : phase trace ≡ Serving = p.1 in cc
next-own (trace says Down why) e p own o n = cc
next-own (trace says Opened boot m) e p own o n = go (flight trace) (replays trace p.0).flying (m == (kept trace).decisions + 1) refl n
  where
    go : (f : Option Event) → IfSome (λ d. Good trace d × (is_decision d ≡ true)) f → (b : Bool) → (m == (kept trace).decisions + 1) ≡ b →
        option_or (stands_now (trace says Opened boot m) m f) (cuts_or_drains (trace says Opened boot m) (to_cut (trace says Opened boot m))) ≡ Some e → IsFlight (trace says Opened boot m) e ⊎ IsOfOpening (trace says Opened boot m) e
    go None i b q g = inr (subst (IfComes (IsOfOpening (trace says Opened boot m))) g (cuts-own (trace says Opened boot m) (to_cut (trace says Opened boot m))))
    go (Some d) i true q g =
        let r : Some d ≡ Some e = sym (ap (λ b. option_or (then_some b d) (cuts_or_drains (trace says Opened boot m) (to_cut (trace says Opened boot m)))) q) ∙ g in
        let s : d ≡ e = cc in
        inl (q, subst (λ x. is_decision x ≡ true) s i.1)
    go (Some d) i false q g =
        inr (subst (IfComes (IsOfOpening (trace says Opened boot m))) (sym (ap (λ b. option_or (then_some b d) (cuts_or_drains (trace says Opened boot m) (to_cut (trace says Opened boot m)))) q) ∙ g)
        (cuts-own (trace says Opened boot m) (to_cut (trace says Opened boot m))))
next-own (trace says x) e p own o n = inr (subst (IfComes (IsOfOpening (trace says x))) n (said-own trace x own o (phase (trace says x)) refl))

-- a statement done, and a unit begun, is no decision
own-at : (trace : Trace) (e : Event) → IsPlayed trace → Own trace → phase trace ≡ Opening → is_decision e ≡ false → next trace ≡ Some e → IsOfOpening trace e
own-at trace e p own o d n = either (λ f. let x = f.1 in cc) (λ h. h) (next-own trace e p own o n)

own-says : (trace : Trace) (e : Event) → IsPlayed trace → Own trace → May trace e → Own (trace says e)
own-says trace (Began v kind) p own m o u i = subst (λ w. w.boot ≡ (kept trace).boot) i (own-at trace (Began v kind) p own o refl m)
own-says trace (Did v st a) p own m o u i = subst (λ w. w.boot ≡ (kept trace).boot) i (own-at trace (Did v st a) p own o refl m)
own-says trace e p own m o u i = absurd i

own : (trace : Trace) → IsPlayed trace → Own trace
own (from k) p = λ o u i. absurd i
own (trace asks asked) p = own trace p.0
own (trace turns b) p = own trace p.0
own (trace says e) p = own-says trace e p.0 (own trace p.0) p.1

-- of this boot, while the run serves

abbrev OpenOwn : Trace → Type 0
OpenOwn trace = phase trace ≡ Serving → (u : Id) → is_open trace u ≡ true → u.boot ≡ (kept trace).boot

open-says : (trace : Trace) (e : Event) → Sound trace → Fits trace e → OpenOwn trace → OpenOwn (trace says e)
open-says trace (Down why) s f h p u o = cc
open-says trace (Opened boot n) s f h p u o = cc
open-says trace Ready s f h p u o = absurd (none-open trace s f u o)
open-says trace (Early bs) s f h p u o = absurd (none-open-early trace bs s f u o)
open-says trace (Began v kind) s f h p u o =
    either (λ q. h p u q) (λ b. ap (λ x. x.boot) (is_same_id-true u v b) ∙ ap (λ x. x.boot) f.0) (open-back trace (Began v kind) u f o)
open-says trace (Ended v end) s f h p u o = h p u (either (λ q. q) (λ q. absurd q) (open-back trace (Ended v end) u f o)) ∙ sym (boot-ended trace v end)
open-says trace e s f h p u o = h p u (either (λ q. q) (λ q. absurd q) (open-back trace e u f o))

open-own : (trace : Trace) → IsPlayed trace → OfBoots (start_of trace).kept → OpenOwn trace
open-own (from k) p w = λ q u o. cc
open-own (trace asks asked) p w = open-own trace p.0 w
open-own (trace turns b) p w = open-own trace p.0 w
open-own (trace says e) p w = let h = holds trace p.0 w in open-says trace e h.sound (may-fit trace e h.comes p.1) (open-own trace p.0 w)

serving-own : (trace : Trace) (e : Event) → Fits trace e → OpenOwn trace → phase trace ≡ Serving → IsOfBoot trace e
serving-own trace (Began u kind) f h p = ap (λ x. x.boot) f.0
serving-own trace (Did u st a) f h p = h p u f.0
serving-own trace (Waits u owners) f h p = h p u f
serving-own trace (Ended u Cut) f h p = tt
serving-own trace (Ended u end) f h p = h p u f.0
serving-own trace e f h p = tt

-- while the run is down nothing comes
fallen-none : (trace : Trace) (e : Event) → IsPlayed trace → phase trace ≡ Fallen → next trace ≡ Some e → ⊥
fallen-none (from k) e p o n = cc
fallen-none (trace asks asked) e p o n = let s : phase trace ≡ Serving = p.1.0 in cc
fallen-none (trace turns b) e p o n = let s : phase trace ≡ Serving = p.1 in cc
fallen-none (trace says Down why) e p o n = cc
fallen-none (trace says Opened boot m) e p o n = cc
fallen-none (trace says x) e p o n = let g : said_event Fallen (trace says x) x ≡ Some e = subst (λ q. said_event q (trace says x) x ≡ Some e) o n in cc

of-boot : (trace : Trace) (e : Event) → IsOfBoot trace e → IsOfOpening trace e → (p : Phase) → IsOwnIn p trace e
of-boot trace e h g Opening = g
of-boot trace e h g Serving = h
of-boot trace e h g Fallen = h

next-at : (trace : Trace) (e : Event) → IsPlayed trace → OfBoots (start_of trace).kept → Fits trace e → next trace ≡ Some e → TellsOwn trace e
next-at trace e p w f n = λ c. go c (phase trace) refl
  where
    go : counts_flight trace ≡ false → (q : Phase) → phase trace ≡ q → IsOwnIn q trace e
    go c Opening o = either (λ f. let x = f.0 in cc) (λ h. h) (next-own trace e p (own trace p) o n)
    go c Serving o = serving-own trace e f (open-own trace p w) o
    go c Fallen o = absurd (fallen-none trace e p o n)

pub owns-at : (trace : Trace) (e : Event) → IsPlayed trace → OfBoots (start_of trace).kept → Fits trace e → May trace e → TellsOwn trace e
owns-at trace (Down why) p w f m = λ c. of-boot trace (Down why) tt tt (phase trace)
owns-at trace (Opened boot n) p w f m = λ c. of-boot trace (Opened boot n) tt tt (phase trace)
owns-at trace e p w f m = next-at trace e p w f m
