-- The first named program that can go is the least of those that are unfinished and do not wait.
use Rattle.law_early.proofs.Turning.{gives-turns}
use Rattle.law_early.specs.Least.{IsLeast, is_free}
use Rattle.law_states.proofs.Ascending.{Older, every-in, order-ascends}
use Rattle.law_states.specs.Members.{Ascends}
use Rattle.law_story.proofs.Accounts.{accounts, none-some}
use Rattle.law_story.proofs.Due.{finishes-asks, finishes-turns}
use Rattle.law_story.proofs.Hiding.{hides}
use Rattle.law_story.proofs.Ids.{is_same_id-refl}
use Rattle.law_story.proofs.Lists.{In, either, has-in, in-has}
use Rattle.law_story.proofs.Sound.{bases_in, due-in}
use Rattle.law_story.proofs.Upheld.{OfBoots, holds, may-fit}
use Rattle.law_story.proofs.WellKept.{of-start}
use Rattle.salt_model.specs.After.{kept}
use Rattle.salt_model.specs.Continuing.{finished_after, if_ended, is_unfinished, last_said, program_continued}
use Rattle.salt_model.specs.Kept.{WellKept, cont_in, cont_of}
use Rattle.salt_model.specs.Next.{next, said_event, serving_event}
use Rattle.salt_model.specs.Phases.{Serving, phase}
use Rattle.salt_model.specs.Played.{IsPlayed}
use Rattle.salt_model.specs.Programs.{accepted_in, finished_in, named_early}
use Rattle.salt_model.specs.Trace.{Asked, Trace, from, start_of, ◌asks◌, ◌says◌, ◌turns◌}
use Rattle.salt_model.specs.Turns.{after_end, can_go, finishes, next_to_go, owes_turn, turn_owed}
use Rattle.salt_model.specs.Units.{is_waiting, program_unit}
use Rattle.salt_model.specs.declared.events.Cause.{Cause}
use Rattle.salt_model.specs.declared.events.End.TheVariants.{Branched, Committed}
use Rattle.salt_model.specs.declared.events.Event.{Event}
use Rattle.salt_model.specs.declared.events.Event.TheVariants.{Accepted, Down, Early, Ended, Finished, Opened}
use Rattle.salt_model.specs.declared.events.UnitKind.{UnitKind}
use Rattle.salt_model.specs.declared.events.UnitKind.TheVariants.{Acid, Call, First, Later}
use Rattle.salt_values.specs.Id.{has_id, is_older, is_same_id}
use Rattle.salt_values.specs.declared.cont.Cont.{Cont}
use Rattle.salt_values.specs.declared.id.Id.{Id}
use Rattle.std.proofs.Common.{ap, arith, inl, inr, subst, sym, ◌∙◌}
use Rattle.std.proofs.lemmas.Bool.Decides.{nat_tests}
use Rattle.std.specs.Bool.{then_some}
use Rattle.std.specs.List.{find}
use Rattle.std.specs.Option.{option_map_or, option_or}
use Rattle.std.specs.Prelude.{Bool, List, None, Option, Some, [], cond, false, if◌then◌else◌, is_none, is_some, map, not, option_and_then, option_map, refl, true, ℕ, ◌&&◌, ◌∷◌, ◌≡◌, ◌⊎◌}

-- where nothing is missing of a segment, no program is about to be finished

first-none : (o p : Option Event) → option_or o p ≡ None → o ≡ None
first-none None p h = refl
first-none (Some e) p h = cc

not-ended : (trace : Trace) (b : Id) → finishes trace b ≡ None → if_ended trace (Some b) ≡ None
not-ended trace b h = go (cont_of b (kept trace)) h
  where
    go : (o : Option Cont) → then_some (is_none o) (Finished b) ≡ None → then_some (is_none (option_map (λ (c : Cont). c.next) o)) b ≡ None
    go None g = cc
    go (Some c) g = refl

committed-none : (trace : Trace) (n : ℕ) (o : Option UnitKind) → after_end trace (Committed n) o ≡ None → if_ended trace (option_and_then program_continued o) ≡ None
committed-none trace n (Some (Later b part)) h = not-ended trace b h
committed-none trace n None h = refl
committed-none trace n (Some (Acid s)) h = refl
committed-none trace n (Some (Call s name args)) h = refl
committed-none trace n (Some (First s b name args)) h = refl

branched-none : (trace : Trace) (n : ℕ) (cause : Cause) (o : Option UnitKind) → after_end trace (Branched n cause) o ≡ None →
    if_ended trace (option_and_then program_continued o) ≡ None
branched-none trace n cause (Some (Later b part)) h = not-ended trace b h
branched-none trace n cause None h = refl
branched-none trace n cause (Some (Acid s)) h = refl
branched-none trace n cause (Some (Call s name args)) h = refl
branched-none trace n cause (Some (First s b name args)) h = refl

said-none : (trace : Trace) (e : Event) → serving_event (trace says e) e ≡ None → finished_after (trace says e) (Some e) ≡ None
said-none trace (Ended u (Committed n)) h = committed-none (trace says Ended u (Committed n)) n _ (first-none _ _ h)
said-none trace (Ended u (Branched n c)) h = branched-none (trace says Ended u (Branched n c)) n c _ (first-none _ _ h)
said-none trace (Accepted b) h = not-ended (trace says Accepted b) b (first-none _ _ h)
said-none trace e h = refl

none-due : (trace : Trace) → IsPlayed trace → phase trace ≡ Serving → next trace ≡ None → finished_after trace (last_said trace) ≡ None
none-due (from k) p s n = refl
none-due (trace asks asked) p s n = finishes-asks trace asked (last_said trace) ∙ none-due trace p.0 p.1.0 p.1.1
none-due (trace turns b) p s n = finishes-turns trace b (last_said trace) ∙ none-due trace p.0 p.1 p.2
none-due (trace says Down why) p s n = refl
none-due (trace says Opened boot m) p s n = refl
none-due (trace says e) p s n = said-none trace e (subst (λ q. said_event q (trace says e) e ≡ None) s n)

-- there a named program goes on exactly where it is unfinished

in-cont : (b : Id) (cs : List Cont) → In b (map (λ (c : Cont). c.base) cs) → cont_in b cs ≡ None → ⊥
in-cont b [] i h = i
in-cont b (c ∷ cs) i h = go (is_same_id b c.base) refl h i (in-cont b cs)
  where
    go : (t : Bool) → is_same_id b c.base ≡ t → cond t (Some c) (cont_in b cs) ≡ None → (c.base ≡ b) ⊎ In b (map (λ (d : Cont). d.base) cs) →
        (In b (map (λ (d : Cont). d.base) cs) → cont_in b cs ≡ None → ⊥) → ⊥
    go true e g j more = cc
    go false e g (inl s) more = let same : is_same_id b c.base ≡ true = subst (λ x. is_same_id b x ≡ true) (sym s) (is_same_id-refl b) in cc
    go false e g (inr j) more = more j g

goes-on : (trace : Trace) → IsPlayed trace → OfBoots (start_of trace).kept → phase trace ≡ Serving → next trace ≡ None →
    (b : Id) → In b (named_early trace) → is_some (cont_of b (kept trace)) ≡ is_unfinished trace b
goes-on trace p w s n b i = go (cont_of b (kept trace)) refl (has_id b (finished_in trace)) refl
  where
    accepted : In b (accepted_in trace)
    accepted = (hides trace p w).named_accepted b i

    there : (c : Cont) → cont_of b (kept trace) ≡ Some c → In b (bases_in trace)
    there c e = due-in b c.next (kept trace).conts (ap (option_map (λ (d : Cont). d.next)) e)

    over : cont_of b (kept trace) ≡ None → has_id b (finished_in trace) ≡ true
    over e =
        either (λ g. in-has b (finished_in trace) g)
        (λ g. either (λ k. absurd (in-cont b (kept trace).conts k e)) (λ d. none-some _ b d (none-due trace p s n)) g) ((accounts trace p w).ends b accepted)

    go : (o : Option Cont) → cont_of b (kept trace) ≡ o → (t : Bool) → has_id b (finished_in trace) ≡ t → is_some o ≡ is_unfinished trace b
    go (Some c) e false g = rw (in-has b (accepted_in trace) accepted, g) refl
    go (Some c) e true g = absurd ((holds trace p w).sound.goes_on b (there c e) (inl (has-in b (finished_in trace) g)))
    go None e t g = rw (in-has b (accepted_in trace) accepted, over e) refl

can-free : (trace : Trace) → IsPlayed trace → OfBoots (start_of trace).kept → phase trace ≡ Serving → next trace ≡ None →
    (b : Id) → In b (named_early trace) → can_go trace b ≡ is_free trace b
can-free trace p w s n b i = ap (λ t. is_some (cont_of b (kept trace)) && t) (unit (program_unit b trace)) ∙ ap (λ t. t && not (option_map_or (is_waiting trace) (program_unit b trace) false)) (goes-on trace p w s n b i)
  where
    unit : (o : Option Id) → elim o [ None ↦ true | Some u ↦ not (is_waiting trace u) ] ≡ not (option_map_or (is_waiting trace) o false)
    unit None = refl
    unit (Some u) = refl

-- the first that passes, of a list in order of names

older-back : (u v : Id) → is_older u v ≡ true → is_older v u ≡ false
older-back u v h = grind (arith, nat_tests)

older-self : (u : Id) → is_older u u ≡ false
older-self u = grind (arith, nat_tests)

named-ascends : (trace : Trace) → IsPlayed trace → OfBoots (start_of trace).kept → Ascends Older (named_early trace)
named-ascends (from k) p w = tt
named-ascends (trace asks asked) p w = named-ascends trace p.0 w
named-ascends (trace turns b) p w = named-ascends trace p.0 w
named-ascends (trace says Early bs) p w =
    subst (Ascends Older) (sym (may-fit trace (Early bs) (holds trace p.0 w).comes p.1).1) (order-ascends (bases_in trace))
named-ascends (trace says e) p w = named-ascends trace p.0 w

-- the first of a list that passes
pub record IsFirst (p : Id → Bool) (us : List Id) (b : Id) : Type 0 where
  pub there : In b us
  pub passes : p b ≡ true
  pub least : (c : Id) → In c us → p c ≡ true → is_older c b ≡ false

found-first : (p : Id → Bool) (us : List Id) (b : Id) → Ascends Older us → find p us ≡ Some b → IsFirst p us b
found-first p [] b a h = cc
found-first p (u ∷ us) b a h = go (p u) refl h (found-first p us b a.1)
  where
    go : (t : Bool) → p u ≡ t → cond t (Some u) (find p us) ≡ Some b → (find p us ≡ Some b → IsFirst p us b) → IsFirst p (u ∷ us) b
    go true e g more =
        let same : u ≡ b = cc in
        record {
          there = inl same;
          passes = subst (λ x. p x ≡ true) same e;
          least = λ c i q. subst (λ x. is_older c x ≡ false) same (either (λ s. subst (λ x. is_older x u ≡ false) s (older-self u)) (λ j. older-back u c (every-in (Older u) c us a.0 j)) i);
        }
    go false e g more =
        let r = more g in
        record {
          there = inr r.there;
          passes = r.passes;
          least = λ c i q. either (λ s. let x : p c ≡ false = subst (λ x. p x ≡ false) s e in cc) (λ j. r.least c j q) i;
        }

found-none : (p : Id → Bool) (us : List Id) (b : Id) → find p us ≡ None → In b us → p b ≡ false
found-none p [] b h i = absurd i
found-none p (u ∷ us) b h i = go (p u) refl h i (found-none p us b)
  where
    go : (t : Bool) → p u ≡ t → cond t (Some u) (find p us) ≡ None → (u ≡ b) ⊎ In b us → (find p us ≡ None → In b us → p b ≡ false) → p b ≡ false
    go true e g j more = cc
    go false e g (inl s) more = subst (λ x. p x ≡ false) s e
    go false e g (inr j) more = more g j

-- the turn that is owed is that program's

owed-to : (trace : Trace) (b : Id) → turn_owed trace ≡ Some b → find (can_go trace) (named_early trace) ≡ Some b
owed-to trace b h = go (owes_turn trace) h
  where
    go : (t : Bool) → (if t then find (can_go trace) (named_early trace) else None) ≡ Some b → find (can_go trace) (named_early trace) ≡ Some b
    go true g = g
    go false g = cc

owed-none : (trace : Trace) → turn_owed trace ≡ None → owes_turn trace ≡ true → find (can_go trace) (named_early trace) ≡ None
owed-none trace none owed = subst (λ t. (if t then find (can_go trace) (named_early trace) else None) ≡ None) owed none

pub turn-least : (trace : Trace) (b : Id) → IsPlayed (trace turns b) → WellKept (start_of trace).kept → next_to_go trace ≡ None → IsLeast trace b
turn-least trace b p k none =
    let w = of-start (start_of trace).kept k in
    let f = found-first (can_go trace) (named_early trace) b (named-ascends trace p.0 w) (owed-to trace b ((gives-turns (trace turns b) p).1 none)) in
    let free : (c : Id) → In c (named_early trace) → can_go trace c ≡ is_free trace c = can-free trace p.0 w p.1 p.2 in
    record {
      named = in-has b (named_early trace) f.there;
      free = sym (free b f.there) ∙ f.passes;
      least = λ c i q. let j = has-in c (named_early trace) i in f.least c j (free c j ∙ q);
    }

pub none-free : (trace : Trace) (asked : Asked) → IsPlayed (trace asks asked) → WellKept (start_of trace).kept → owes_turn trace ≡ true →
    (b : Id) → has_id b (named_early trace) ≡ true → is_free trace b ≡ false
none-free trace asked p k owed b i =
    let j = has-in b (named_early trace) i in
    sym (can-free trace p.0 (of-start (start_of trace).kept k) p.1.0 p.1.1 b j) ∙ found-none (can_go trace) (named_early trace) b (owed-none trace (gives-turns (trace asks asked) p).1 owed) j
