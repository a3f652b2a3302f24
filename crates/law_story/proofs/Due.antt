-- What is told of programs comes directly after the event that it is due to, and nowhere else.
use Rattle.law_story.proofs.Fresh.{IfComes}
use Rattle.law_story.proofs.Ids.{and_right}
use Rattle.law_story.proofs.Lists.{either}
use Rattle.law_story.proofs.NextFits.{Comes, Fits, IsAcceptance, IsLastEnd, is_first_of}
use Rattle.law_story.proofs.Upheld.{may-fit, may-open}
use Rattle.salt_model.specs.After.{kept}
use Rattle.salt_model.specs.Continuing.{AcceptsDue, FinishesDue, accepted_after, accepted_by, finished_after, finished_by, if_ended, last_said, part_due, program_continued}
use Rattle.salt_model.specs.Kept.{cont_of}
use Rattle.salt_model.specs.Next.{next, said_event}
use Rattle.salt_model.specs.Phases.{Fallen, Opening, Phase, Serving, phase}
use Rattle.salt_model.specs.Played.{IsPlayed}
use Rattle.salt_model.specs.Segments.{May}
use Rattle.salt_model.specs.Stops.{MayFall, is_at_devices, is_device_next}
use Rattle.salt_model.specs.Trace.{Asked, Start, Trace, from, ◌asks◌, ◌says◌, ◌turns◌}
use Rattle.salt_model.specs.Turns.{after_end, finishes, settle}
use Rattle.salt_model.specs.Units.{kind_of, program_begun}
use Rattle.salt_model.specs.declared.events.Cause.{Cause}
use Rattle.salt_model.specs.declared.events.End.{End}
use Rattle.salt_model.specs.declared.events.End.TheVariants.{Branched, Committed}
use Rattle.salt_model.specs.declared.events.Event.{Event}
use Rattle.salt_model.specs.declared.events.Event.TheVariants.{Accepted, Down, Ended, Finished, Opened, Ready}
use Rattle.salt_model.specs.declared.events.UnitKind.{UnitKind}
use Rattle.salt_model.specs.declared.events.UnitKind.TheVariants.{Acid, Call, First, Later}
use Rattle.salt_model.specs.declared.events.Why.{Why}
use Rattle.salt_values.specs.declared.cont.Cont.{Cont}
use Rattle.salt_values.specs.declared.id.Id.{Id}
use Rattle.std.proofs.Common.{ap, inl, inr, sym, ◌∙◌}
use Rattle.std.specs.Bool.{then_some}
use Rattle.std.specs.Option.{option_or}
use Rattle.std.specs.Prelude.{Bool, None, Option, Some, false, is_none, option_and_then, option_map, refl, true, ℕ, ◌≡◌, ◌⊎◌}

-- nothing comes while the run is down
pub nothing-fallen : (trace : Trace) → IsPlayed trace → phase trace ≡ Fallen → next trace ≡ None
nothing-fallen (from k) p f = refl
nothing-fallen (trace asks asked) p f = let e : Serving ≡ Fallen = sym p.1.0 ∙ f in cc
nothing-fallen (trace turns b) p f = let e : Serving ≡ Fallen = sym p.1 ∙ f in cc
nothing-fallen (trace says Down why) p f = refl
nothing-fallen (trace says Opened boot n) p f = cc
nothing-fallen (trace says Ready) p f = cc
nothing-fallen (trace says e) p f = ap (λ q. said_event q (trace says e) e) f

-- a thing that is due after an event, what tells of it, and the event that does
module _ (due : Trace → Option Event → Option Id) (told : Event → Option Id) (event : Id → Event)
    (by-asks : (trace : Trace) (asked : Asked) (o : Option Event) → due (trace asks asked) o ≡ due trace o)
    (by-turns : (trace : Trace) (b : Id) (o : Option Event) → due (trace turns b) o ≡ due trace o)
    (start : (k : Start) → due (from k) None ≡ None)
    (comes : (trace : Trace) (x : Event) (b : Id) → IsPlayed (trace says x) → due (trace says x) (Some x) ≡ Some b → next (trace says x) ≡ Some (event b))
    (quiet : (trace : Trace) (e : Event) → Fits trace e → due trace (last_said trace) ≡ None → told e ≡ None)
    (tells : (b : Id) → told (event b) ≡ Some b)
    (away : (trace : Trace) (b : Id) → is_at_devices trace (event b) ≡ false) where
  abbrev IsDue : Trace → Type 0
  IsDue trace = (b : Id) × (due trace (last_said trace) ≡ Some b) × (next trace ≡ Some (event b))

  due-next : (trace : Trace) → IsPlayed trace → (due trace (last_said trace) ≡ None) ⊎ IsDue trace
  due-next (from k) p = inl (start k)
  due-next (trace asks asked) p = either (λ h. inl (by-asks trace asked (last_said trace) ∙ h)) (λ r. let e : Some (event r.0) ≡ None = sym r.2 ∙ p.1.1 in cc) (due-next trace p.0)
  due-next (trace turns b) p = either (λ h. inl (by-turns trace b (last_said trace) ∙ h)) (λ r. let e : Some (event r.0) ≡ None = sym r.2 ∙ p.2 in cc) (due-next trace p.0)
  due-next (trace says x) p = by (due (trace says x) (Some x)) refl
    where
      by : (o : Option Id) → due (trace says x) (Some x) ≡ o → (due (trace says x) (Some x) ≡ None) ⊎ IsDue (trace says x)
      by None e = inl e
      by (Some b) e = inr (b, e, comes trace x b p e)

  no-fall : (trace : Trace) (why : Why) (b : Id) → IsPlayed trace → next trace ≡ Some (event b) → MayFall (phase trace) trace why → ⊥
  no-fall trace why b p n m = by (phase trace) refl m
    where
      not-at : is_device_next trace (next trace) ≡ false
      not-at = ap (is_device_next trace) n ∙ away trace b

      by : (q : Phase) → phase trace ≡ q → MayFall q trace why → ⊥
      by Serving e g = let x : false ≡ true = sym not-at ∙ g in cc
      by Opening e g = let x : false ≡ true = sym not-at ∙ and_right _ _ g.1 in cc
      by Fallen e g = let x : None ≡ Some (event b) = sym (nothing-fallen trace p e) ∙ n in cc

  telling : (trace : Trace) (e : Event) (b : Id) → IsPlayed trace → next trace ≡ Some (event b) → May trace e → told e ≡ Some b
  telling trace (Down why) b p n m = absurd (no-fall trace why b p n m)
  telling trace (Opened boot x) b p n m = let f : phase trace ≡ Fallen = (may-open (phase trace) trace boot x m).0 in let g : None ≡ Some (event b) = sym (nothing-fallen trace p f) ∙ n in cc
  telling trace e b p n m = let g : Some e ≡ Some (event b) = sym m ∙ n in let h : e ≡ event b = cc in ap told h ∙ tells b

  pub comes-due : (trace : Trace) (e : Event) → IsPlayed trace → IfComes (Comes trace) (next trace) → May trace e → due trace (last_said trace) ≡ told e
  comes-due trace e p c m = either (λ h. h ∙ sym (quiet trace e (may-fit trace e c m) h)) (λ r. r.1 ∙ sym (telling trace e r.0 p r.2 m)) (due-next trace p)

or-first : (o other : Option Event) (e : Event) → o ≡ Some e → option_or o other ≡ Some e
or-first (Some x) other e h = h
or-first None other e h = cc

-- what follows an event comes directly after it, where the run is not down
follows : (trace : Trace) (x e : Event) → IsPlayed trace → next trace ≡ Some x → phase (trace says x) ≡ phase trace → ((q : Phase) → (q ≡ Fallen → ⊥) → said_event q (trace says x) x ≡ Some e) → said_event (phase (trace says x)) (trace says x) x ≡ Some e
follows trace x e p n same f = ap (λ q. said_event q (trace says x) x) same ∙ f (phase trace) (λ d. let g : None ≡ Some x = sym (nothing-fallen trace p d) ∙ n in cc)

-- ACCEPTED

pub accepts-asks : (trace : Trace) (asked : Asked) (o : Option Event) → accepted_after (trace asks asked) o ≡ accepted_after trace o
accepts-asks trace asked (Some (Ended u (Committed n))) = refl
accepts-asks trace asked o = refl

pub accepts-turns : (trace : Trace) (b : Id) (o : Option Event) → accepted_after (trace turns b) o ≡ accepted_after trace o
accepts-turns trace b (Some (Ended u (Committed n))) = refl
accepts-turns trace b o = refl

after-first : (trace : Trace) (n : ℕ) (o : Option UnitKind) (b : Id) → option_and_then program_begun o ≡ Some b → after_end trace (Committed n) o ≡ Some (Accepted b)
after-first trace n (Some (First s c name args)) b h = let e : c ≡ b = cc in ap (λ x. Some (Accepted x)) e
after-first trace n None b h = cc
after-first trace n (Some (Acid s)) b h = cc
after-first trace n (Some (Call s name args)) b h = cc
after-first trace n (Some (Later c part)) b h = cc

-- an end's followers come in each phase but a fallen one
end-follows : (trace : Trace) (u : Id) (end : End) (e : Event) → after_end (trace says Ended u end) end (kind_of u trace) ≡ Some e → (q : Phase) → (q ≡ Fallen → ⊥) → said_event q (trace says Ended u end) (Ended u end) ≡ Some e
end-follows trace u end e h Serving d = or-first _ (settle (trace says Ended u end)) e h
end-follows trace u end e h Opening d = or-first _ _ e h
end-follows trace u end e h Fallen d = absurd (d refl)

accepts-comes : (trace : Trace) (x : Event) (b : Id) → IsPlayed (trace says x) → accepted_after (trace says x) (Some x) ≡ Some b → next (trace says x) ≡ Some (Accepted b)
accepts-comes trace (Ended u (Committed n)) b p h = follows trace (Ended u (Committed n)) (Accepted b) p.0 p.1 refl (end-follows trace u (Committed n) (Accepted b) (after-first (trace says Ended u (Committed n)) n (kind_of u trace) b h))
accepts-comes trace x b p h = cc

accepts-quiet : (trace : Trace) (e : Event) → Fits trace e → accepted_after trace (last_said trace) ≡ None → accepted_by e ≡ None
accepts-quiet trace (Accepted b) f h = absurd (by (last_said trace) f h)
  where
    kinds : (o : Option UnitKind) → is_first_of b o ≡ true → option_and_then program_begun o ≡ None → ⊥
    kinds (Some (First s c n args)) g d = cc
    kinds None g d = cc
    kinds (Some (Acid s)) g d = cc
    kinds (Some (Call s n args)) g d = cc
    kinds (Some (Later c part)) g d = cc

    by : (o : Option Event) → IsAcceptance b trace o → accepted_after trace o ≡ None → ⊥
    by (Some (Ended u (Committed n))) g d = kinds (kind_of u trace) g d
    by o g d = absurd g
accepts-quiet trace e f h = refl

pub accepts-due : (trace : Trace) (e : Event) → IsPlayed trace → IfComes (Comes trace) (next trace) → May trace e → AcceptsDue trace e
accepts-due = comes-due accepted_after accepted_by Accepted accepts-asks accepts-turns (λ k. refl) accepts-comes accepts-quiet (λ b. refl) (λ trace b. refl)

-- FINISHED

ended-asks : (trace : Trace) (asked : Asked) (o : Option Id) → if_ended (trace asks asked) o ≡ if_ended trace o
ended-asks trace asked None = refl
ended-asks trace asked (Some b) = refl

ended-turns : (trace : Trace) (b : Id) (o : Option Id) → if_ended (trace turns b) o ≡ if_ended trace o
ended-turns trace b None = refl
ended-turns trace b (Some c) = refl

pub finishes-asks : (trace : Trace) (asked : Asked) (o : Option Event) → finished_after (trace asks asked) o ≡ finished_after trace o
finishes-asks trace asked (Some (Ended u (Committed n))) = ended-asks trace asked (option_and_then program_continued (kind_of u trace))
finishes-asks trace asked (Some (Ended u (Branched n c))) = ended-asks trace asked (option_and_then program_continued (kind_of u trace))
finishes-asks trace asked (Some (Accepted b)) = refl
finishes-asks trace asked o = refl

pub finishes-turns : (trace : Trace) (b : Id) (o : Option Event) → finished_after (trace turns b) o ≡ finished_after trace o
finishes-turns trace b (Some (Ended u (Committed n))) = ended-turns trace b (option_and_then program_continued (kind_of u trace))
finishes-turns trace b (Some (Ended u (Branched n c))) = ended-turns trace b (option_and_then program_continued (kind_of u trace))
finishes-turns trace b (Some (Accepted c)) = refl
finishes-turns trace b o = refl

none-part : (o : Option Cont) → is_none (option_map (λ (c : Cont). c.next) o) ≡ is_none o
none-part None = refl
none-part (Some c) = refl

-- a program that has ended is finished
ends-finish : (trace : Trace) (c b : Id) → if_ended trace (Some c) ≡ Some b → finishes trace c ≡ Some (Finished b)
ends-finish trace c b h = by (is_none (part_due trace c)) refl h
  where
    by : (t : Bool) → is_none (part_due trace c) ≡ t → then_some t c ≡ Some b → finishes trace c ≡ Some (Finished b)
    by true e g = let n : is_none (cont_of c (kept trace)) ≡ true = sym (none-part (cont_of c (kept trace))) ∙ e in let s : c ≡ b = cc in ap (λ t. then_some t (Finished c)) n ∙ ap (λ x. Some (Finished x)) s
    by false e g = cc

after-committed : (trace : Trace) (n : ℕ) (o : Option UnitKind) (b : Id) → if_ended trace (option_and_then program_continued o) ≡ Some b → after_end trace (Committed n) o ≡ Some (Finished b)
after-committed trace n (Some (Later c part)) b h = ends-finish trace c b h
after-committed trace n None b h = cc
after-committed trace n (Some (Acid s)) b h = cc
after-committed trace n (Some (Call s name args)) b h = cc
after-committed trace n (Some (First s c name args)) b h = cc

after-branched : (trace : Trace) (n : ℕ) (cause : Cause) (o : Option UnitKind) (b : Id) → if_ended trace (option_and_then program_continued o) ≡ Some b → after_end trace (Branched n cause) o ≡ Some (Finished b)
after-branched trace n cause (Some (Later c part)) b h = ends-finish trace c b h
after-branched trace n cause None b h = cc
after-branched trace n cause (Some (Acid s)) b h = cc
after-branched trace n cause (Some (Call s name args)) b h = cc
after-branched trace n cause (Some (First s c name args)) b h = cc

acceptance-follows : (trace : Trace) (c : Id) (e : Event) → finishes (trace says Accepted c) c ≡ Some e → (q : Phase) → (q ≡ Fallen → ⊥) → said_event q (trace says Accepted c) (Accepted c) ≡ Some e
acceptance-follows trace c e h Serving d = or-first _ (settle (trace says Accepted c)) e h
acceptance-follows trace c e h Opening d = or-first _ _ e h
acceptance-follows trace c e h Fallen d = absurd (d refl)

finishes-comes : (trace : Trace) (x : Event) (b : Id) → IsPlayed (trace says x) → finished_after (trace says x) (Some x) ≡ Some b → next (trace says x) ≡ Some (Finished b)
finishes-comes trace (Ended u (Committed n)) b p h = follows trace (Ended u (Committed n)) (Finished b) p.0 p.1 refl (end-follows trace u (Committed n) (Finished b) (after-committed (trace says Ended u (Committed n)) n (kind_of u trace) b h))
finishes-comes trace (Ended u (Branched n c)) b p h = follows trace (Ended u (Branched n c)) (Finished b) p.0 p.1 refl (end-follows trace u (Branched n c) (Finished b) (after-branched (trace says Ended u (Branched n c)) n c (kind_of u trace) b h))
finishes-comes trace (Accepted c) b p h = follows trace (Accepted c) (Finished b) p.0 p.1 refl (acceptance-follows trace c (Finished b) (ends-finish (trace says Accepted c) c b h))
finishes-comes trace x b p h = cc

finishes-quiet : (trace : Trace) (e : Event) → Fits trace e → finished_after trace (last_said trace) ≡ None → finished_by e ≡ None
finishes-quiet trace (Finished b) f h = absurd (by (last_said trace) f h)
  where
    over : (o : Option Id) → o ≡ Some b → part_due trace b ≡ None → if_ended trace o ≡ None → ⊥
    over o e n d = let g : if_ended trace (Some b) ≡ None = sym (ap (if_ended trace) e) ∙ d in let s : Some b ≡ None = sym (ap (λ (x : Option ℕ). then_some (is_none x) b) n) ∙ g in cc

    by : (o : Option Event) → IsLastEnd b trace o → finished_after trace o ≡ None → ⊥
    by (Some (Ended u (Committed n))) g d = over (option_and_then program_continued (kind_of u trace)) g.0 g.1 d
    by (Some (Ended u (Branched n c))) g d = over (option_and_then program_continued (kind_of u trace)) g.0 g.1 d
    by (Some (Accepted c)) g d = over (Some c) (ap Some g.0) g.1 d
    by o g d = absurd g
finishes-quiet trace e f h = refl

pub finishes-due : (trace : Trace) (e : Event) → IsPlayed trace → IfComes (Comes trace) (next trace) → May trace e → FinishesDue trace e
finishes-due = comes-due finished_after finished_by Finished finishes-asks finishes-turns (λ k. refl) finishes-comes finishes-quiet (λ b. refl) (λ trace b. refl)
