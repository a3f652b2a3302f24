-- The laws of isolation, for all played traces, stops and openings included.
use Rattle.law_story.proofs.BaseTables.{Based, based}
use Rattle.law_story.proofs.Defined.{AreDefined}
use Rattle.law_story.proofs.Fresh.{IfComes}
use Rattle.law_story.proofs.Hiding.{Hides, hides}
use Rattle.law_story.proofs.Ids.{is_same_id-true}
use Rattle.law_story.proofs.Lists.{either, has-in, in-has, or_cases}
use Rattle.law_story.proofs.NextFits.{Comes, Fits, IsAfterFinished}
use Rattle.law_story.proofs.Reading.{Covered, ReadOk, Salty, salty-step}
use Rattle.law_story.proofs.Sound.{Sound}
use Rattle.law_story.proofs.Unreleased.{whole-did}
use Rattle.law_story.proofs.Upheld.{OfBoots, comes-at, holds, may-fit, may-open}
use Rattle.salt_model.specs.Continuing.{last_said}
use Rattle.salt_model.specs.Everywhere.{Each}
use Rattle.salt_model.specs.Isolation.{IsChain, IsSalted, IsWhole, ReadsReleased, is_program_released, read_by}
use Rattle.salt_model.specs.Next.{next, said_event}
use Rattle.salt_model.specs.Phases.{Fallen, Opening, Phase, Serving, phase}
use Rattle.salt_model.specs.Played.{IsPlayed}
use Rattle.salt_model.specs.Programs.{released_in}
use Rattle.salt_model.specs.Reads.{Written, to_release}
use Rattle.salt_model.specs.Releasing.{ReleasesDue, due_after, released_by}
use Rattle.salt_model.specs.Segments.{May}
use Rattle.salt_model.specs.Stops.{MayFall, is_at_devices, is_device_next}
use Rattle.salt_model.specs.Trace.{Asked, Start, Trace, from, start_of, ◌asks◌, ◌says◌, ◌turns◌}
use Rattle.salt_model.specs.Turns.{releases, settle}
use Rattle.salt_model.specs.Units.{is_of_program, program_of}
use Rattle.std.specs.Option.{option_map_or}
use Rattle.salt_model.specs.declared.events.Event.{Event}
use Rattle.salt_model.specs.declared.events.Event.TheVariants.{Did, Down, Finished, Opened, Released}
use Rattle.salt_model.specs.declared.events.Why.{Why}
use Rattle.salt_model.specs.declared.shown.BaseAt.TheVariants.{Finished}
use Rattle.salt_values.specs.Id.{has_id, is_same_id}
use Rattle.salt_values.specs.declared.id.Id.{Id}
use Rattle.std.proofs.Common.{ap, subst, sym, ◌∙◌}
use Rattle.std.specs.List.{list_all}
use Rattle.std.specs.Option.{option_or}
use Rattle.std.specs.Prelude.{List, None, Option, Some, [], false, is_none, not, refl, true, ◌||◌, ◌∷◌, ◌≡◌}

salty-start : (k : Start) → Salty (from k)
salty-start k = record { written = λ w h. absurd h; reads = λ u v h. absurd h; closed = λ b c r h. absurd h }

covered-asks : (trace : Trace) (asked : Asked) (w : Written) → Covered trace w → Covered (trace asks asked) w
covered-asks trace asked w c = record { committed = c.committed; kind_known = c.kind_known; taken = c.taken }

covered-turns : (trace : Trace) (b : Id) (w : Written) → Covered trace w → Covered (trace turns b) w
covered-turns trace b w c = record { committed = c.committed; kind_known = c.kind_known; taken = c.taken }

ok-asks : (trace : Trace) (asked : Asked) (p q : Option Id) → ReadOk trace p q → ReadOk (trace asks asked) p q
ok-asks trace asked None None h = h
ok-asks trace asked None (Some c) h = h
ok-asks trace asked (Some b) None h = h
ok-asks trace asked (Some b) (Some c) h = h

ok-turns : (trace : Trace) (b : Id) (p q : Option Id) → ReadOk trace p q → ReadOk (trace turns b) p q
ok-turns trace b None None h = h
ok-turns trace b None (Some c) h = h
ok-turns trace b (Some x) None h = h
ok-turns trace b (Some x) (Some c) h = h

salty-asks : (trace : Trace) (asked : Asked) → Salty trace → Salty (trace asks asked)
salty-asks trace asked z = record { written = λ w h. covered-asks trace asked w (z.written w h); reads = λ u v h. let r = z.reads u v h in record { reader_known = r.reader_known; writer_known = r.writer_known; fits = ok-asks trace asked (program_of u trace) (program_of v trace) r.fits }; closed = z.closed }

salty-turns : (trace : Trace) (b : Id) → Salty trace → Salty (trace turns b)
salty-turns trace b z = record { written = λ w h. covered-turns trace b w (z.written w h); reads = λ u v h. let r = z.reads u v h in record { reader_known = r.reader_known; writer_known = r.writer_known; fits = ok-turns trace b (program_of u trace) (program_of v trace) r.fits }; closed = z.closed }

-- chains of readers

abbrev Good : Trace → Id → Type 0
Good trace u = is_program_released trace (program_of u trace) ≡ true

good-read : (trace : Trace) (p q : Option Id) → Salty trace → ReadOk trace p q → is_program_released trace p ≡ true → is_program_released trace q ≡ true
good-read trace None q z h g = h
good-read trace (Some b) None z h g = refl
good-read trace (Some b) (Some c) z h g = either (λ e. subst (λ x. has_id x (released_in trace) ≡ true) (sym e) g) (λ i. in-has c _ (z.closed b c (has-in b _ g) i)) h

good-same : (trace : Trace) (v : Id) (p : Option Id) → option_map_or (λ b. is_of_program b trace v) p false ≡ true → is_program_released trace p ≡ true →
    is_program_released trace (program_of v trace) ≡ true
good-same trace v None h g = cc
good-same trace v (Some b) h g = by (program_of v trace) h
  where
    by : (q : Option Id) → elim q [ None ↦ false | Some c ↦ is_same_id b c ] ≡ true → is_program_released trace q ≡ true
    by None e = cc
    by (Some c) e = subst (λ x. has_id x (released_in trace) ≡ true) (is_same_id-true b c e) g

good-linked : (trace : Trace) (u v : Id) → Salty trace → (has_id v (read_by u trace) || option_map_or (λ b. is_of_program b trace v) (program_of u trace) false) ≡ true → Good trace u → Good trace v
good-linked trace u v z h g = either (λ r. good-read trace (program_of u trace) (program_of v trace) z (z.reads u v (has-in v _ r)).fits g) (λ m. good-same trace v (program_of u trace) m g) (or_cases (has_id v (read_by u trace)) _ h)

good-chain : (trace : Trace) (u : Id) (chain : List Id) → Salty trace → IsChain trace u chain → Good trace u → list_all (λ v. is_program_released trace (program_of v trace)) chain ≡ true
good-chain trace u [] z c g = refl
good-chain trace u (v ∷ vs) z c g = let n = good-linked trace u v z c.0 g in rw n (good-chain trace v vs z c.1 n)

acid-good : (trace : Trace) (p : Option Id) → is_none p ≡ true → is_program_released trace p ≡ true
acid-good trace None h = refl
acid-good trace (Some b) h = cc

salted-at : (trace : Trace) (e : Event) → Sound trace → Salty trace → Hides trace → Based trace → Fits trace e → ReadsReleased trace e
salted-at trace (Did a st answer) s z k b f = λ acid chain c. good-chain (trace says Did a st answer) a chain (salty-step trace (Did a st answer) s z k b f) c (acid-good trace (program_of a trace) acid)
salted-at trace e s z k b f = tt

-- releases and paths

abbrev due : Trace → Option Event
due trace = releases (due_after (phase trace) trace (last_said trace))

due-by : (p : Phase) (trace : Trace) (o : Option Event) → (IsAfterFinished o → ⊥) → due_after p trace o ≡ []
due-by Serving trace (Some (Finished b)) n = absurd (n tt)
due-by p trace o n = refl

due-not : (p : Phase) (trace : Trace) (o : Option Event) → (p ≡ Serving → ⊥) → due_after p trace o ≡ []
due-not Serving trace o n = absurd (n refl)
due-not Opening trace o n = refl
due-not Fallen trace o n = refl

none-first : (o p : Option Event) → option_or o p ≡ None → o ≡ None
none-first None p h = refl
none-first (Some e) p h = cc

finished-none : (trace : Trace) (b : Id) (p : Phase) → said_event p (trace says Finished b) (Finished b) ≡ None → releases (due_after p (trace says Finished b) (Some (Finished b))) ≡ None
finished-none trace b Serving h = none-first (releases (to_release (trace says Finished b))) _ h
finished-none trace b Opening h = refl
finished-none trace b Fallen h = refl

due-asks : (p : Phase) (trace : Trace) (asked : Asked) (o : Option Event) → due_after p (trace asks asked) o ≡ due_after p trace o
due-asks Serving trace asked (Some (Finished b)) = refl
due-asks p trace asked o = refl

due-turns : (p : Phase) (trace : Trace) (b : Id) (o : Option Event) → due_after p (trace turns b) o ≡ due_after p trace o
due-turns Serving trace b (Some (Finished c)) = refl
due-turns p trace b o = refl

-- where nothing is missing, no release is due
due-done : (trace : Trace) → IsPlayed trace → next trace ≡ None → due trace ≡ None
due-done (from k) p n = refl
due-done (trace asks asked) p n = ap releases (due-asks (phase trace) trace asked (last_said trace)) ∙ due-done trace p.0 p.1.1
due-done (trace turns b) p n = ap releases (due-turns (phase trace) trace b (last_said trace)) ∙ due-done trace p.0 p.2
due-done (trace says Finished b) p n = finished-none trace b (phase trace) n
due-done (trace says e) p n = ap releases (due-by (phase (trace says e)) (trace says e) (Some e) (λ x. x))

no-release : (trace : Trace) (e : Event) → Fits trace e → due trace ≡ None → released_by e ≡ None
no-release trace (Released bs) f d = go (last_said trace) f.2 (subst (λ p. releases (due_after p trace (last_said trace)) ≡ None) f.3 d)
  where
    go : (o : Option Event) → IsAfterFinished o → releases (due_after Serving trace o) ≡ None → Some (Released bs) ≡ None
    go (Some (Finished b)) a g = sym f.1 ∙ g
    go o a g = absurd a
no-release trace e f d = refl

finished-some : (trace : Trace) (b : Id) (e : Event) (p : Phase) (bs : List Id) → Fits (trace says Finished b) e → phase trace ≡ p → due_after p (trace says Finished b) (Some (Finished b)) ≡ bs → said_event p (trace says Finished b) (Finished b) ≡ Some e → releases bs ≡ released_by e
finished-some trace b e p [] f s t h = sym (no-release (trace says Finished b) e f (subst (λ q. releases (due_after q (trace says Finished b) (Some (Finished b))) ≡ None) (sym s) (ap releases t)))
finished-some trace b e Serving (c ∷ cs) f s t h = let g : Some (Released (c ∷ cs)) ≡ Some e = sym (ap (λ l. option_or (releases l) (settle (trace says Finished b))) t) ∙ h in let k : Released (c ∷ cs) ≡ e = cc in ap released_by k
finished-some trace b e Opening (c ∷ cs) f s t h = cc
finished-some trace b e Fallen (c ∷ cs) f s t h = cc

due-comes : (trace : Trace) (e : Event) → IsPlayed trace → Fits trace e → next trace ≡ Some e → due trace ≡ released_by e
due-comes (from k) e p f n = cc
due-comes (trace asks asked) e p f n = let d : due (trace asks asked) ≡ None = ap releases (due-asks (phase trace) trace asked (last_said trace)) ∙ due-done trace p.0 p.1.1 in d ∙ sym (no-release (trace asks asked) e f d)
due-comes (trace turns b) e p f n = let d : due (trace turns b) ≡ None = ap releases (due-turns (phase trace) trace b (last_said trace)) ∙ due-done trace p.0 p.2 in d ∙ sym (no-release (trace turns b) e f d)
due-comes (trace says Finished b) e p f n = finished-some trace b e (phase trace) (due_after (phase trace) (trace says Finished b) (Some (Finished b))) f refl refl n
due-comes (trace says x) e p f n = let d : due (trace says x) ≡ None = ap releases (due-by (phase (trace says x)) (trace says x) (Some x) (λ y. y)) in d ∙ sym (no-release (trace says x) e f d)

-- a stop falls where no release is due
at-devices : (trace : Trace) (x : Event) → is_at_devices trace x ≡ true → released_by x ≡ None
at-devices trace (Released bs) h = cc
at-devices trace x h = refl

due-falls : (trace : Trace) (why : Why) → IsPlayed trace → IfComes (Comes trace) (next trace) → MayFall (phase trace) trace why → due trace ≡ None
due-falls trace why p c m = go (phase trace) refl m
  where
    its : (o : Option Event) → next trace ≡ o → is_device_next trace o ≡ true → due trace ≡ None
    its None e g = cc
    its (Some x) e g = due-comes trace x p (comes-at trace x c e).0 e ∙ at-devices trace x g

    go : (q : Phase) → phase trace ≡ q → MayFall q trace why → due trace ≡ None
    go Serving e g = its (next trace) refl g
    go Opening e g = ap releases (due-not (phase trace) trace (last_said trace) (λ s. cc))
    go Fallen e g = ap releases (due-not (phase trace) trace (last_said trace) (λ s. cc))

due-at : (trace : Trace) (e : Event) → IsPlayed trace → IfComes (Comes trace) (next trace) → May trace e → ReleasesDue trace e
due-at trace (Down why) p c m = due-falls trace why p c m
due-at trace (Opened boot n) p c m = let f : phase trace ≡ Fallen = (may-open (phase trace) trace boot n m).0 in ap releases (due-not (phase trace) trace (last_said trace) (λ s. cc))
due-at trace e p c m = due-comes trace e p (comes-at trace e c m).0 m

-- what is read holds at each place
pub salty : (trace : Trace) → IsPlayed trace → OfBoots (start_of trace).kept → AreDefined (start_of trace).kept (start_of trace).kept.conts → Salty trace
salty (from k) p w d = salty-start k
salty (trace asks asked) p w d = salty-asks trace asked (salty trace p.0 w d)
salty (trace turns b) p w d = salty-turns trace b (salty trace p.0 w d)
salty (trace says e) p w d = let r = holds trace p.0 w in salty-step trace e r.sound (salty trace p.0 w d) (hides trace p.0 w) (based trace p.0 w d) (may-fit trace e r.comes p.1)

-- the laws at an event
pub salted-played : (trace : Trace) → IsPlayed trace → OfBoots (start_of trace).kept → AreDefined (start_of trace).kept (start_of trace).kept.conts → IsSalted trace
salted-played (from k) p w d = tt
salted-played (trace asks asked) p w d = salted-played trace p.0 w d
salted-played (trace turns b) p w d = salted-played trace p.0 w d
salted-played (trace says e) p w d = let r = holds trace p.0 w in (salted-played trace p.0 w d, salted-at trace e r.sound (salty trace p.0 w d) (hides trace p.0 w) (based trace p.0 w d) (may-fit trace e r.comes p.1))

-- what an ACID unit touches of a program's open and committed parts, it touches when the program is released
pub whole-played : (trace : Trace) → IsPlayed trace → OfBoots (start_of trace).kept → AreDefined (start_of trace).kept (start_of trace).kept.conts → IsWhole trace
whole-played (from k) p w d = tt
whole-played (trace asks asked) p w d = whole-played trace p.0 w d
whole-played (trace turns b) p w d = whole-played trace p.0 w d
whole-played (trace says Did a st answer) p w d =
    let f = may-fit trace (Did a st answer) (holds trace p.0 w).comes p.1 in
    (whole-played trace p.0 w d, λ acid. ap not (whole-did trace a st (hides trace p.0 w) (based trace p.0 w d) acid (f.2 acid)))
whole-played (trace says e) p w d = (whole-played trace p.0 w d, tt)

pub due-played : (trace : Trace) → IsPlayed trace → OfBoots (start_of trace).kept → Each ReleasesDue trace
due-played (from k) p w = tt
due-played (trace asks asked) p w = due-played trace p.0 w
due-played (trace turns b) p w = due-played trace p.0 w
due-played (trace says e) p w = (due-played trace p.0 w, due-at trace e p.0 (holds trace p.0 w).comes p.1)
