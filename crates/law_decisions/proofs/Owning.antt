-- The boots of open units: of this one while the run serves, and where one is decided next.
use Rattle.law_story.proofs.Ids.{is_same_id-true}
use Rattle.law_story.proofs.Lists.{either}
use Rattle.law_story.proofs.NextFits.{Fits}
use Rattle.law_story.proofs.OfBoot.{owns-at}
use Rattle.law_story.proofs.Sound.{Sound, boot-ended, none-open, none-open-early, open-back}
use Rattle.law_story.proofs.Upheld.{OfBoots, holds, may-fit}
use Rattle.salt_model.specs.After.{kept}
use Rattle.salt_model.specs.Decided.{IsOfBoot, IsOwnIn, TellsOwn, counts_flight}
use Rattle.salt_model.specs.Next.{is_decision, next, said_event}
use Rattle.salt_model.specs.Phases.{Fallen, Opening, Phase, Serving, phase}
use Rattle.salt_model.specs.Played.{IsPlayed}
use Rattle.salt_model.specs.Stops.{is_just_opened}
use Rattle.salt_model.specs.Trace.{Trace, from, start_of, ◌asks◌, ◌says◌, ◌turns◌}
use Rattle.salt_model.specs.Units.{is_open}
use Rattle.salt_model.specs.declared.events.End.TheVariants.{Branched, Committed}
use Rattle.salt_model.specs.declared.events.End.{End}
use Rattle.salt_model.specs.declared.events.Event.TheVariants.{Began, Down, Early, Ended, Opened, Ready}
use Rattle.salt_model.specs.declared.events.Event.{Event}
use Rattle.salt_values.specs.declared.id.Id.{Id}
use Rattle.std.proofs.Common.{ap, subst, sym, ◌∙◌}
use Rattle.std.specs.Prelude.{Some, false, refl, true, ◌≡◌}

-- WHILE THE RUN SERVES

abbrev OpenOwn : Trace → Type 0
OpenOwn trace = phase trace ≡ Serving → (u : Id) → is_open trace u ≡ true → u.boot ≡ (kept trace).boot

own-says : (trace : Trace) (e : Event) → Sound trace → Fits trace e → OpenOwn trace → OpenOwn (trace says e)
own-says trace (Down why) s f h p u o = cc
own-says trace (Opened boot n) s f h p u o = cc
own-says trace Ready s f h p u o = absurd (none-open trace s f u o)
own-says trace (Early bs) s f h p u o = absurd (none-open-early trace bs s f u o)
own-says trace (Began v kind) s f h p u o =
    either (λ q. h p u q) (λ b. ap (λ x. x.boot) (is_same_id-true u v b) ∙ ap (λ x. x.boot) f.0) (open-back trace (Began v kind) u f o)
own-says trace (Ended v end) s f h p u o = h p u (either (λ q. q) (λ q. absurd q) (open-back trace (Ended v end) u f o)) ∙ sym (boot-ended trace v end)
own-says trace e s f h p u o = h p u (either (λ q. q) (λ q. absurd q) (open-back trace e u f o))

pub open-own : (trace : Trace) → IsPlayed trace → OfBoots (start_of trace).kept → OpenOwn trace
open-own (from k) p w = λ q u o. cc
open-own (trace asks asked) p w = open-own trace p.0 w
open-own (trace turns b) p w = open-own trace p.0 w
open-own (trace says e) p w = let h = holds trace p.0 w in own-says trace e h.sound (may-fit trace e h.comes p.1) (open-own trace p.0 w)

-- WHERE ONE IS DECIDED

no-flight : (trace : Trace) → is_just_opened trace ≡ false → counts_flight trace ≡ false
no-flight (from k) h = refl
no-flight (trace asks asked) h = refl
no-flight (trace turns b) h = refl
no-flight (trace says Opened boot n) h = cc
no-flight (trace says e) h = refl

own-in : (p : Phase) (trace : Trace) (u : Id) (end : End) → IsOwnIn p trace (Ended u end) → IsOfBoot trace (Ended u end)
own-in Opening trace u end h = h
own-in Serving trace u end h = h
own-in Fallen trace u end h = h

of-this-boot : (trace : Trace) (u : Id) (end : End) → is_decision (Ended u end) ≡ true → IsOfBoot trace (Ended u end) → u.boot ≡ (kept trace).boot
of-this-boot trace u (Committed n) d h = h
of-this-boot trace u (Branched n c) d h = h
of-this-boot trace u end d h = cc

pub decided-own : (trace : Trace) (u : Id) (end : End) → IsPlayed trace → OfBoots (start_of trace).kept → next trace ≡ Some (Ended u end) →
    is_decision (Ended u end) ≡ true → is_just_opened trace ≡ false → u.boot ≡ (kept trace).boot
decided-own trace u end p w n d j =
    let told : TellsOwn trace (Ended u end) = owns-at trace (Ended u end) p w (may-fit trace (Ended u end) (holds trace p w).comes n) n in
    of-this-boot trace u end d (own-in (phase trace) trace u end (told (no-flight trace j)))

-- while the run is down nothing comes
pub fallen-none : (trace : Trace) (e : Event) → IsPlayed trace → phase trace ≡ Fallen → next trace ≡ Some e → ⊥
fallen-none (from k) e p o n = cc
fallen-none (trace asks asked) e p o n = let s : phase trace ≡ Serving = p.1.0 in cc
fallen-none (trace turns b) e p o n = let s : phase trace ≡ Serving = p.1 in cc
fallen-none (trace says Down why) e p o n = cc
fallen-none (trace says Opened boot m) e p o n = cc
fallen-none (trace says x) e p o n = let g : said_event Fallen (trace says x) x ≡ Some e = subst (λ q. said_event q (trace says x) x ≡ Some e) o n in cc
