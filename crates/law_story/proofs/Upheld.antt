-- At each place of a played trace it is sound, what comes next fits, and so does what is in flight.
use Rattle.law_story.proofs.Fresh.{IfComes}
use Rattle.law_story.proofs.Lists.{In, either}
use Rattle.law_story.proofs.NextFits.{Comes, Fits, Flies, fits-asked, fits-opened, fits-says, fits-turns, flies-next}
use Rattle.law_story.proofs.Sound.{Sound, sound-step}
use Rattle.salt_model.specs.After.{kept}
use Rattle.salt_model.specs.Everywhere.{Each}
use Rattle.salt_model.specs.Kept.{Kept}
use Rattle.salt_model.specs.Next.{decision_in, flight, next}
use Rattle.salt_model.specs.Phases.{Fallen, Opening, Phase, Serving, phase}
use Rattle.salt_model.specs.Played.{IsPlayed}
use Rattle.salt_model.specs.Segments.{May}
use Rattle.salt_model.specs.Stops.{MayOpen}
use Rattle.salt_model.specs.Trace.{Asked, Start, Trace, from, start_of, ◌asks◌, ◌says◌, ◌turns◌}
use Rattle.salt_model.specs.declared.events.End.TheVariants.{Branched, Committed}
use Rattle.salt_model.specs.declared.events.Event.{Event}
use Rattle.salt_model.specs.declared.events.Event.TheVariants.{Defined, Down, Ended, Opened}
use Rattle.salt_model.specs.declared.events.Why.{Why}
use Rattle.salt_values.specs.declared.cont.Cont.{Cont}
use Rattle.salt_values.specs.declared.id.Id.{Id}
use Rattle.std.proofs.Common.{subst, sym}
use Rattle.std.specs.Prelude.{None, Option, Some, map, refl, ℕ, ◌<◌, ◌≡◌, ◌≤◌}

-- the programs that go on from a start are of its boots
abbrev pub OfBoots : Kept → Type 0
OfBoots k = (b : Id) → In b (map (λ (c : Cont). c.base) k.conts) → b.boot ≤ k.boot

sound-start : (k : Start) → OfBoots k.kept → Sound (from k)
sound-start k w = record {
  known = λ u o. cc;
  older = λ u o. cc;
  old_units = λ b u p. cc;
  old_conts = λ b i. w b i;
  old_dead = λ b d. absurd (either (λ i. i) (λ i. either (λ j. j) (λ j. j) i) d);
  old_programs = λ b i. w b i;
  one = λ b u v o p. cc;
  alive = λ b u o. cc;
  goes_on = λ b i d. either (λ i. i) (λ i. either (λ j. j) (λ j. j) i) d;
  quiet = λ b j. absurd j;
  drains = λ p. cc;
  drained = λ p. cc;
}

sound-asks : (trace : Trace) (asked : Asked) → Sound trace → Sound (trace asks asked)
sound-asks trace asked s = record { known = s.known; older = s.older; old_units = s.old_units; old_conts = s.old_conts; old_dead = s.old_dead; one = s.one; alive = s.alive; goes_on = s.goes_on; quiet = s.quiet; old_programs = s.old_programs; drains = s.drains; drained = s.drained }

sound-turns : (trace : Trace) (b : Id) → Sound trace → Sound (trace turns b)
sound-turns trace b s = record { known = s.known; older = s.older; old_units = s.old_units; old_conts = s.old_conts; old_dead = s.old_dead; one = s.one; alive = s.alive; goes_on = s.goes_on; quiet = s.quiet; old_programs = s.old_programs; drains = s.drains; drained = s.drained }

-- all of it, at a place
pub record Upheld (trace : Trace) : Type 0 where
  pub sound : Sound trace
  pub comes : IfComes (Comes trace) (next trace)
  pub flies : IfComes (Flies trace) (flight trace)

pub may-open : (p : Phase) (trace : Trace) (boot n : ℕ) → MayOpen p trace boot n → (p ≡ Fallen) × ((kept trace).boot < boot)
may-open Fallen trace boot n m = (refl, m.0)
may-open Opening trace boot n m = absurd m
may-open Serving trace boot n m = absurd m

pub comes-at : (trace : Trace) (e : Event) → IfComes (Comes trace) (next trace) → next trace ≡ Some e → Comes trace e
comes-at trace e c h = subst (IfComes (Comes trace)) h c

pub may-fit : (trace : Trace) (e : Event) → IfComes (Comes trace) (next trace) → May trace e → Fits trace e
may-fit trace (Down why) c m = tt
may-fit trace (Opened boot n) c m = may-open (phase trace) trace boot n m
may-fit trace e c m = (comes-at trace e c m).0

flies-down : (trace : Trace) (why : Why) (o : Option Event) → IfComes (Flies trace) o → IfComes (Flies (trace says Down why)) o
flies-down trace why None h = tt
flies-down trace why (Some (Ended u (Committed m))) h = h
flies-down trace why (Some (Ended u (Branched m c))) h = h
flies-down trace why (Some (Defined m text)) h = h
flies-down trace why (Some e) h = absurd h

with-next : (trace : Trace) → Sound trace → IfComes (Comes trace) (next trace) → flight trace ≡ decision_in (next trace) → Upheld trace
with-next trace s c e = record { sound = s; comes = c; flies = subst (IfComes (Flies trace)) (sym e) (flies-next trace (next trace) c) }

held-says : (trace : Trace) (e : Event) → Upheld trace → Fits trace e → Upheld (trace says e)
held-says trace (Down why) h f = record { sound = sound-step trace (Down why) h.sound f; comes = tt; flies = flies-down trace why (flight trace) h.flies }
held-says trace (Opened boot n) h f = with-next (trace says Opened boot n) (sound-step trace (Opened boot n) h.sound f) (fits-opened trace boot n h.flies) refl
held-says trace e h f = let s = sound-step trace e h.sound f in with-next (trace says e) s (fits-says trace e s.drains) refl

pub holds : (trace : Trace) → IsPlayed trace → OfBoots (start_of trace).kept → Upheld trace
holds (from k) p w = record { sound = sound-start k w; comes = tt; flies = tt }
holds (trace asks asked) p w = let r = holds trace p.0 w in with-next (trace asks asked) (sound-asks trace asked r.sound) (fits-asked trace asked p.1.0) refl
holds (trace turns b) p w = let r = holds trace p.0 w in with-next (trace turns b) (sound-turns trace b r.sound) (fits-turns trace b p.1) refl
holds (trace says e) p w = let r = holds trace p.0 w in held-says trace e r (may-fit trace e r.comes p.1)

-- of a fact at each event another
pub each : (P Q : Trace → Event → Type 0) → ((trace : Trace) (e : Event) → P trace e → Q trace e) → (trace : Trace) → Each P trace → Each Q trace
each P Q f (from k) h = tt
each P Q f (trace asks asked) h = each P Q f trace h
each P Q f (trace turns b) h = each P Q f trace h
each P Q f (trace says e) h = (each P Q f trace h.0, f trace e h.1)
