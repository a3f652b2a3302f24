-- The list of open units is in order of their names, and each name stands once: what changes is the one place of a name.
use Rattle.law_states.proofs.UnitLists.{begun-named}
use Rattle.law_states.specs.Keeps.{KeepsUnits}
use Rattle.law_states.specs.OpenUnits.{OpenUnit, UnitState, change_unit, names_in, unit_named, without_unit}
use Rattle.law_states.specs.Rising.{Rising}
use Rattle.law_story.proofs.Every.{every-append, every-filter}
use Rattle.law_story.proofs.Ids.{is_same_id-refl, is_same_id-true}
use Rattle.law_story.proofs.Lists.{In}
use Rattle.law_story.proofs.NextFits.{Fits}
use Rattle.law_story.proofs.Sound.{OldAt, Sound, older-not}
use Rattle.law_story.proofs.Upheld.{holds, may-fit}
use Rattle.law_story.proofs.WellKept.{of-start}
use Rattle.salt_model.specs.Kept.{WellKept}
use Rattle.salt_model.specs.Phases.{Fallen, Opening, Phase, Serving, phase}
use Rattle.salt_model.specs.Played.{IsPlayed}
use Rattle.salt_model.specs.Trace.{Trace, from, start_of, ◌asks◌, ◌says◌, ◌turns◌}
use Rattle.salt_model.specs.Turns.{fresh_unit}
use Rattle.salt_model.specs.Units.{is_open, units_begun}
use Rattle.salt_model.specs.Words.{Every}
use Rattle.salt_model.specs.declared.events.Event.{Event}
use Rattle.salt_model.specs.declared.events.Event.TheVariants.{Began}
use Rattle.salt_values.specs.Id.{is_older, is_same_id}
use Rattle.salt_values.specs.declared.id.Id.{Id}
use Rattle.std.proofs.Common.{arith, inl, inr, subst, sym}
use Rattle.std.specs.List.{filter, remove}
use Rattle.std.specs.Prelude.{Bool, List, Some, [], cond, false, get_or, length, not, refl, set, suc, true, zero, ℕ, ◌++◌, ◌<◌, ◌∷◌, ◌≡◌}

rising-filter : (p : Id → Bool) (us : List Id) → Rising us → Rising (filter p us)
rising-filter p [] h = tt
rising-filter p (u ∷ us) h = by (p u) (rising-filter p us h.1)
  where
    by : (b : Bool) → Rising (filter p us) → Rising (cond b (u ∷ filter p us) (filter p us))
    by true more = (every-filter (λ v. is_older u v ≡ true) p us h.0, more)
    by false more = more

rising-last : (us : List Id) (u : Id) → Rising us → ((v : Id) → In v us → is_older v u ≡ true) → Rising (us ++ u ∷ [])
rising-last [] u h f = (tt, tt)
rising-last (v ∷ us) u h f = (every-append (λ w. is_older v w ≡ true) us (u ∷ []) h.0 (f v (inl refl), tt), rising-last us u h.1 (λ w i. f w (inr i)))

old-older : (p : Phase) (u f : Id) → (p ≡ Fallen → ⊥) → OldAt p u f → is_older u f ≡ true
old-older Fallen u f n h = absurd (n refl)
old-older Opening u f n h = h
old-older Serving u f n h = h

begun-rise : (trace : Trace) (e : Event) → Sound trace → Fits trace e → Rising (units_begun trace) → Rising (units_begun (trace says e))
begun-rise trace (Began u kind) s f h =
    rising-last (units_begun trace) u h (λ v i. subst (λ w. is_older v w ≡ true) (sym f.0) (old-older (phase trace) v (fresh_unit trace) f.1 (s.older v (begun-named trace v i))))
begun-rise trace e s f h = h

units-rise : (trace : Trace) → IsPlayed trace → WellKept (start_of trace).kept → Rising (units_begun trace)
units-rise (from k) p w = tt
units-rise (trace asks asked) p w = units-rise trace p.0 w
units-rise (trace turns b) p w = units-rise trace p.0 w
units-rise (trace says e) p w =
    let held = holds trace p.0 (of-start (start_of trace).kept w) in
    begun-rise trace e held.sound (may-fit trace e held.comes p.1) (units-rise trace p.0 w)

pub names-rise : (s : UnitState) (trace : Trace) → KeepsUnits s trace → IsPlayed trace → WellKept (start_of trace).kept → Rising (names_in s.units)
names-rise s trace keeps p w = subst Rising keeps.units (rising-filter (is_open trace) (units_begun trace) (units-rise trace p w))

-- the unit at a place of the list

older-other : (u v : Id) → is_older u v ≡ true → is_same_id v u ≡ false
older-other u v h = by (is_same_id v u) refl
  where
    by : (b : Bool) → is_same_id v u ≡ b → b ≡ false
    by false e = refl
    by true e = absurd (older-not u (subst (λ w. is_older u w ≡ true) (is_same_id-true v u e) h))

older-away : (u v : Id) → is_older u v ≡ true → is_same_id u v ≡ false
older-away u v h = by (is_same_id u v) refl
  where
    by : (b : Bool) → is_same_id u v ≡ b → b ≡ false
    by false e = refl
    by true e = absurd (older-not u (subst (λ w. is_older u w ≡ true) (sym (is_same_id-true u v e)) h))

abbrev AllOlder : Id → List OpenUnit → Type 0
AllOlder u os = Every (λ v. is_older u v ≡ true) (names_in os)

change-none : (u : Id) (f : OpenUnit → OpenUnit) (os : List OpenUnit) → AllOlder u os → change_unit u f os ≡ os
change-none u f [] h = refl
change-none u f (o ∷ os) h = let rest = change-none u f os h.1 in λ i. cond (older-other u o.unit h.0 i) (f o) o ∷ rest i

without-none : (u : Id) (os : List OpenUnit) → AllOlder u os → without_unit u os ≡ os
without-none u [] h = refl
without-none u (o ∷ os) h = let rest = without-none u os h.1 in λ i. cond (not (older-other u o.unit h.0 i)) (o ∷ rest i) (rest i)

-- one is at a place, so the ones before it are others
older-at : (u : Id) (os : List OpenUnit) (n : ℕ) (d : OpenUnit) → AllOlder u os → n < length os → is_older u (get_or os n d).unit ≡ true
older-at u [] n d h l = absurd (omega arith)
older-at u (o ∷ os) zero d h l = h.0
older-at u (o ∷ os) (suc n) d h l = older-at u os n d h.1 (omega arith)

pub change-at : (os : List OpenUnit) (n : ℕ) (d : OpenUnit) (f : OpenUnit → OpenUnit) → Rising (names_in os) → n < length os →
    change_unit (get_or os n d).unit f os ≡ set os n (f (get_or os n d))
change-at [] n d f h l = absurd (omega arith)
change-at (o ∷ os) zero d f h l = let rest = change-none o.unit f os h.0 in λ i. cond (is_same_id-refl o.unit i) (f o) o ∷ rest i
change-at (o ∷ os) (suc n) d f h l =
    let rest = change-at os n d f h.1 (omega arith) in
    λ i. cond (older-away o.unit (get_or os n d).unit (older-at o.unit os n d h.0 (omega arith)) i) (f o) o ∷ rest i

pub without-at : (os : List OpenUnit) (n : ℕ) (d : OpenUnit) → Rising (names_in os) → n < length os →
    without_unit (get_or os n d).unit os ≡ remove os n
without-at [] n d h l = absurd (omega arith)
without-at (o ∷ os) zero d h l = let rest = without-none o.unit os h.0 in λ i. cond (not (is_same_id-refl o.unit i)) (o ∷ rest i) (rest i)
without-at (o ∷ os) (suc n) d h l =
    let rest = without-at os n d h.1 (omega arith) in
    λ i. cond (not (older-away o.unit (get_or os n d).unit (older-at o.unit os n d h.0 (omega arith)) i)) (o ∷ rest i) (rest i)

pub named-at : (os : List OpenUnit) (n : ℕ) (d : OpenUnit) → Rising (names_in os) → n < length os →
    unit_named (get_or os n d).unit os ≡ Some (get_or os n d)
named-at [] n d h l = absurd (omega arith)
named-at (o ∷ os) zero d h l = rw (is_same_id-refl o.unit) refl
named-at (o ∷ os) (suc n) d h l =
    rw (older-away o.unit (get_or os n d).unit (older-at o.unit os n d h.0 (omega arith))) (named-at os n d h.1 (omega arith))
