-- How open units are named, and which may still be decided.
use Rattle.law_states.proofs.UnitLists.{names-change}
use Rattle.law_states.specs.Keeps.{KeepsUnits}
use Rattle.law_states.specs.Laws.{IsSound, is_of_run}
use Rattle.law_states.specs.OpenUnits.{OpenUnit, UnitState, names_in, unit_named, without_unit}
use Rattle.law_states.specs.Rising.{Rising}
use Rattle.law_states.specs.Steps.{begun, doing_one, kept_ended, units_after, waiting_by}
use Rattle.law_story.proofs.Ids.{is_same_id-true}
use Rattle.law_story.proofs.Lists.{In, in-filter}
use Rattle.law_story.proofs.NextFits.{Fits}
use Rattle.law_story.proofs.Sound.{Named, OldAt, old-fallen, open-named}
use Rattle.law_story.proofs.Upheld.{holds, may-fit}
use Rattle.law_story.proofs.WellKept.{of-start}
use Rattle.salt_model.specs.After.{kept}
use Rattle.salt_model.specs.Kept.{Kept}
use Rattle.salt_model.specs.Next.{is_decision, next}
use Rattle.salt_model.specs.Phases.{Fallen, Opening, Phase, Serving, phase}
use Rattle.salt_model.specs.Stops.{is_just_opened}
use Rattle.salt_model.specs.Trace.{Trace, start_of, ◌says◌}
use Rattle.salt_model.specs.Turns.{fresh_unit}
use Rattle.salt_model.specs.Units.{is_open, unit_count, units_begun}
use Rattle.salt_model.specs.Words.{Every}
use Rattle.salt_model.specs.declared.events.End.TheVariants.{Branched, Committed}
use Rattle.salt_model.specs.declared.events.End.{End}
use Rattle.salt_model.specs.declared.events.Event.TheVariants.{Began, Did, Down, Ended, Opened, Waits}
use Rattle.salt_model.specs.declared.events.Event.{Event}
use Rattle.law_decisions.proofs.Owning.{decided-own, fallen-none, open-own}
use Rattle.law_decisions.specs.Naming.{AreNamedSo, IsToCome}
use Rattle.salt_values.specs.Id.{is_older, is_same_id}
use Rattle.salt_values.specs.declared.id.Id.{Id}
use Rattle.std.proofs.Common.{ap, arith, inl, inr, subst, sym, ◌∙◌}
use Rattle.std.proofs.lemmas.Bool.Decides.{nat_tests}
use Rattle.std.specs.Prelude.{Bool, List, None, Option, Some, [], cond, false, not, refl, true, ℕ, ◌++◌, ◌+◌, ◌<◌, ◌∷◌, ◌≡◌, ◌≤◌, ◌⊎◌}

-- OPEN UNITS

each-named : (P : Id → Type 0) (os : List OpenUnit) → ((v : Id) → In v (names_in os) → P v) → Every (λ (o : OpenUnit). P o.unit) os
each-named P [] f = tt
each-named P (o ∷ os) f = (f o.unit (inl refl), each-named P os (λ v i. f v (inr i)))

numbered : (u : Id) (b n : ℕ) → is_older u (record { boot = b; seq = n + 1 }) ≡ true → u.boot ≡ b → u.seq ≤ n
numbered u b n h e = grind (arith, nat_tests)

numbered-at : (p : Phase) (u : Id) (b n : ℕ) → (p ≡ Fallen → ⊥) → OldAt p u (record { boot = b; seq = n + 1 }) → u.boot ≡ b → u.seq ≤ n
numbered-at Fallen u b n up h e = absurd (up refl)
numbered-at Opening u b n up h e = numbered u b n h e
numbered-at Serving u b n up h e = numbered u b n h e

module _ (trace : Trace) (sound : IsSound trace) where
  named-at : (v : Id) → is_open trace v ≡ true → Named trace v
  named-at v o = (holds trace sound.played (of-start (start_of trace).kept sound.well)).sound.older v (open-named trace v o)

  open-boot : (v : Id) → is_open trace v ≡ true → v.boot ≤ (kept trace).boot
  open-boot v o = old-fallen (phase trace) v (fresh_unit trace) (named-at v o)

  open-number : (v : Id) → is_open trace v ≡ true → (phase trace ≡ Fallen → ⊥) → v.boot ≡ (kept trace).boot → v.seq ≤ unit_count trace
  open-number v o up e = numbered-at (phase trace) v (kept trace).boot (unit_count trace) up (named-at v o) e

  module _ (s : UnitState) (keeps : KeepsUnits s trace) where
    listed-open : (v : Id) → In v (names_in s.units) → is_open trace v ≡ true
    listed-open v i = (in-filter (is_open trace) v (units_begun trace) (subst (In v) (sym keeps.units) i)).1

    boot-is : (kept trace).boot ≡ s.kept.boot
    boot-is = ap (λ (k : Kept). k.boot) keeps.kept

    serving-boot : s.phase ≡ Serving → (v : Id) → In v (names_in s.units) → v.boot ≡ s.kept.boot
    serving-boot p v i = open-own trace sound.played (of-start (start_of trace).kept sound.well) (keeps.phase ∙ p) v (listed-open v i) ∙ boot-is

    number-of : (s.phase ≡ Fallen → ⊥) → (v : Id) → In v (names_in s.units) → v.boot ≡ s.kept.boot → v.seq ≤ s.unit_count
    number-of up v i e =
        subst (λ n. v.seq ≤ n) keeps.unit_count (open-number v (listed-open v i) (λ f. up (sym keeps.phase ∙ f)) (e ∙ sym boot-is))

    pub open-boots : Every (λ (o : OpenUnit). o.unit.boot ≤ s.kept.boot) s.units
    open-boots = each-named (λ v. v.boot ≤ s.kept.boot) s.units (λ v i. subst (λ n. v.boot ≤ n) boot-is (open-boot v (listed-open v i)))

    pub named-so : Rising (names_in s.units) → AreNamedSo s
    named-so rise = record {
      boots = open-boots;
      serving = λ p. each-named (λ v. v.boot ≡ s.kept.boot) s.units (serving-boot p);
      numbers = λ up. each-named (λ v. v.boot ≡ s.kept.boot → v.seq ≤ s.unit_count) s.units (number-of up);
      rise = rise;
    }

-- UNITS THAT MAY STILL BE DECIDED

last-named : (os : List OpenUnit) (o : OpenUnit) (u : Id) → In u (names_in (os ++ o ∷ [])) → In u (names_in os) ⊎ (o.unit ≡ u)
last-named [] o u (inl e) = inr e
last-named [] o u (inr i) = absurd i
last-named (p ∷ os) o u (inl e) = inl (inl e)
last-named (p ∷ os) o u (inr i) = by (last-named os o u i)
  where
    by : In u (names_in os) ⊎ (o.unit ≡ u) → In u (names_in (p ∷ os)) ⊎ (o.unit ≡ u)
    by (inl j) = inl (inr j)
    by (inr e) = inr e

-- of those without one
left-named : (v : Id) (os : List OpenUnit) (u : Id) → In u (names_in (without_unit v os)) → In u (names_in os) × (is_same_id u v ≡ false)
left-named v [] u i = absurd i
left-named v (o ∷ os) u i = by (is_same_id o.unit v) refl i (left-named v os u)
  where
    by : (b : Bool) → is_same_id o.unit v ≡ b → In u (names_in (cond (not b) (o ∷ without_unit v os) (without_unit v os))) →
        (In u (names_in (without_unit v os)) → In u (names_in os) × (is_same_id u v ≡ false)) → In u (names_in (o ∷ os)) × (is_same_id u v ≡ false)
    by true e j more = let r = more j in (inr r.0, r.1)
    by false e (inl same) more = (inl same, subst (λ x. is_same_id x v ≡ false) same e)
    by false e (inr j) more = let r = more j in (inr r.0, r.1)

ended-boot : (k : Kept) (end : End) (o : Option OpenUnit) → (kept_ended k end o).boot ≡ k.boot
ended-boot k (Committed n) (Some o) = refl
ended-boot k (Branched n c) (Some o) = refl
ended-boot k (Committed n) None = refl
ended-boot k (Branched n c) None = refl
ended-boot k end o = refl

module _ (s : UnitState) (trace : Trace) (keeps : KeepsUnits s trace) where
  fits-here : (e : Event) → IsSound (trace says e) → Fits trace e
  fits-here e sound =
      let w = of-start (start_of trace).kept sound.well in
      may-fit trace e (holds trace sound.played.0 w).comes sound.played.1

  begun-before : (v : Id) (u : Id) (n : ℕ) → v ≡ fresh_unit trace → v ≡ u → n ≡ unit_count trace → n < u.seq
  begun-before v u n f e c =
      let number : u.seq ≡ unit_count trace + 1 = ap (λ (x : Id). x.seq) (sym e ∙ f) in
      omega (arith, number, c)

  may-before : (e : Event) (u : Id) → IsSound (trace says e) → is_of_run e ≡ false → IsToCome (units_after e s) u → IsToCome s u
  may-before (Began v kind) u sound r may = (may.0, by may.1)
    where
      new : In u (names_in s.units) ⊎ (v ≡ u) → In u (names_in s.units) ⊎ (s.unit_count < u.seq)
      new (inl i) = inl i
      new (inr e) = inr (begun-before v u s.unit_count (fits-here (Began v kind) sound).0 e (sym keeps.unit_count))

      by : In u (names_in (s.units ++ begun s v kind ∷ [])) ⊎ (s.unit_count + 1 < u.seq) → In u (names_in s.units) ⊎ (s.unit_count < u.seq)
      by (inl i) = new (last-named s.units (begun s v kind) u i)
      by (inr l) = inr (omega (arith, l))
  may-before (Did v st a) u sound r may = (may.0, by may.1)
    where
      by : In u (names_in (units_after (Did v st a) s).units) ⊎ (s.unit_count < u.seq) → In u (names_in s.units) ⊎ (s.unit_count < u.seq)
      by (inl i) = inl (subst (In u) (names-change v (doing_one s.kept st) (λ o. refl) s.units) i)
      by (inr l) = inr l
  may-before (Waits v owners) u sound r may = (may.0, by may.1)
    where
      by : In u (names_in (units_after (Waits v owners) s).units) ⊎ (s.unit_count < u.seq) → In u (names_in s.units) ⊎ (s.unit_count < u.seq)
      by (inl i) = inl (subst (In u) (names-change v (waiting_by s.line) (λ o. refl) s.units) i)
      by (inr l) = inr l
  may-before (Ended v end) u sound r may = (may.0 ∙ ended-boot s.kept end (unit_named v s.units), by may.1)
    where
      by : In u (names_in (without_unit v s.units)) ⊎ (s.unit_count < u.seq) → In u (names_in s.units) ⊎ (s.unit_count < u.seq)
      by (inl i) = inl (left-named v s.units u i).0
      by (inr l) = inr l
  may-before (Down why) u sound r may = cc
  may-before (Opened boot n) u sound r may = cc
  may-before e u sound r may = (may.0, may.1)

  not-ended : (v : Id) (end : End) (u : Id) → IsSound (trace says Ended v end) → IsToCome (units_after (Ended v end) s) u → is_same_id u v ≡ false
  not-ended v end u sound may = by may.1
    where
      here : IsSound trace
      here = record { played = sound.played.0; well = sound.well }

      boot : u.boot ≡ (kept trace).boot
      boot = may.0 ∙ ended-boot s.kept end (unit_named v s.units) ∙ sym (boot-is trace here s keeps)

      -- the one that ends is open, and numbered so far
      later : s.unit_count < u.seq → (b : Bool) → is_same_id u v ≡ b → b ≡ false
      later l false e = refl
      later l true e =
          let same : v ≡ u = sym (is_same_id-true u v e) in
          let number : v.seq ≤ unit_count trace =
          open-number trace here v (fits-here (Ended v end) sound).0 (λ f. fallen-none trace (Ended v end) sound.played.0 f sound.played.1) (ap (λ (x : Id). x.boot) same ∙ boot) in
          absurd (past s.unit_count u.seq l (subst (λ (x : Id). x.seq ≤ s.unit_count) same (subst (λ n. v.seq ≤ n) keeps.unit_count number)))
        where
          past : (a b : ℕ) → a < b → b ≤ a → ⊥
          past a b l g = omega (arith, l, g)

      by : In u (names_in (without_unit v s.units)) ⊎ (s.unit_count < u.seq) → is_same_id u v ≡ false
      by (inl i) = (left-named v s.units u i).1
      by (inr l) = later l (is_same_id u v) refl

-- a unit found by its name is of the list
found-named : (u : Id) (os : List OpenUnit) (o : OpenUnit) → unit_named u os ≡ Some o → In u (names_in os)
found-named u [] o e = cc
found-named u (p ∷ os) o e = by (is_same_id p.unit u) refl e (found-named u os o)
  where
    by : (b : Bool) → is_same_id p.unit u ≡ b → cond b (Some p) (unit_named u os) ≡ Some o → (unit_named u os ≡ Some o → In u (names_in os)) → In u (names_in (p ∷ os))
    by true t g more = inl (is_same_id-true p.unit u t)
    by false t g more = inr (more g)

pub open-may : (s : UnitState) (o : OpenUnit) → unit_named o.unit s.units ≡ Some o → o.unit.boot ≡ s.kept.boot → IsToCome s o.unit
open-may s o named boot = (boot, inl (found-named o.unit s.units o named))

pub may-be-before : (s : UnitState) (trace : Trace) (e : Event) (u : Id) → KeepsUnits s trace → IsSound (trace says e) → is_of_run e ≡ false →
    IsToCome (units_after e s) u → IsToCome s u
may-be-before s trace e u keeps = may-before s trace keeps e u

pub may-no-more : (s : UnitState) (trace : Trace) (v : Id) (end : End) (u : Id) → KeepsUnits s trace → IsSound (trace says Ended v end) →
    IsToCome (units_after (Ended v end) s) u → is_same_id u v ≡ false
may-no-more s trace v end u keeps = not-ended s trace keeps v end u

pub decided-boot : (s : UnitState) (trace : Trace) (u : Id) (end : End) → KeepsUnits s trace → IsSound trace → next trace ≡ Some (Ended u end) →
    is_decision (Ended u end) ≡ true → is_just_opened trace ≡ false → u.boot ≡ s.kept.boot
decided-boot s trace u end keeps sound comes decides behind =
    decided-own trace u end sound.played (of-start (start_of trace).kept sound.well) comes decides behind ∙ boot-is trace sound s keeps
