-- Of units that began before the last early opening: their programs are those that it found, and none of them is open.
use Rattle.law_states.specs.KeptSources.{begun_early}
use Rattle.law_states.specs.Members.{In}
use Rattle.law_story.proofs.Hiding.{found_early, program-in}
use Rattle.law_story.proofs.Ids.{is_same_id-refl}
use Rattle.law_story.proofs.Lists.{either, in-cases}
use Rattle.law_story.proofs.NextFits.{Fits}
use Rattle.law_story.proofs.Sound.{Sound, begins-new, kind-in, kind-named, kind-some, kind-stays, none-open-early, not-fresh, open-back}
use Rattle.law_story.proofs.Upheld.{OfBoots, holds, may-fit}
use Rattle.salt_model.specs.Played.{IsPlayed}
use Rattle.salt_model.specs.Programs.{passed_in}
use Rattle.salt_model.specs.Trace.{Trace, from, start_of, ◌asks◌, ◌says◌, ◌turns◌}
use Rattle.salt_model.specs.Units.{is_open, kind_of, program_of, program_of_kind, units_begun}
use Rattle.salt_model.specs.declared.events.Event.{Event}
use Rattle.salt_model.specs.declared.events.Event.TheVariants.{Began, Early}
use Rattle.salt_model.specs.declared.events.UnitKind.{UnitKind}
use Rattle.salt_values.specs.Id.{is_same_id}
use Rattle.salt_values.specs.declared.id.Id.{Id}
use Rattle.std.proofs.Common.{ap, inl, inr, subst, sym, ◌∙◌}
use Rattle.std.specs.Bool.{then_some}
use Rattle.std.specs.Option.{option_or}
use Rattle.std.specs.Prelude.{Bool, None, Option, Some, [], false, is_some, option_and_then, refl, true, ◌∷◌, ◌≡◌}

pub record Begun (trace : Trace) : Type 0 where
  pub known : (u : Id) → In u (begun_early trace) → is_some (kind_of u trace) ≡ true
  pub found : (u b : Id) → In u (begun_early trace) → program_of u trace ≡ Some b → In b (found_early trace)
  pub passed : (u b : Id) → program_of u trace ≡ Some b → In b (passed_in trace) → In u (begun_early trace)
  pub closed : (u : Id) → In u (begun_early trace) → is_open trace u ≡ true → ⊥

units-known : (trace : Trace) (u : Id) → In u (units_begun trace) → is_some (kind_of u trace) ≡ true
units-known (from k) u i = absurd i
units-known (trace asks asked) u i = units-known trace u i
units-known (trace turns b) u i = units-known trace u i
units-known (trace says Began v kind) u i =
    either (λ j. kind-some trace (Began v kind) u (units-known trace u j)) (λ j. new j) (in-cases u (units_begun trace) (v ∷ []) i)
  where
    new : In u (v ∷ []) → is_some (kind_of u (trace says Began v kind)) ≡ true
    new (inl e) = subst (λ x. is_some (kind_of x (trace says Began v kind)) ≡ true) e (rw (is_same_id-refl v) refl)
    new (inr j) = absurd j
units-known (trace says e) u i = kind-some trace e u (units-known trace u i)

program-known : (trace : Trace) (u b : Id) → program_of u trace ≡ Some b → is_some (kind_of u trace) ≡ true
program-known trace u b p = by (kind_of u trace) p
  where
    by : (o : Option UnitKind) → option_and_then program_of_kind o ≡ Some b → is_some o ≡ true
    by None q = cc
    by (Some kind) q = refl

known-step : (trace : Trace) (e : Event) → Begun trace → (u : Id) → In u (begun_early (trace says e)) → is_some (kind_of u (trace says e)) ≡ true
known-step trace (Early bs) h u i = units-known trace u i
known-step trace e h u i = kind-some trace e u (h.known u i)

found-step : (trace : Trace) (e : Event) → Sound trace → Fits trace e → Begun trace → (u b : Id) → In u (begun_early (trace says e)) →
    program_of u (trace says e) ≡ Some b → In b (found_early (trace says e))
found-step trace (Early bs) s f h u b i p = program-in trace u b p
found-step trace (Began x kind) s f h u b i p =
    h.found u b i (ap (option_and_then program_of_kind) (sym (kind-stays trace (Began x kind) u s f (h.known u i))) ∙ p)
found-step trace e s f h u b i p = h.found u b i p

passed-step : (trace : Trace) (e : Event) → Sound trace → Fits trace e → Begun trace → (u b : Id) → program_of u (trace says e) ≡ Some b →
    In b (passed_in (trace says e)) → In u (begun_early (trace says e))
passed-step trace (Early bs) s f h u b p i = kind-in trace u (program-known trace u b p)
passed-step trace (Began x kind) s f h u b p i = by (is_same_id u x) p
  where
    by : (t : Bool) → option_and_then program_of_kind (option_or (then_some t kind) (kind_of u trace)) ≡ Some b → In u (begun_early trace)
    by true q = absurd ((begins-new trace x kind b s f q).1 (inr (inr i)))
    by false q = h.passed u b q i
passed-step trace e s f h u b p i = h.passed u b p i

closed-step : (trace : Trace) (e : Event) → Sound trace → Fits trace e → Begun trace → (u : Id) → In u (begun_early (trace says e)) →
    is_open (trace says e) u ≡ true → ⊥
closed-step trace (Early bs) s f h u i o = none-open-early trace bs s f u o
closed-step trace (Began x kind) s f h u i o = either (λ g. h.closed u i g) (λ g. clash g) (open-back trace (Began x kind) u f o)
  where
    clash : is_same_id u x ≡ true → ⊥
    clash g =
        let n : is_same_id u x ≡ false = subst (λ y. is_same_id u y ≡ false) (sym f.0) (not-fresh trace u s f.1 (kind-named trace u (h.known u i))) in
        let t : true ≡ false = sym g ∙ n in cc
closed-step trace e s f h u i o = h.closed u i (either (λ g. g) (λ g. absurd g) (open-back trace e u f o))

pub begun : (trace : Trace) → IsPlayed trace → OfBoots (start_of trace).kept → Begun trace
begun (from k) p w = record { known = λ u i. absurd i; found = λ u b i q. absurd i; passed = λ u b q i. absurd i; closed = λ u i o. absurd i }
begun (trace asks asked) p w = let h = begun trace p.0 w in record { known = h.known; found = h.found; passed = h.passed; closed = h.closed }
begun (trace turns b) p w = let h = begun trace p.0 w in record { known = h.known; found = h.found; passed = h.passed; closed = h.closed }
begun (trace says e) p w =
    let k = holds trace p.0 w in
    let f = may-fit trace e k.comes p.1 in
    let h = begun trace p.0 w in
    record {
      known = known-step trace e h;
      found = found-step trace e k.sound f h;
      passed = passed-step trace e k.sound f h;
      closed = closed-step trace e k.sound f h;
    }
