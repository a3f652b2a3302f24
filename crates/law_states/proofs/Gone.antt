-- What is gone: a program that was released, or that an early opening found and did not name.
use Rattle.law_states.proofs.Ascending.{has-append}
use Rattle.law_states.specs.KeptSources.{gone_in}
use Rattle.law_states.specs.Members.{In}
use Rattle.law_story.proofs.Fresh.{or_left, or_right}
use Rattle.law_story.proofs.Hiding.{Hides}
use Rattle.law_story.proofs.Lists.{either, has-in, in-has, in-right}
use Rattle.law_story.proofs.Sound.{Dead, freed-passed}
use Rattle.salt_model.specs.Programs.{accepted_in, freed_by, left_out, over_in, passed_in, programs_in, released_in}
use Rattle.salt_model.specs.Trace.{Trace, ◌says◌}
use Rattle.salt_model.specs.declared.events.Event.TheVariants.{Ready, Released}
use Rattle.salt_values.specs.Id.{has_id}
use Rattle.salt_values.specs.declared.id.Id.{Id}
use Rattle.std.proofs.Common.{ap, inl, inr, sym, ◌∙◌}
use Rattle.std.specs.Prelude.{Bool, List, false, refl, true, ◌++◌, ◌||◌, ◌≡◌}

pub absent : (b : Id) (us : List Id) → (In b us → ⊥) → has_id b us ≡ false
absent b us n = by (has_id b us) refl
  where
    by : (t : Bool) → has_id b us ≡ t → t ≡ false
    by true e = absurd (n (has-in b us e))
    by false e = refl

pub present : (b : Id) (us : List Id) → In b us → has_id b us ≡ false → ⊥
present b us i n = let t : true ≡ false = sym (in-has b us i) ∙ n in cc

both-false : (x y : Bool) → x ≡ false → y ≡ false → (x || y) ≡ false
both-false false y e f = f
both-false true y e f = cc

agree : (x y : Bool) → (x ≡ true → y ≡ true) → (y ≡ true → x ≡ true) → x ≡ y
agree true true f g = refl
agree true false f g = sym (f refl)
agree false true f g = g refl
agree false false f g = refl

pub gone-parts : (trace : Trace) (b : Id) → has_id b (gone_in trace) ≡ false → (has_id b (passed_in trace) ≡ false) × (has_id b (released_in trace) ≡ false)
gone-parts trace b n =
    let m = sym (has-append b (passed_in trace) (released_in trace)) ∙ n in (or_left _ _ m, or_right (has_id b (passed_in trace)) _ m)

pub not-gone : (trace : Trace) (b : Id) → has_id b (passed_in trace) ≡ false → has_id b (released_in trace) ≡ false → has_id b (gone_in trace) ≡ false
not-gone trace b p r = has-append b (passed_in trace) (released_in trace) ∙ both-false _ _ p r

pub over-parts : (trace : Trace) (b : Id) → has_id b (over_in trace) ≡ false → (has_id b (left_out trace) ≡ false) × (has_id b (released_in trace) ≡ false)
over-parts trace b n =
    let m = sym (has-append b (left_out trace) (released_in trace)) ∙ n in (or_left _ _ m, or_right (has_id b (left_out trace)) _ m)

pub not-over : (trace : Trace) (b : Id) → has_id b (left_out trace) ≡ false → has_id b (released_in trace) ≡ false → has_id b (over_in trace) ≡ false
not-over trace b p r = has-append b (left_out trace) (released_in trace) ∙ both-false _ _ p r

-- what is not over has not gone
pub not-dead : (trace : Trace) (b : Id) → (Dead trace b → ⊥) → has_id b (gone_in trace) ≡ false
not-dead trace b n = not-gone trace b (absent b (passed_in trace) (λ i. n (inr (inr i)))) (absent b (released_in trace) (λ i. n (inr (inl i))))

pub left-passed : (trace : Trace) (b : Id) → Hides trace → In b (left_out trace) → In b (passed_in trace)
left-passed trace b h i = either (λ n. absurd (h.named b n i)) (λ p. p) (h.named_or_passed b (h.out b i))

-- of an accepted program the two are one
pub accepted-over : (trace : Trace) (b : Id) → Hides trace → In b (accepted_in trace) → has_id b (over_in trace) ≡ has_id b (gone_in trace)
accepted-over trace b h a =
    has-append b (left_out trace) (released_in trace) ∙ ap (λ t. t || has_id b (released_in trace)) same
    ∙ sym (has-append b (passed_in trace) (released_in trace))
  where
    same : has_id b (left_out trace) ≡ has_id b (passed_in trace)
    same =
        agree _ _ (λ e. in-has b (passed_in trace) (left-passed trace b h (has-in b (left_out trace) e)))
        (λ e. in-has b (left_out trace) (h.old b (has-in b (passed_in trace) e) a))

-- a release
freed-not : (trace : Trace) (bs : List Id) (b : Id) → has_id b (passed_in trace) ≡ false → has_id b (freed_by bs trace) ≡ false
freed-not trace bs b n = absent b (freed_by bs trace) (λ i. present b (passed_in trace) (freed-passed bs trace b i) n)

appends : (b : Id) (fs rs bs : List Id) → has_id b (fs ++ (rs ++ bs)) ≡ (has_id b fs || (has_id b rs || has_id b bs))
appends b fs rs bs = has-append b fs _ ∙ ap (λ t. has_id b fs || t) (has-append b rs bs)

pub released-now : (trace : Trace) (bs : List Id) (b : Id) → has_id b (passed_in trace) ≡ false →
    has_id b (released_in (trace says Released bs)) ≡ (has_id b (released_in trace) || has_id b bs)
released-now trace bs b n =
    appends b (freed_by bs trace) (released_in trace) bs ∙ ap (λ t. t || (has_id b (released_in trace) || has_id b bs)) (freed-not trace bs b n)

settles : (p f r s : Bool) → (p ≡ false → f ≡ false) → (p || (f || (r || s))) ≡ ((p || r) || s)
settles true f r s h = refl
settles false f r s h = ap (λ t. t || (r || s)) (h refl)

pub gone-released : (trace : Trace) (bs : List Id) (b : Id) → has_id b (gone_in (trace says Released bs)) ≡ (has_id b (gone_in trace) || has_id b bs)
gone-released trace bs b =
    has-append b (passed_in trace) _ ∙ ap (λ t. has_id b (passed_in trace) || t) (appends b (freed_by bs trace) (released_in trace) bs)
    ∙ settles (has_id b (passed_in trace)) (has_id b (freed_by bs trace)) (has_id b (released_in trace)) (has_id b bs) (freed-not trace bs b)
    ∙ ap (λ t. t || has_id b bs) (sym (has-append b (passed_in trace) (released_in trace)))

pub over-released : (trace : Trace) (bs : List Id) (b : Id) → Hides trace → In b (accepted_in trace) →
    has_id b (over_in (trace says Released bs)) ≡ (has_id b (over_in trace) || has_id b bs)
over-released trace bs b h a =
    has-append b (left_out trace) _ ∙ ap (λ t. has_id b (left_out trace) || t) (appends b (freed_by bs trace) (released_in trace) bs)
    ∙ settles (has_id b (left_out trace)) (has_id b (freed_by bs trace)) (has_id b (released_in trace)) (has_id b bs) (λ n. freed-not trace bs b (absent b (passed_in trace) (λ i. present b (left_out trace) (h.old b i a) n)))
    ∙ ap (λ t. t || has_id b bs) (sym (has-append b (left_out trace) (released_in trace)))

-- at a Ready all are released
pub ready-gone : (trace : Trace) (b : Id) → In b (programs_in trace) → has_id b (released_in (trace says Ready)) ≡ false → ⊥
ready-gone trace b i n = present b (released_in trace ++ programs_in trace) (in-right b (released_in trace) (programs_in trace) i) n
