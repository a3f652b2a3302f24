-- What is found of a story, as it grows.
use Rattle.salt_audit.specs.Formed.{is_formed_by, is_formed_on}
use Rattle.salt_audit.specs.Retelling.{told, told_on}
use Rattle.salt_audit.specs.Stories.{then_on}
use Rattle.salt_audit.specs.Verdicts.{Break, Finding, broken_by, found_by, found_on, sound}
use Rattle.salt_model.specs.Trace.{Trace}
use Rattle.salt_model.specs.declared.events.Event.{Event}
use Rattle.std.proofs.Common.{Bool, List, None, Option, Some, [], ap, arith, false, length, refl, suc, true, ℕ, ◌&&◌, ◌+◌, ◌++◌, ◌∙◌, ◌∷◌, ◌≡◌}

by_step : (n : ℕ) (f : Bool) (b : Option Break) (x y : Finding) → found_by n f b (then_on x y) ≡ then_on (found_by n f b x) y
by_step n false b x y = refl
by_step n true (Some b) x y = refl
by_step n true None x y = refl

pub found_grows : (n : ℕ) (trace : Trace) (as_ bs : List Event) → found_on n trace (as_ ++ bs) ≡ then_on (found_on n trace as_) (found_on (n + length as_) (told_on trace as_) bs)
found_grows n trace [] bs = let e : n ≡ n + 0 = omega arith in ap (λ k. found_on k trace bs) e
found_grows n trace (a ∷ as_) bs =
    let more = found_grows (suc n) (told trace a) as_ bs in
    let e : suc n + length as_ ≡ n + suc (length as_) = omega arith in
    let moved = more ∙ ap (λ k. then_on (found_on (suc n) (told trace a) as_) (found_on k (told_on (told trace a) as_) bs)) e in
    ap (found_by n (is_formed_by trace a) (broken_by trace a)) moved
    ∙ by_step n (is_formed_by trace a) (broken_by trace a) (found_on (suc n) (told trace a) as_) (found_on (n + suc (length as_)) (told_on (told trace a) as_) bs)

-- of an event and what is behind it, where nothing is amiss
pub sound_parts : (n : ℕ) (f : Bool) (b : Option Break) (x : Finding) → found_by n f b x ≡ sound → (f ≡ true) × (x ≡ sound)
sound_parts n false b x e = absurd cc
sound_parts n true (Some b) x e = absurd cc
sound_parts n true None x e = (refl, e)

-- a sound story is formed
pub sound_formed : (n : ℕ) (trace : Trace) (es : List Event) → found_on n trace es ≡ sound → is_formed_on trace es ≡ true
sound_formed n trace [] e = refl
sound_formed n trace (a ∷ es) e =
    let parts = sound_parts n (is_formed_by trace a) (broken_by trace a) (found_on (suc n) (told trace a) es) e in
    ap (λ (t : Bool). t && is_formed_on (told trace a) es) parts.0 ∙ sound_formed (suc n) (told trace a) es parts.1
