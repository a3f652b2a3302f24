-- The units that are decided with a partition's bit, from what a log keeps.
use Rattle.salt_bytes.specs.Coordinator.{Decision}
use Rattle.salt_commit.specs.Openings.{named_units}
use Rattle.salt_decisions.specs.Kept.{IsKept}
use Rattle.salt_decisions.specs.Said.{mask_of}
use Rattle.salt_decisions.specs.declared.kept.Kept.{Kept}
use Rattle.salt_stands.specs.Coordinator.{decided_for, unit_of}
use Rattle.salt_stands.specs.CoordinatorLog.{CoordinatorLog}
use Rattle.salt_stands.specs.Words.{has_bit}
use Rattle.salt_values.specs.declared.id.Id.{Id}
use Rattle.std.proofs.Common.{List, [], ap, arith, false, get_or, length, refl, sym, take, true, ℕ, ◌+◌, ◌++◌, ◌<◌, ◌≡◌, ◌∙◌, ◌∷◌}
use Rattle.std.proofs.lemmas.List.{take_more}
use Rattle.std.specs.List.{filter}
use Rattle.std.specs.Prelude.{Bool, if◌then◌else◌, map, suc, zero}

-- with one unit more
pub named_push : (p : ℕ) (us : List Id) (ms : List ℕ) (u : Id) (m : ℕ) → length ms ≡ length us → named_units p (us ++ u ∷ []) (ms ++ m ∷ []) ≡ named_units p us ms ++ (if has_bit m p then u ∷ [] else [])
named_push p [] [] u m e = by (has_bit m p)
  where
    by : (b : Bool) → (if b then u ∷ [] else []) ≡ (if b then u ∷ [] else [])
    by b = refl
named_push p [] (n ∷ ns) u m e = absurd (omega (arith, e))
named_push p (x ∷ xs) [] u m e = absurd (omega (arith, e))
named_push p (x ∷ xs) (n ∷ ns) u m e = by (has_bit n p) (named_push p xs ns u m (omega (arith, e)))
  where
    by : (b : Bool) → named_units p (xs ++ u ∷ []) (ns ++ m ∷ []) ≡ named_units p xs ns ++ (if has_bit m p then u ∷ [] else [])
        → (if b then x ∷ named_units p (xs ++ u ∷ []) (ns ++ m ∷ []) else named_units p (xs ++ u ∷ []) (ns ++ m ∷ [])) ≡ (if b then x ∷ named_units p xs ns else named_units p xs ns) ++ (if has_bit m p then u ∷ [] else [])
    by true h = ap (λ l. x ∷ l) h
    by false h = h

named_decided : (p : ℕ) (ds : List Decision) → named_units p (map unit_of ds) (map mask_of ds) ≡ decided_for p ds
named_decided p [] = refl
named_decided p (d ∷ ds) = by (has_bit d.mask p) (named_decided p ds)
  where
    by : (b : Bool) → named_units p (map unit_of ds) (map mask_of ds) ≡ decided_for p ds
        → (if b then d.unit ∷ named_units p (map unit_of ds) (map mask_of ds) else named_units p (map unit_of ds) (map mask_of ds)) ≡ map unit_of (if b then d ∷ filter (λ d. has_bit d.mask p) ds else filter (λ d. has_bit d.mask p) ds)
    by true h = ap (λ l. d.unit ∷ l) h
    by false h = h

-- what is kept names the units of the log
pub kept_units : (p : ℕ) (k : Kept) (log : CoordinatorLog) → IsKept k log → named_units p k.decided k.masks ≡ decided_for p log.told.decided
kept_units p k log h = ap (λ us. named_units p us k.masks) h.decided ∙ ap (named_units p (map unit_of log.told.decided)) h.masks ∙ named_decided p log.told.decided

-- of the first units, with the next one
pub named_next : (p : ℕ) (us : List Id) (ms : List ℕ) (n : ℕ) (u : Id) (m : ℕ) (b : Bool) → length ms ≡ length us → n < length us → b ≡ has_bit (get_or ms n m) p
    → (before after : List Id) → before ≡ named_units p (take n us) (take n ms) → after ≡ before ++ (if b then get_or us n u ∷ [] else []) → after ≡ named_units p (take (n + 1) us) (take (n + 1) ms)
named_next p us ms n u m b e low bit before after was is =
    is ∙ ap (λ l. l ++ (if b then get_or us n u ∷ [] else [])) was ∙ ap (λ k. named_units p (take n us) (take n ms) ++ (if k then get_or us n u ∷ [] else [])) bit
    ∙ sym (named_push p (take n us) (take n ms) (get_or us n u) (get_or ms n m) (same_length us ms n e))
    ∙ ap (λ l. named_units p l (take n ms ++ get_or ms n m ∷ [])) (sym (take_more us n u low)) ∙ ap (named_units p (take (n + 1) us)) (sym (take_more ms n m (omega (arith, low, e))))
  where
    same_length : (us : List Id) (ms : List ℕ) (n : ℕ) → length ms ≡ length us → length (take n ms) ≡ length (take n us)
    same_length us ms zero e = refl
    same_length [] [] (suc n) e = refl
    same_length [] (m ∷ ms) (suc n) e = absurd (omega (arith, e))
    same_length (u ∷ us) [] (suc n) e = absurd (omega (arith, e))
    same_length (u ∷ us) (m ∷ ms) (suc n) e = ap suc (same_length us ms n (omega (arith, e)))
