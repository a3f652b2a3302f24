-- The line in front of bytes.
use Rattle.law_texts.specs.EventLines.{Inline}
use Rattle.salt_transcript.specs.Fronts.{IsInFront, is_line_end}
use Rattle.std.proofs.Common.{ap, arith, drop, length, length-drop, subst, sym, take, true≢false, ◌-◌, ◌<◌, ◌∙◌}
use Rattle.std.proofs.lemmas.Bool.Decides.{nat_tests}
use Rattle.std.proofs.lemmas.List.{take_all}
use Rattle.std.specs.List.{position_from}
use Rattle.std.specs.Prelude.{Bool, List, None, Some, [], cond, false, not, refl, suc, true, ℕ, ◌+◌, ◌++◌, ◌==◌, ◌∷◌, ◌≡◌}

-- found from a number on, the end of the line stands at its distance from there
ends_at : (m : ℕ) (bytes : List ℕ) (k : ℕ) → position_from is_line_end m bytes ≡ Some k →
    (j : ℕ) × (k ≡ m + j) × (j < length bytes) × Inline (take j bytes) × (bytes ≡ take j bytes ++ (10 ∷ drop (suc j) bytes))
ends_at m [] k e = absurd cc
ends_at m (b ∷ bs) k e = by (b == 10) refl e (ends_at (m + 1) bs k)
  where
    by : (t : Bool) → (b == 10) ≡ t → cond t (Some m) (position_from is_line_end (m + 1) bs) ≡ Some k →
        (position_from is_line_end (m + 1) bs ≡ Some k →
        (j : ℕ) × (k ≡ (m + 1) + j) × (j < length bs) × Inline (take j bs) × (bs ≡ take j bs ++ (10 ∷ drop (suc j) bs))) →
        (j : ℕ) × (k ≡ m + j) × (j < length (b ∷ bs)) × Inline (take j (b ∷ bs)) × (b ∷ bs ≡ take j (b ∷ bs) ++ (10 ∷ drop (suc j) (b ∷ bs)))
    by true is f more =
        let same : m ≡ k = cc in
        let ten : b ≡ 10 = grind (arith, nat_tests, is) in
        (0, omega arith, omega arith, tt, ap (λ (x : ℕ). x ∷ bs) ten)
    by false is f more =
        let r = more f in
        let place : k ≡ (m + 1) + r.0 = r.1 in
        let within : r.0 < length bs = r.2 in
        (suc r.0, omega arith, omega arith, (ap not is, r.3), ap (λ (l : List ℕ). b ∷ l) r.4)

pub line_ends : (bytes : List ℕ) (at : ℕ) → position_from is_line_end 0 bytes ≡ Some at →
    (at < length bytes) × Inline (take at bytes) × (bytes ≡ take at bytes ++ (10 ∷ drop (at + 1) bytes))
line_ends bytes at e =
    let r = ends_at 0 bytes at e in
    let place : at ≡ 0 + r.0 = r.1 in
    let same : r.0 ≡ at = omega arith in
    let next : suc r.0 ≡ at + 1 = omega arith in
    let within : r.0 < length bytes = r.2 in
    (omega arith, subst (λ (j : ℕ). Inline (take j bytes)) same r.3, r.4 ∙ (λ i. take (same i) bytes ++ (10 ∷ drop (next i) bytes)))

-- cut there, a line is in front
pub cut_at : (bytes : List ℕ) (at : ℕ) → position_from is_line_end 0 bytes ≡ Some at →
    IsInFront (take at bytes) (take (length bytes - (at + 1)) (drop (at + 1) bytes)) bytes
cut_at bytes at e =
    let ends = line_ends bytes at e in
    let behind = drop (at + 1) bytes in
    let all : take (length bytes - (at + 1)) behind ≡ behind = take_all (length bytes - (at + 1)) behind (omega (arith, length-drop (at + 1) bytes)) in
    record { inline = ends.1; text = ends.2 ∙ ap (λ (more : List ℕ). take at bytes ++ (10 ∷ more)) (sym all) }

pub no_end : (m : ℕ) (bytes : List ℕ) → position_from is_line_end m bytes ≡ None → Inline bytes
no_end m [] e = tt
no_end m (b ∷ bs) e = by (b == 10) refl e (no_end (m + 1) bs)
  where
    by : (t : Bool) → (b == 10) ≡ t → cond t (Some m) (position_from is_line_end (m + 1) bs) ≡ None → (position_from is_line_end (m + 1) bs ≡ None → Inline bs) →
        Inline (b ∷ bs)
    by true is f more = absurd cc
    by false is f more = (ap not is, more f)

-- bytes without an end of a line have no line in front
within_none : (line more : List ℕ) → Inline (line ++ (10 ∷ more)) → ⊥
within_none [] more h = true≢false (sym h.0)
within_none (b ∷ line) more h = within_none line more h.1

pub none_in_front : (line more bytes : List ℕ) → Inline bytes → IsInFront line more bytes → ⊥
none_in_front line more bytes h f = within_none line more (subst Inline f.text h)
