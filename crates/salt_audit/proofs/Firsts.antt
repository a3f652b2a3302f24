-- The first of a program among continuations: what a change there makes.
use Rattle.salt_audit.specs.Standing.{is_of}
use Rattle.salt_model.specs.Kept.{change_cont, without_cont}
use Rattle.salt_values.specs.Id.{is_same_id}
use Rattle.salt_values.specs.declared.cont.Cont.{Cont}
use Rattle.salt_values.specs.declared.id.Id.{Id}
use Rattle.std.proofs.Common.{ap, arith, subst, sym, ◌<◌, ◌∙◌}
use Rattle.std.specs.List.{position_from, remove}
use Rattle.std.specs.Prelude.{Bool, List, None, Some, [], cond, false, if◌then◌else◌, length, refl, set, suc, true, zero, ℕ, ◌+◌, ◌∷◌, ◌≡◌}

-- IN ANY LIST

-- the first that passes stands at this place
abbrev pub IsFirstAt : {A : Type 0} → (A → Bool) → List A → ℕ → Type 0
IsFirstAt p [] at = ⊥
IsFirstAt p (x ∷ xs) zero = p x ≡ true
IsFirstAt p (x ∷ xs) (suc at) = (p x ≡ false) × IsFirstAt p xs at

found_from : {A : Type 0} (p : A → Bool) (m : ℕ) (xs : List A) (at : ℕ) → position_from p m xs ≡ Some at → (j : ℕ) × (at ≡ m + j) × IsFirstAt p xs j
found_from p m [] at e = absurd cc
found_from {A = A} p m (x ∷ xs) at e = by (p x) refl e (found_from p (m + 1) xs at)
  where
    by : (t : Bool) → p x ≡ t → cond t (Some m) (position_from p (m + 1) xs) ≡ Some at →
        (position_from p (m + 1) xs ≡ Some at → (j : ℕ) × (at ≡ (m + 1) + j) × IsFirstAt p xs j) → (j : ℕ) × (at ≡ m + j) × IsFirstAt p (x ∷ xs) j
    by true is f more = let same : m ≡ at = cc in (0, omega arith, is)
    by false is f more =
        let r = more f in
        let place : at ≡ (m + 1) + r.0 = r.1 in
        (suc r.0, omega arith, (is, r.2))

pub first_found : {A : Type 0} (p : A → Bool) (xs : List A) (at : ℕ) → position_from p 0 xs ≡ Some at → IsFirstAt p xs at
first_found p xs at e =
    let r = found_from p 0 xs at e in
    let place : at ≡ 0 + r.0 = r.1 in
    let same : r.0 ≡ at = omega arith in
    subst (IsFirstAt p xs) same r.2

pub first_within : {A : Type 0} (p : A → Bool) (xs : List A) (at : ℕ) → IsFirstAt p xs at → at < length xs
first_within p [] at h = absurd h
first_within p (x ∷ xs) zero h = omega arith
first_within p (x ∷ xs) (suc at) h = let more = first_within p xs at h.1 in omega (arith, more)

-- CONTINUATIONS

set_cont : (b : Id) (c : Cont) (cs : List Cont) (at : ℕ) → IsFirstAt (is_of b) cs at → set cs at c ≡ change_cont b (λ d. c) cs
set_cont b c [] at first = absurd first
set_cont b c (d ∷ ds) zero first = sym (ap (λ (t : Bool). if t then c ∷ ds else d ∷ change_cont b (λ e. c) ds) first)
set_cont b c (d ∷ ds) (suc at) first =
    ap (λ l. d ∷ l) (set_cont b c ds at first.1) ∙ sym (ap (λ (t : Bool). if t then c ∷ ds else d ∷ change_cont b (λ e. c) ds) first.0)

pub cont_changed : (b : Id) (c : Cont) (cs : List Cont) (at : ℕ) → position_from (is_of b) 0 cs ≡ Some at → set cs at c ≡ change_cont b (λ d. c) cs
cont_changed b c cs at found = set_cont b c cs at (first_found (is_of b) cs at found)

rest_cont : (b : Id) (cs : List Cont) (at : ℕ) → IsFirstAt (is_of b) cs at → remove cs at ≡ without_cont b cs
rest_cont b [] at first = absurd first
rest_cont b (d ∷ ds) zero first = sym (ap (λ (t : Bool). if t then ds else d ∷ without_cont b ds) first)
rest_cont b (d ∷ ds) (suc at) first =
    ap (λ l. d ∷ l) (rest_cont b ds at first.1) ∙ sym (ap (λ (t : Bool). if t then ds else d ∷ without_cont b ds) first.0)

pub cont_gone : (b : Id) (cs : List Cont) (at : ℕ) → position_from (is_of b) 0 cs ≡ Some at → remove cs at ≡ without_cont b cs
cont_gone b cs at found = rest_cont b cs at (first_found (is_of b) cs at found)

pub none_changed : (b : Id) (f : Cont → Cont) (m : ℕ) (cs : List Cont) → position_from (is_of b) m cs ≡ None → change_cont b f cs ≡ cs
none_changed b f m [] e = refl
none_changed b f m (d ∷ ds) e = by (is_same_id b d.base) e (none_changed b f (m + 1) ds)
  where
    by : (t : Bool) → cond t (Some m) (position_from (is_of b) (m + 1) ds) ≡ None → (position_from (is_of b) (m + 1) ds ≡ None → change_cont b f ds ≡ ds) →
        cond t (f d ∷ ds) (d ∷ change_cont b f ds) ≡ d ∷ ds
    by true h more = absurd cc
    by false h more = ap (λ l. d ∷ l) (more h)

pub none_gone : (b : Id) (m : ℕ) (cs : List Cont) → position_from (is_of b) m cs ≡ None → without_cont b cs ≡ cs
none_gone b m [] e = refl
none_gone b m (d ∷ ds) e = by (is_same_id b d.base) e (none_gone b (m + 1) ds)
  where
    by : (t : Bool) → cond t (Some m) (position_from (is_of b) (m + 1) ds) ≡ None → (position_from (is_of b) (m + 1) ds ≡ None → without_cont b ds ≡ ds) →
        cond t ds (d ∷ without_cont b ds) ≡ d ∷ ds
    by true h more = absurd cc
    by false h more = ap (λ l. d ∷ l) (more h)
