-- The ways of a program that is not refused for its branches lead to later parts.
use Rattle.salt_ast.proofs.LowExprs.{other_is_none}
use Rattle.salt_ast.specs.Paths.{Position, at_number, next_on_branch, next_on_commit, part_of_next, part_rest, position_at, rest_from, rests, way_on_commit, way_on_failure}
use Rattle.salt_ast.specs.ProgramJudgement.{fault_in_parts, is_backward, part_fault}
use Rattle.std.specs.Bool.{then_some}
use Rattle.std.specs.Option.{option_or}
use Rattle.salt_ast.specs.declared.programs.Next.{Next}
use Rattle.salt_ast.specs.declared.programs.Next.TheVariants as next
use Rattle.salt_ast.specs.declared.programs.PartDef.{PartDef}
use Rattle.std.proofs.Common.{Bool, List, None, Option, Some, [], ap, arith, false, refl, subst, suc, true, zero, ℕ, ◌+◌, ◌<◌, ◌∙◌, ◌∷◌, ◌||◌, ◌≡◌, ◌≤◌, if◌then◌else◌}
use Rattle.std.proofs.lemmas.Bool.Decides.{nat_tests}
use Rattle.std.specs.Prelude.{◌==◌, length, nat_lt, option_and_then, option_map, ⊤}

-- a way of part `k` of `count` parts leads to a later one, or to the end
abbrev pub LeadsOn : (count k : ℕ) → Option ℕ → Type 0
LeadsOn count k None = ⊤
LeadsOn count k (Some j) = (k < j) × (j ≤ count)

told_on : (count k : ℕ) (n : Next) → is_backward count k (Some n) ≡ false → LeadsOn count k (part_of_next n)
told_on count k (next.Part j) h = (grind (arith, nat_tests), grind (arith, nat_tests))
told_on count k next.End h = tt

following_on : (count k : ℕ) (t : Bool) → nat_lt k count ≡ t → LeadsOn count k (then_some t (suc k))
following_on count k true h = (omega arith, grind (arith, nat_tests))
following_on count k false h = tt

commit_on : (count k : ℕ) (w : Option Next) → is_backward count k w ≡ false → LeadsOn count k (way_on_commit count k w)
commit_on count k None h = following_on count k (nat_lt k count) refl
commit_on count k (Some n) h = told_on count k n h

failure_on : (count k : ℕ) (w : Option Next) → is_backward count k w ≡ false → LeadsOn count k (way_on_failure w)
failure_on count k None h = tt
failure_on count k (Some n) h = told_on count k n h

first_is_none : {A : Type 0} (x y : Option A) → option_or x y ≡ None → x ≡ None
first_is_none None y h = refl
first_is_none (Some x) y h = absurd (cc h)

not_told : {A : Type 0} (b : Bool) (x : A) → then_some b x ≡ None → b ≡ false
not_told true x h = absurd (cc h)
not_told false x h = refl

neither : (a b c : Bool) → (a || b || c) ≡ false → (a ≡ false) × (b ≡ false)
neither true b c h = absurd (cc h)
neither false true c h = absurd (cc h)
neither false false c h = (refl, refl)

-- both ways of the part lead on
pub record WaysLeadOn (count k : ℕ) (p : PartDef) : Type 0 where
  pub commit : LeadsOn count k (way_on_commit count k p.then)
  pub failure : LeadsOn count k (way_on_failure p.on_failure)

ways_of_part : (count k : ℕ) (p : PartDef) → part_fault count k p ≡ None → WaysLeadOn count k p
ways_of_part count k p sound =
    let both = neither _ _ _ (not_told _ _ (other_is_none _ _ sound)) in
    record { commit = commit_on count k p.then both.0; failure = failure_on count k p.on_failure both.1 }

-- these of `count` parts, the first of which is part `k`, are those that stand there
pub record AreFrom (parts : List PartDef) (count k : ℕ) (ps : List PartDef) : Type 0 where
  pub sound : fault_in_parts count k ps ≡ None
  pub numbered : (i : ℕ) → at_number (k + i) parts ≡ at_number (suc i) ps
  pub rest : (at : Position) → k ≤ at.part → rest_from count 1 parts at ≡ rest_from count k ps at

pub all_from_first : (parts : List PartDef) → fault_in_parts (length parts) 1 parts ≡ None → AreFrom parts (length parts) 1 parts
all_from_first parts sound = record {
  sound = sound;
  numbered = λ i. let e : 1 + i ≡ suc i = omega arith in ap (λ (n : ℕ). at_number n parts) e;
  rest = λ at le. refl;
}

pub other_branch : {A : Type 0} (n k : ℕ) (x y : A) → (n ≡ k → ⊥) → (if n == k then x else y) ≡ y
other_branch n k x y ne = grind (arith, nat_tests)

pub without_first : (parts : List PartDef) (count k : ℕ) (q : PartDef) (qs : List PartDef) → AreFrom parts count k (q ∷ qs) →
    AreFrom parts count (suc k) qs
without_first parts count k q qs all = record {
  sound = other_is_none (part_fault count k q) (fault_in_parts count (suc k) qs) all.sound;
  numbered = λ i. let e : suc k + i ≡ k + suc i = omega arith in ap (λ (n : ℕ). at_number n parts) e ∙ all.numbered (suc i);
  rest = λ at lt. all.rest at (omega arith)
      ∙ other_branch at.part k (part_rest count k q at.tries (rests count (suc k) qs)) (rest_from count (suc k) qs at) (λ e. omega arith);
}

-- the part of this number, and those behind it
pub record StandsAt (parts : List PartDef) (count k : ℕ) (p : PartDef) : Type 0 where
  pub behind : List PartDef
  pub from_it : AreFrom parts count k (p ∷ behind)

stands_at : (parts : List PartDef) (count k : ℕ) (ps : List PartDef) → AreFrom parts count k ps → (i : ℕ) (p : PartDef) → at_number (suc i) ps ≡ Some p →
    StandsAt parts count (k + i) p
stands_at parts count k [] all i p is = absurd (cc is)
stands_at parts count k (q ∷ qs) all zero p is =
    let e : k ≡ k + zero = omega arith in
    let same_part : q ≡ p = cc is in
    subst (λ (n : ℕ). StandsAt parts count n p) e (subst (StandsAt parts count k) same_part (record { behind = qs; from_it = all }))
stands_at parts count k (q ∷ qs) all (suc i) p is =
    let e : suc k + i ≡ k + suc i = omega arith in
    subst (λ (n : ℕ). StandsAt parts count n p) e (stands_at parts count (suc k) qs (without_first parts count k q qs all) i p is)

pub part_stands : (parts : List PartDef) → fault_in_parts (length parts) 1 parts ≡ None → (i : ℕ) (p : PartDef) → at_number (suc i) parts ≡ Some p →
    StandsAt parts (length parts) (suc i) p
part_stands parts sound i p is =
    let e : 1 + i ≡ suc i = omega arith in
    subst (λ (n : ℕ). StandsAt parts (length parts) n p) e (stands_at parts (length parts) 1 parts (all_from_first parts sound) i p is)

pub ways_on : (parts : List PartDef) (count k : ℕ) (p : PartDef) → StandsAt parts count k p → WaysLeadOn count k p
ways_on parts count k p at = ways_of_part count k p (first_is_none (part_fault count k p) (fault_in_parts count (suc k) at.behind) at.from_it.sound)

-- ---- where a program goes on

led_on : (parts : List PartDef) (count k : ℕ) (w : Option ℕ) (at : Position) → LeadsOn count k w → option_map (position_at parts) w ≡ Some at →
    (k < at.part) × (at.part ≤ count)
led_on parts count k None at on is = absurd (cc is)
led_on parts count k (Some j) at on is =
    let there : position_at parts j ≡ at = cc is in
    let same_part : j ≡ at.part = ap (λ (q : Position). q.part) there in
    (omega (arith, on.0), omega (arith, on.1))

pub no_part_zero : (parts : List PartDef) (p : PartDef) → at_number zero parts ≡ Some p → ⊥
no_part_zero [] p is = cc is
no_part_zero (q ∷ qs) p is = cc is

module _ (parts : List PartDef) (sound : fault_in_parts (length parts) 1 parts ≡ None) where
  part_goes_on : (k : ℕ) (o : Option PartDef) → at_number k parts ≡ o → (way : PartDef → Option ℕ) →
      ((p : PartDef) → WaysLeadOn (length parts) k p → LeadsOn (length parts) k (way p)) →
      (at : Position) → option_map (position_at parts) (option_and_then way o) ≡ Some at → (k < at.part) × (at.part ≤ length parts)
  part_goes_on k None e way on at is = absurd (cc is)
  part_goes_on zero (Some p) e way on at is = absurd (no_part_zero parts p e)
  part_goes_on (suc i) (Some p) e way on at is =
      led_on parts (length parts) (suc i) (way p) at (on p (ways_on parts (length parts) (suc i) p (part_stands parts sound i p e))) is

  -- by a way of the part, if it is there
  goes_on : (k : ℕ) (way : PartDef → Option ℕ) → ((p : PartDef) → WaysLeadOn (length parts) k p → LeadsOn (length parts) k (way p)) →
      (at : Position) → option_map (position_at parts) (option_and_then way (at_number k parts)) ≡ Some at → (k < at.part) × (at.part ≤ length parts)
  goes_on k = part_goes_on k (at_number k parts) refl

  pub commit_leads_on : (k : ℕ) (at : Position) → next_on_commit parts k ≡ Some at → (k < at.part) × (at.part ≤ length parts)
  commit_leads_on k = goes_on k (λ p. way_on_commit (length parts) k p.then) (λ p ways. ways.commit)

  pub branch_leads_on : (k : ℕ) (at : Position) → next_on_branch parts k ≡ Some at → (k < at.part) × (at.part ≤ length parts)
  branch_leads_on k = goes_on k (λ p. way_on_failure p.on_failure) (λ p ways. ways.failure)
