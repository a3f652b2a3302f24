-- A table of rests tells what the definition tells of the parts behind one.
use Rattle.salt_ast.proofs.Ways.{no_part_zero, other_branch}
use Rattle.salt_ast.specs.Paths.{Position, Rest, at_number, part_rest, rest_among, rest_from, retries, rests, way_on_commit, way_on_failure}
use Rattle.salt_ast.specs.declared.programs.PartDef.{PartDef}
use Rattle.salt_cont.specs.Rests.{rest_told}
use Rattle.salt_cont.proofs.Numbers.{at_number-slice_get, number_zero}
use Rattle.std.proofs.Common.{Bool, List, None, Option, Some, [], ap, arith, drop, cond, drop-cons, false, get_or, if◌then◌else◌, length, refl, set, suc, sym, true, zero, ℕ, ◌*◌, ◌+◌, ◌∙◌, ◌∷◌, ◌<◌, ◌≡◌, ◌≤◌}
use Rattle.std.proofs.lemmas.Bool.Decides.{nat_tests}
use Rattle.std.proofs.Math.ListN.{replicate}
use Rattle.std.proofs.Math.Nat.{max-le, mul-le-mul_left}
use Rattle.std.proofs.Math.Seq.{drop-length}
use Rattle.std.proofs.lemmas.Grind.{get_or-set_at}
use Rattle.std.proofs.lemmas.List.{get_or-set_other}
use Rattle.std.proofs.lemmas.Option.{unwrap_or-slice_get}
use Rattle.std.specs.Prelude.{◌==◌, max, unwrap_or}

-- each try adds the statements of the part
pub part_rest-tries : (count k : ℕ) (p : PartDef) (tries : ℕ) (behind : List Rest) →
    part_rest count k p tries behind
    ≡ length p.block * (tries + 1) + max (rest_among behind (way_on_commit count k p.then)) (rest_among behind (way_on_failure p.on_failure))
part_rest-tries count k p zero behind = grind arith
part_rest-tries count k p (suc tries) behind = rw (part_rest-tries count k p tries behind) (by (length p.block) tries (rest_among behind (way_on_commit count k p.then)) (rest_among behind (way_on_failure p.on_failure)))
  where
    by : (n t a b : ℕ) → n + max a (n * (t + 1) + max a b) ≡ n * (suc t + 1) + max a b
    by n t a b = grind arith

rest_told-get_or : (table : List ℕ) (j : ℕ) → rest_told table (Some (suc j)) ≡ get_or table j 0
rest_told-get_or table j = ap (λ o. unwrap_or o 0) (at_number-slice_get table j) ∙ unwrap_or-slice_get table j 0

rest_told-zero : (table : List ℕ) → rest_told table (Some zero) ≡ 0
rest_told-zero table = ap (λ o. unwrap_or o 0) (number_zero table)

-- what a table tells once the rest of one part is written
abbrev told_or : (i r : ℕ) → List ℕ → Option ℕ → ℕ
told_or i r table None = 0
told_or i r table (Some k) = if suc i == k then r else rest_told table (Some k)

pub rest_told-set : (table : List ℕ) (i r : ℕ) (way : Option ℕ) → i < length table → rest_told (set table i r) way ≡ told_or i r table way
rest_told-set table i r None h = refl
rest_told-set table i r (Some zero) h =
    rest_told-zero (set table i r) ∙ sym (rest_told-zero table) ∙ sym (other_branch (suc i) zero r (rest_told table (Some zero)) (λ e. omega arith))
rest_told-set table i r (Some (suc j)) h = rest_told-get_or (set table i r) j ∙ by (suc i == suc j) refl
  where
    by : (b : Bool) → (suc i == suc j) ≡ b → get_or (set table i r) j 0 ≡ cond b r (rest_told table (Some (suc j)))
    by true e = get_or-set_at table i j r 0 (grind (arith, nat_tests)) h
    by false e = get_or-set_other table i j r 0 (λ same. grind (arith, nat_tests)) ∙ sym (rest_told-get_or table j)

pub told_step : (count n i : ℕ) (parts : List PartDef) (p : PartDef) (table : List ℕ) (r : ℕ) → n ≡ suc i → i < length parts → p ≡ get_or parts i p →
    i < length table → ((way : Option ℕ) → rest_told table way ≡ rest_among (rests count (suc n) (drop n parts)) way) →
    r ≡ part_rest count n p (retries (Some p)) (rests count (suc n) (drop n parts)) →
    (way : Option ℕ) → rest_told (set table i r) way ≡ rest_among (rests count (suc i) (drop i parts)) way
told_step count n i parts p table r e within is h told rest None = refl
told_step count n i parts p table r e within is h told rest (Some k) =
    let cut : drop i parts ≡ p ∷ drop n parts = drop-cons parts i p within ∙ ap (λ q. q ∷ drop (suc i) parts) (sym is) ∙ ap (λ m. p ∷ drop m parts) (sym e) in
    rest_told-set table i r (Some k) h
    ∙ ap (λ s. if suc i == k then s else rest_told table (Some k)) rest
    ∙ ap (λ s. if suc i == k then part_rest count n p (retries (Some p)) (rests count (suc n) (drop n parts)) else s) (told (Some k))
    ∙ ap (λ m. if suc i == k then part_rest count m p (retries (Some p)) (rests count (suc m) (drop n parts)) else rest_among (rests count (suc m) (drop n parts)) (Some k)) e
    ∙ ap (λ ps. rest_among (rests count (suc i) ps) (Some k)) (sym cut)

pub small_step : (bound more i : ℕ) (table : List ℕ) (r : ℕ) → i < length table → ((way : Option ℕ) → rest_told table way ≤ bound) → r ≤ more → bound ≤ more →
    (way : Option ℕ) → rest_told (set table i r) way ≤ more
small_step bound more i table r h small le up way = rw (rest_told-set table i r way h) (by way)
  where
    by : (way : Option ℕ) → told_or i r table way ≤ more
    by None = omega arith
    by (Some k) = within (suc i == k) (small (Some k))
      where
        within : (b : Bool) → rest_told table (Some k) ≤ bound → cond b r (rest_told table (Some k)) ≤ more
        within true s = le
        within false s = omega arith

-- by no more than as many statements as a part may have, as often as it may be tried
pub part_adds : (n t a b bound : ℕ) → n ≤ 64 → t < 256 → a ≤ bound → b ≤ bound → n * (t + 1) + max a b ≤ bound + 16384
part_adds n t a b bound few tries ha hb =
    let product : n * (t + 1) ≤ n * 256 = mul-le-mul_left n (omega arith) in
    let ways : max a b ≤ bound = max-le ha hb in
    omega (arith, product, ways)

-- where no rest is written
zeros_get : (n j : ℕ) → ◌≡◌ {A = ℕ} (get_or (replicate n 0) j 0) 0
zeros_get zero j = refl
zeros_get (suc n) zero = refl
zeros_get (suc n) (suc j) = zeros_get n j

zeros_told : (n : ℕ) (way : Option ℕ) → rest_told (replicate n 0) way ≡ 0
zeros_told n None = refl
zeros_told n (Some zero) = rest_told-zero (replicate n 0)
zeros_told n (Some (suc j)) = rest_told-get_or (replicate n 0) j ∙ zeros_get n j

none_among : (way : Option ℕ) → rest_among [] way ≡ 0
none_among None = refl
none_among (Some k) = refl

pub zeros_behind_last : (n count k : ℕ) (parts : List PartDef) (way : Option ℕ) →
    rest_told (replicate n 0) way ≡ rest_among (rests count k (drop (length parts) parts)) way
zeros_behind_last n count k parts way =
    zeros_told n way ∙ sym (none_among way) ∙ ap (λ ps. rest_among (rests count k ps) way) (sym (drop-length parts))

pub zeros_small : (n bound : ℕ) (way : Option ℕ) → rest_told (replicate n 0) way ≤ bound
zeros_small n bound way = let none = zeros_told n way in omega (arith, none)

-- the rest of a part by a table that tells of those behind it
pub rest_by_table : (count n m : ℕ) (p : PartDef) (t s : ℕ) (table : List ℕ) (behind : List Rest) (r : ℕ) → m ≡ n → s ≡ t →
    ((way : Option ℕ) → rest_told table way ≡ rest_among behind way) →
    r ≡ length p.block * (s + 1) + max (rest_told table (way_on_commit count m p.then)) (rest_told table (way_on_failure p.on_failure)) →
    r ≡ part_rest count n p t behind
rest_by_table count n m p t s table behind r number tries told is =
    is
    ∙ ap (λ k. length p.block * (s + 1) + max (rest_told table (way_on_commit count k p.then)) (rest_told table (way_on_failure p.on_failure))) number
    ∙ ap (λ k. length p.block * (k + 1) + max (rest_told table (way_on_commit count n p.then)) (rest_told table (way_on_failure p.on_failure))) tries
    ∙ ap (λ k. length p.block * (t + 1) + max k (rest_told table (way_on_failure p.on_failure))) (told (way_on_commit count n p.then))
    ∙ ap (λ k. length p.block * (t + 1) + max (rest_among behind (way_on_commit count n p.then)) k) (told (way_on_failure p.on_failure))
    ∙ sym (part_rest-tries count n p t behind)

-- FROM A POSITION ON.

same_branch : {A : Type 0} (n k : ℕ) (x y : A) → n ≡ k → (if n == k then x else y) ≡ x
same_branch n k x y e = grind (arith, nat_tests)

from_there : (count k i : ℕ) (ps : List PartDef) (at : Position) (p : PartDef) → at.part ≡ k + i → at_number (suc i) ps ≡ Some p →
    rest_from count k ps at ≡ part_rest count at.part p at.tries (rests count (suc at.part) (drop (suc i) ps))
from_there count k i [] at p e is = absurd (cc is)
from_there count k zero (q ∷ qs) at p e is =
    let here : at.part ≡ k = omega (arith, e) in
    let same : q ≡ p = cc is in
    same_branch at.part k (part_rest count k q at.tries (rests count (suc k) qs)) (rest_from count (suc k) qs at) here
    ∙ ap (λ m. part_rest count m q at.tries (rests count (suc m) qs)) (sym here)
    ∙ ap (λ s. part_rest count at.part s at.tries (rests count (suc at.part) qs)) same
from_there count k (suc i) (q ∷ qs) at p e is =
    other_branch at.part k (part_rest count k q at.tries (rests count (suc k) qs)) (rest_from count (suc k) qs at) (λ same. omega (arith, e, same))
    ∙ from_there count (suc k) i qs at p (omega (arith, e)) is

from_nowhere : (count k i : ℕ) (ps : List PartDef) (at : Position) → at.part ≡ k + i → at_number (suc i) ps ≡ None → rest_from count k ps at ≡ 0
from_nowhere count k i [] at e is = refl
from_nowhere count k zero (q ∷ qs) at e is = absurd (cc is)
from_nowhere count k (suc i) (q ∷ qs) at e is =
    other_branch at.part k (part_rest count k q at.tries (rests count (suc k) qs)) (rest_from count (suc k) qs at) (λ same. omega (arith, e, same))
    ∙ from_nowhere count (suc k) i qs at (omega (arith, e)) is

from_before : (count k : ℕ) (ps : List PartDef) (at : Position) → at.part < k → rest_from count k ps at ≡ 0
from_before count k [] at h = refl
from_before count k (q ∷ qs) at h =
    other_branch at.part k (part_rest count k q at.tries (rests count (suc k) qs)) (rest_from count (suc k) qs at) (λ same. omega (arith, h, same))
    ∙ from_before count (suc k) qs at (omega (arith, h))

-- the rest from a part that is there
pub rest_there : (count n : ℕ) (parts : List PartDef) (at : Position) (p : PartDef) → at.part ≡ n → at_number n parts ≡ Some p →
    rest_from count 1 parts at ≡ part_rest count at.part p at.tries (rests count (suc at.part) (drop at.part parts))
rest_there count zero parts at p e is = absurd (no_part_zero parts p is)
rest_there count (suc i) parts at p e is =
    from_there count 1 i parts at p (omega (arith, e)) is
    ∙ ap (λ m. part_rest count at.part p at.tries (rests count (suc at.part) (drop m parts))) (sym e)

-- from one that is not
pub rest_nowhere : (count n : ℕ) (parts : List PartDef) (at : Position) → at.part ≡ n → at_number n parts ≡ None → rest_from count 1 parts at ≡ 0
rest_nowhere count zero parts at e is = from_before count 1 parts at (omega (arith, e))
rest_nowhere count (suc i) parts at e is = from_nowhere count 1 i parts at (omega (arith, e)) is
