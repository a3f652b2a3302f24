-- Numbers that are left, moved to the front one after another.
use Rattle.salt_locks.proofs.Puts.{numbers_left}
use Rattle.salt_model.specs.declared.locks.Lock.{Lock}
use Rattle.std.proofs.Common.{ap, arith, refl, sym, ◌∙◌}
use Rattle.std.proofs.lemmas.List.{length-set}
use Rattle.std.specs.Prelude.{Bool, List, [], drop, false, get_or, length, set, suc, take, true, zero, ℕ, ◌+◌, ◌++◌, ◌<◌, ◌∷◌, ◌≡◌, ◌≤◌}

drop_at : {X : Type 0} (xs : List X) (at : ℕ) (d : X) → at < length xs → drop at xs ≡ get_or xs at d ∷ drop (suc at) xs
drop_at [] at d h = absurd (omega (arith, h))
drop_at (x ∷ xs) zero d h = refl
drop_at (x ∷ xs) (suc at) d h = drop_at xs at d (omega (arith, h))

take_set : {X : Type 0} (xs : List X) (k : ℕ) (x : X) → k < length xs → take (suc k) (set xs k x) ≡ take k xs ++ x ∷ []
take_set [] k x h = absurd (omega (arith, h))
take_set (y ∷ ys) zero x h = refl
take_set (y ∷ ys) (suc k) x h = ap (λ l. y ∷ l) (take_set ys k x (omega (arith, h)))

drop_set : {X : Type 0} (xs : List X) (k at : ℕ) (x : X) → k ≤ at → drop (suc at) (set xs k x) ≡ drop (suc at) xs
drop_set [] k at x h = refl
drop_set (y ∷ ys) zero at x h = refl
drop_set (y ∷ ys) (suc k) zero x h = absurd (omega (arith, h))
drop_set (y ∷ ys) (suc k) (suc at) x h = drop_set ys k at x (omega (arith, h))

pushed : {X : Type 0} (xs ys : List X) (x : X) → (xs ++ x ∷ []) ++ ys ≡ xs ++ x ∷ ys
pushed [] ys x = refl
pushed (y ∷ xs) ys x = ap (λ l. y ∷ l) (pushed xs ys x)

one_left : (out : Lock → Bool) (n : ℕ) (ns : List ℕ) (l : Lock) (ls : List Lock) → out l ≡ false → numbers_left out (n ∷ ns) (l ∷ ls) ≡ n ∷ numbers_left out ns ls
one_left out n ns l ls e = rw e refl

one_gone : (out : Lock → Bool) (n : ℕ) (ns : List ℕ) (l : Lock) (ls : List Lock) → out l ≡ true → numbers_left out (n ∷ ns) (l ∷ ls) ≡ numbers_left out ns ls
one_gone out n ns l ls e = rw e refl

-- the numbers that were moved so far, and those that are still to be
abbrev pub moved : (Lock → Bool) → List Lock → ℕ → ℕ → List ℕ → List ℕ
moved out ls kept at ns = take kept ns ++ numbers_left out (drop at ns) (drop at ls)

next_of : (at : ℕ) → at + 1 ≡ suc at
next_of at = omega arith

head_of : (out : Lock → Bool) (ls : List Lock) (at : ℕ) (ns : List ℕ) (n : ℕ) (l : Lock) → at < length ns → at < length ls →
    numbers_left out (drop at ns) (drop at ls) ≡ numbers_left out (get_or ns at n ∷ drop (suc at) ns) (get_or ls at l ∷ drop (suc at) ls)
head_of out ls at ns n l h k = ap (λ xs. numbers_left out xs (drop at ls)) (drop_at ns at n h) ∙ ap (numbers_left out (get_or ns at n ∷ drop (suc at) ns)) (drop_at ls at l k)

pub moves_one : (out : Lock → Bool) (ls : List Lock) (kept at : ℕ) (ns : List ℕ) (n : ℕ) (l : Lock) → kept ≤ at → at < length ls → length ns ≡ length ls →
    out (get_or ls at l) ≡ false → moved out ls (kept + 1) (at + 1) (set ns kept (get_or ns at n)) ≡ moved out ls kept at ns
moves_one out ls kept at ns n l below h same other =
    let x = get_or ns at n in
    let new = set ns kept x in
    ap (λ k. moved out ls k (at + 1) new) (next_of kept) ∙ (ap (λ k. moved out ls (suc kept) k new) (next_of at)
    ∙ (ap (λ xs. take (suc kept) new ++ numbers_left out xs (drop (suc at) ls)) (drop_set ns kept at x below)
    ∙ (ap (λ xs. xs ++ numbers_left out (drop (suc at) ns) (drop (suc at) ls)) (take_set ns kept x (omega (arith, below, h, same)))
    ∙ (pushed (take kept ns) (numbers_left out (drop (suc at) ns) (drop (suc at) ls)) x
    ∙ ap (λ xs. take kept ns ++ xs) (sym (head_of out ls at ns n l (omega (arith, h, same)) h ∙ one_left out x (drop (suc at) ns) (get_or ls at l) (drop (suc at) ls) other))))))

pub skips_one : (out : Lock → Bool) (ls : List Lock) (kept at : ℕ) (ns : List ℕ) (l : Lock) → at < length ls → length ns ≡ length ls →
    out (get_or ls at l) ≡ true → moved out ls kept (at + 1) ns ≡ moved out ls kept at ns
skips_one out ls kept at ns l h same own =
    ap (λ k. moved out ls kept k ns) (next_of at)
    ∙ ap (λ xs. take kept ns ++ xs) (sym (head_of out ls at ns 0 l (omega (arith, h, same)) h ∙ one_gone out (get_or ns at 0) (drop (suc at) ns) (get_or ls at l) (drop (suc at) ls) own))

-- what the loop keeps, where a number was moved
pub then_step : (out : Lock → Bool) (ls : List Lock) (whole : List ℕ) (kept at : ℕ) (ns : List ℕ) (x : ℕ) (l : Lock) → kept ≤ at → at < length ls → length ns ≡ length ls →
    moved out ls kept at ns ≡ whole → x ≡ get_or ns at x → out (get_or ls at l) ≡ false →
    (k : ℕ) (new : List ℕ) → k ≡ kept + 1 → new ≡ set ns kept x → (k ≤ at + 1) × (at + 1 ≤ length ls) × (length new ≡ length ls) × (moved out ls k (at + 1) new ≡ whole)
then_step out ls whole kept at ns x l below h same all is other k new e f = (
  omega (arith, below, e),
  omega (arith, h),
  ap length f ∙ (length-set ns kept x ∙ same),
  ap (λ i. moved out ls i (at + 1) new) e ∙ (ap (moved out ls (kept + 1) (at + 1)) (f ∙ ap (set ns kept) is) ∙ (moves_one out ls kept at ns x l below h same other ∙ all)),
)

-- and where one was not
pub else_step : (out : Lock → Bool) (ls : List Lock) (whole : List ℕ) (kept at : ℕ) (ns : List ℕ) (l : Lock) → kept ≤ at → at < length ls → length ns ≡ length ls →
    moved out ls kept at ns ≡ whole → out (get_or ls at l) ≡ true →
    (k : ℕ) (new : List ℕ) → k ≡ kept → new ≡ ns → (k ≤ at + 1) × (at + 1 ≤ length ls) × (length new ≡ length ls) × (moved out ls k (at + 1) new ≡ whole)
else_step out ls whole kept at ns l below h same all own k new e f = (
  omega (arith, below, e),
  omega (arith, h),
  ap length f ∙ same,
  ap (λ i. moved out ls i (at + 1) new) e ∙ (ap (moved out ls kept (at + 1)) f ∙ (skips_one out ls kept at ns l h same own ∙ all)),
)
