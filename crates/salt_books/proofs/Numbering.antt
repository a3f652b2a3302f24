-- One more program, and one more table, is looked at.
use Rattle.salt_ast.specs.declared.trees.TableDef.{TableDef}
use Rattle.salt_model.specs.Locks.{numbers_from}
use Rattle.std.proofs.Common.{ap, arith, drop_of_length-le, refl, sym, ◌∙◌}
use Rattle.std.specs.List.{list_any}
use Rattle.std.specs.Option.{option_map_or}
use Rattle.std.specs.Prelude.{Bool, List, [], drop, false, if◌then◌else◌, length, slice_get, suc, true, zero, ℕ, ◌+◌, ◌++◌, ◌||◌, ◌∷◌, ◌≡◌, ◌≤◌}

-- ANY

any_step : {A : Type 0} (test : A → Bool) (xs : List A) (i : ℕ) →
    list_any test (drop i xs) ≡ (option_map_or test (slice_get xs i) false || list_any test (drop (suc i) xs))
any_step test [] zero = refl
any_step test [] (suc i) = refl
any_step test (x ∷ xs) zero = refl
any_step test (x ∷ xs) (suc i) = any_step test xs i

-- one of those from here on passes where this one does, or one behind it
any_from : {A : Type 0} (test : A → Bool) (xs : List A) (i : ℕ) →
    list_any test (drop i xs) ≡ (option_map_or test (slice_get xs i) false || list_any test (drop (i + 1) xs))
any_from test xs i =
    let next : suc i ≡ i + 1 = omega arith in
    any_step test xs i ∙ ap (λ n. option_map_or test (slice_get xs i) false || list_any test (drop n xs)) next

pub any_here : {A : Type 0} (test : A → Bool) (xs : List A) (i : ℕ) → list_any test xs ≡ list_any test (drop i xs) →
    option_map_or test (slice_get xs i) false ≡ true → list_any test xs ≡ true
any_here test xs i so_far here =
    so_far ∙ any_from test xs i ∙ ap (λ t. t || list_any test (drop (i + 1) xs)) here

pub any_behind : {A : Type 0} (test : A → Bool) (xs : List A) (i : ℕ) → list_any test xs ≡ list_any test (drop i xs) →
    option_map_or test (slice_get xs i) false ≡ false → list_any test xs ≡ list_any test (drop (i + 1) xs)
any_behind test xs i so_far here =
    so_far ∙ any_from test xs i ∙ ap (λ t. t || list_any test (drop (i + 1) xs)) here

pub none_behind : {A : Type 0} (test : A → Bool) (xs : List A) (i : ℕ) → list_any test xs ≡ list_any test (drop i xs) → length xs ≤ i → list_any test xs ≡ false
none_behind test xs i so_far end = so_far ∙ ap (list_any test) (drop_of_length-le xs end)

-- NUMBERS

numbers_step : (n : ℕ) (test : TableDef → Bool) (xs : List TableDef) (i : ℕ) →
    numbers_from n test (drop i xs)
    ≡ (if option_map_or test (slice_get xs i) false then n ∷ numbers_from (n + 1) test (drop (suc i) xs) else numbers_from (n + 1) test (drop (suc i) xs))
numbers_step n test [] zero = refl
numbers_step n test [] (suc i) = refl
numbers_step n test (x ∷ xs) zero = refl
numbers_step n test (x ∷ xs) (suc i) = numbers_step n test xs i

behind : (xs : List ℕ) (x : ℕ) (ys : List ℕ) → xs ++ x ∷ ys ≡ (xs ++ x ∷ []) ++ ys
behind [] x ys = refl
behind (z ∷ zs) x ys = ap (λ l. z ∷ l) (behind zs x ys)

numbers_added : (t : Bool) (old : List ℕ) (n : ℕ) (rest : List ℕ) →
    old ++ (if t then n ∷ rest else rest) ≡ (if t then old ++ n ∷ [] else old) ++ rest
numbers_added true old n rest = behind old n rest
numbers_added false old n rest = refl

pub numbers_more : (test : TableDef → Bool) (xs : List TableDef) (i : ℕ) (t : Bool) (old new all : List ℕ) →
    all ≡ old ++ numbers_from i test (drop i xs) → t ≡ option_map_or test (slice_get xs i) false →
    new ≡ (if t then old ++ i ∷ [] else old) → all ≡ new ++ numbers_from (i + 1) test (drop (i + 1) xs)
numbers_more test xs i t old new all so_far is added =
    let next : suc i ≡ i + 1 = omega arith in
    so_far
    ∙ (ap (λ l. old ++ l) (numbers_step i test xs i)
    ∙ (ap (λ s. old ++ (if s then i ∷ numbers_from (i + 1) test (drop (suc i) xs) else numbers_from (i + 1) test (drop (suc i) xs))) (sym is)
    ∙ (numbers_added t old i (numbers_from (i + 1) test (drop (suc i) xs))
    ∙ (ap (λ l. l ++ numbers_from (i + 1) test (drop (suc i) xs)) (sym added)
    ∙ ap (λ k. new ++ numbers_from (i + 1) test (drop k xs)) next))))

pub numbers_all : (test : TableDef → Bool) (xs : List TableDef) (i : ℕ) (numbers all : List ℕ) →
    all ≡ numbers ++ numbers_from i test (drop i xs) → length xs ≤ i → numbers ++ [] ≡ all
numbers_all test xs i numbers all so_far end = sym (so_far ∙ ap (λ l. numbers ++ numbers_from i test l) (drop_of_length-le xs end))
