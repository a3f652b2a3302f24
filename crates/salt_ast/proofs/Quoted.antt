-- A text's bytes one after the other, as a loop goes over them.
use Rattle.std.proofs.Common.{◌≡◌, ◌≢◌, ℕ, suc, ◌+◌, ◌<◌, ◌≤◌, Bool, true, false, cond, eqb, List, [], ◌∷◌, length, get_or, drop, Option, Some, None, refl, sym, ap, ◌∙◌, arith, add-one, drop-cons}
use Rattle.std.proofs.Math.ListN.{drop_of_length-le}
use Rattle.std.proofs.lemmas.Bool.{eq-eqb, ne_eqb}
use Rattle.std.proofs.lemmas.List.Sums.{prefix_len-le-length}
use Rattle.salt_ast.specs.Bytes.{is_printable}
use Rattle.salt_ast.specs.Scanning.{more, quoted_at}

more-more : (i : ℕ) (o : Option ℕ) → more i (more 1 o) ≡ more (i + 1) o
more-more i None = refl
more-more i (Some n) = ap (λ (k : ℕ). Some k) (omega arith)

pub front : (i : ℕ) (xs : List ℕ) → i < length xs → drop i xs ≡ get_or xs i 0 ∷ drop (i + 1) xs
front i xs lt = rw (add-one, drop-cons xs i 0) refl

past : (i : ℕ) (xs : List ℕ) → length xs ≤ i → drop i xs ≡ []
past i xs le = drop_of_length-le xs le

pub quote_ends : (i : ℕ) (xs : List ℕ) (total : Option ℕ) → i < length xs → get_or xs i 0 ≡ 39 → more i (quoted_at true (drop i xs)) ≡ total → more (i + 1) (quoted_at false (drop (i + 1) xs)) ≡ total
unfolding quoted_at
quote_ends i xs total lt is h =
    let b : eqb (get_or xs i 0) 39 ≡ true = eq-eqb _ _ is in
    let one : more i (quoted_at true (drop i xs)) ≡ more (i + 1) (quoted_at false (drop (i + 1) xs)) = ap (λ (x : List ℕ). more i (quoted_at true x)) (front i xs lt) ∙ rw b (more-more i _) in
    sym one ∙ h

pub quote_comes : (i : ℕ) (xs : List ℕ) (total : Option ℕ) → i < length xs → get_or xs i 0 ≡ 39 → more i (quoted_at false (drop i xs)) ≡ total → more (i + 1) (quoted_at true (drop (i + 1) xs)) ≡ total
unfolding quoted_at
quote_comes i xs total lt is h =
    let b : eqb (get_or xs i 0) 39 ≡ true = eq-eqb _ _ is in
    let one : more i (quoted_at false (drop i xs)) ≡ more (i + 1) (quoted_at true (drop (i + 1) xs)) = ap (λ (x : List ℕ). more i (quoted_at false x)) (front i xs lt) ∙ rw b (more-more i _) in
    sym one ∙ h

pub byte_comes : (i : ℕ) (xs : List ℕ) (total : Option ℕ) → i < length xs → get_or xs i 0 ≢ 39 → is_printable (get_or xs i 0) ≡ true → more i (quoted_at false (drop i xs)) ≡ total → more (i + 1) (quoted_at false (drop (i + 1) xs)) ≡ total
unfolding quoted_at
byte_comes i xs total lt is p h =
    let b : eqb (get_or xs i 0) 39 ≡ false = ne_eqb _ _ is in
    let one : more i (quoted_at false (drop i xs)) ≡ more (i + 1) (quoted_at false (drop (i + 1) xs)) = ap (λ (x : List ℕ). more i (quoted_at false x)) (front i xs lt) ∙ rw (b, p) (more-more i _) in
    sym one ∙ h

pub text_ends : (i : ℕ) (xs : List ℕ) (total : Option ℕ) → i < length xs → get_or xs i 0 ≢ 39 → more i (quoted_at true (drop i xs)) ≡ total → Some i ≡ total
unfolding quoted_at
text_ends i xs total lt is h =
    let b : eqb (get_or xs i 0) 39 ≡ false = ne_eqb _ _ is in
    let one : more i (quoted_at true (drop i xs)) ≡ Some i = ap (λ (x : List ℕ). more i (quoted_at true x)) (front i xs lt) ∙ rw b (ap (λ (k : ℕ). Some k) (omega arith)) in
    sym one ∙ h

pub byte_bad : (i : ℕ) (xs : List ℕ) (total : Option ℕ) → i < length xs → get_or xs i 0 ≢ 39 → is_printable (get_or xs i 0) ≡ false → more i (quoted_at false (drop i xs)) ≡ total → None ≡ total
unfolding quoted_at
byte_bad i xs total lt is p h =
    let b : eqb (get_or xs i 0) 39 ≡ false = ne_eqb _ _ is in
    let one : more i (quoted_at false (drop i xs)) ≡ None = ap (λ (x : List ℕ). more i (quoted_at false x)) (front i xs lt) ∙ rw (b, p) refl in
    sym one ∙ h

pub all_ends : (i : ℕ) (xs : List ℕ) (total : Option ℕ) → i ≡ length xs → more i (quoted_at true (drop i xs)) ≡ total → Some (length xs) ≡ total
unfolding quoted_at
all_ends i xs total is h =
    let one : more i (quoted_at true (drop i xs)) ≡ Some (length xs) = ap (λ (x : List ℕ). more i (quoted_at true x)) (past i xs (omega arith)) ∙ ap (λ (k : ℕ). Some k) (omega arith) in
    sym one ∙ h

pub all_bad : (i : ℕ) (xs : List ℕ) (total : Option ℕ) → i ≡ length xs → more i (quoted_at false (drop i xs)) ≡ total → None ≡ total
unfolding quoted_at
all_bad i xs total is h =
    let one : more i (quoted_at false (drop i xs)) ≡ None = ap (λ (x : List ℕ). more i (quoted_at false x)) (past i xs (omega arith)) in
    sym one ∙ h

pub quoted_at-within : (flag : Bool) (bs : List ℕ) (n : ℕ) → quoted_at flag bs ≡ Some n → n ≤ length bs
unfolding quoted_at
quoted_at-within false [] n h = absurd cc
quoted_at-within true [] n h = let e : 0 ≡ n = cc h in omega arith
quoted_at-within false (b ∷ bs) n h = go (eqb b 39) (is_printable b) (quoted_at true bs) (quoted_at false bs) (λ k e. quoted_at-within true bs k e) (λ k e. quoted_at-within false bs k e) h
  where
    go : (p q : Bool) (x y : Option ℕ) → ((k : ℕ) → x ≡ Some k → k ≤ length bs) → ((k : ℕ) → y ≡ Some k → k ≤ length bs) → cond p (more 1 x) (cond q (more 1 y) None) ≡ Some n → n ≤ suc (length bs)
    go true q (Some k) y f g h = let e : k + 1 ≡ n = cc h in omega (arith, f k refl)
    go true q None y f g h = absurd cc
    go false true x (Some k) f g h = let e : k + 1 ≡ n = cc h in omega (arith, g k refl)
    go false true x None f g h = absurd cc
    go false false x y f g h = absurd cc
quoted_at-within true (b ∷ bs) n h = go (eqb b 39) (quoted_at false bs) (λ k e. quoted_at-within false bs k e) h
  where
    go : (p : Bool) (y : Option ℕ) → ((k : ℕ) → y ≡ Some k → k ≤ length bs) → cond p (more 1 y) (Some 0) ≡ Some n → n ≤ suc (length bs)
    go true (Some k) f h = let e : k + 1 ≡ n = cc h in omega (arith, f k refl)
    go true None f h = absurd cc
    go false y f h = let e : 0 ≡ n = cc h in omega arith

pub ruleset lengths = (prefix_len-le-length)
