-- Steps of the loops that print lists.
use Rattle.salt_ast.specs.Texts.{preceded}
use Rattle.salt_ast.proofs.Joins.{◌⨾◌}
use Rattle.salt_ast.specs.Prints.{Prints}
use Rattle.salt_ast.specs.declared.printer.Printer.{Printer}
use Rattle.std.proofs.Common.{List, [], ◌∷◌, ◌++◌, ◌≡◌, ◌+◌, ◌-◌, ◌<◌, ◌≤◌, ℕ, ap, append-nil, append_assoc, arith, drop, get_or, length, refl, subst, take, ◌∙◌, sym}
use Rattle.std.proofs.lemmas.Grind.{flat_map-append}
use Rattle.std.proofs.lemmas.List.{take_all, take_more, take_rest}
use Rattle.std.specs.List.{flat_map}
use Rattle.std.specs.Prelude.{Option}

-- the texts of one more item
pub flat_map-take_more : {A : Type 0} (f : A → List ℕ) (xs : List A) (i : ℕ) (x : A) → i < length xs → x ≡ get_or xs i x → flat_map f (take (i + 1) xs) ≡ flat_map f (take i xs) ++ f x
flat_map-take_more f xs i x within is =
    ap (flat_map f) (take_more xs i x within) ∙ flat_map-append f (take i xs) (get_or xs i x ∷ []) ∙ ap (λ l. flat_map f (take i xs) ++ l) (append-nil (f (get_or xs i x)) ∙ ap f (sym is))

pub Prints-more : {K A : Type 0} {held : K → Option (List ℕ)} {faults : K → ℕ} (f : A → List ℕ) (xs : List A) (i : ℕ) (x : A) {s t v : Printer K}
    → i < length xs → x ≡ get_or xs i x → Prints held faults s t (flat_map f (take i xs)) → Prints held faults t v (f x) → Prints held faults s v (flat_map f (take (i + 1) xs))
Prints-more {held = held} {faults = faults} f xs i x {s = s} {v = v} within is first second =
    subst (Prints held faults s v) (sym (flat_map-take_more f xs i x within is)) (first ⨾ second)

-- items with bytes before each are each one's bytes and text
pub preceded-flat : {A : Type 0} (before : List ℕ) (f : A → List ℕ) (xs : List A) → preceded before f xs ≡ flat_map (λ x. before ++ f x) xs
preceded-flat before f [] = refl
preceded-flat before f (x ∷ xs) = ap (λ l. before ++ (f x ++ l)) (preceded-flat before f xs) ∙ sym (append_assoc before (f x) (flat_map (λ y. before ++ f y) xs))

-- the others, as a slice pattern binds them
pub others_are : {A : Type 0} (xs : List A) (x : A) → 1 ≤ length xs → x ≡ get_or xs 0 x → xs ≡ x ∷ take (length xs - 1) (drop 1 xs)
others_are [] x some is = absurd (omega arith)
others_are (y ∷ ys) x some is = ap (λ z. z ∷ ys) (sym is) ∙ ap (λ l. x ∷ l) (sym (take_rest (y ∷ ys) 1))

-- all items have been taken
pub preceded-taken : {A : Type 0} (before : List ℕ) (f : A → List ℕ) (xs : List A) (i : ℕ) → length xs ≤ i → preceded before f xs ≡ flat_map (λ x. before ++ f x) (take i xs)
preceded-taken before f xs i past = preceded-flat before f xs ∙ ap (flat_map (λ x. before ++ f x)) (sym (take_all i xs past))
