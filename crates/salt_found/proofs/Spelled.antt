-- The tree that a text spells is that whose canonical text it is, or there is none.
use Rattle.salt_ast.specs.Spelling.{Passes, Spells, by_parentheses, by_tree}
use Rattle.salt_ast.specs.declared.limit.LimitName.{LimitName}
use Rattle.salt_ast.specs.TokenSpelling.{same_bytes}
use Rattle.salt_ast.specs.Symbols.{Symbols, symbols_of}
use Rattle.std.proofs.Common.{Bool, List, None, Option, [], ap, arith, eqb, false, refl, subst, sym, true, ℕ, ◌&&◌, ◌≡◌, ◌∙◌, ◌∷◌}
use Rattle.std.proofs.lemmas.Bool.{eqb-true}

pub same_is : (xs ys : List ℕ) → same_bytes xs ys ≡ true → xs ≡ ys
same_is [] [] h = refl
same_is [] (y ∷ ys) h = absurd cc
same_is (x ∷ xs) [] h = absurd cc
same_is (x ∷ xs) (y ∷ ys) h = go (eqb x y) refl (same_is xs ys) h
  where
    go : (t : Bool) → eqb x y ≡ t → (same_bytes xs ys ≡ true → xs ≡ ys) → (t && same_bytes xs ys) ≡ true → x ∷ xs ≡ y ∷ ys
    go true e ih h = let one : x ≡ y = eqb-true x y e in let rest = ih h in cc
    go false e ih h = absurd cc

same_self : (xs : List ℕ) → same_bytes xs xs ≡ true
same_self [] = refl
same_self (x ∷ xs) = ap (λ b. b && same_bytes xs xs) (eqb_same x) ∙ same_self xs
  where
    eqb_same : (n : ℕ) → eqb n n ≡ true
    eqb_same n = grind arith

pub other_is : (xs ys : List ℕ) → same_bytes xs ys ≡ false → xs ≡ ys → ⊥
other_is xs ys h e = let same : same_bytes xs ys ≡ true = ap (same_bytes xs) (sym e) ∙ same_self xs in cc

-- of trees of one kind: what spells them within the limit on parentheses and beyond, and their canonical texts
module _ {A : Type 0} (limit_of : A → Option LimitName) (Shallow Deep : Symbols → A → Type 0) (text_of : A → List ℕ)
    (deepens : (ts : Symbols) (x : A) → Shallow ts x → Deep ts x)
    (one : (bytes : List ℕ) (a b : A) → Spells Deep bytes a → Spells Deep bytes b → a ≡ b)
    (canonical : (bytes : List ℕ) (x : A) → Spells Deep bytes x → limit_of x ≡ None → Spells Shallow (text_of x) x)
    (text : List ℕ) where
  pub deep : (x : A) → Spells Shallow text x → Spells Deep text x
  deep x s = record { tokens = s.tokens; lexes = s.lexes; spelled = deepens (symbols_of s.tokens) x s.spelled }

  -- some bytes spell this tree, which passes no limit, and the text is its canonical one
  module _ (x : A) (bytes : List ℕ) (spells : Spells Deep bytes x) (within : limit_of x ≡ None) (same : text ≡ text_of x) where
    shallow : Spells Shallow text x
    shallow = subst (λ t. Spells Shallow t x) (sym same) (canonical bytes x spells within)

    pub no_other : (y : A) → Spells Shallow text y → (text ≡ text_of y → ⊥) → ⊥
    no_other y s other =
        let is : y ≡ x = one text y x (deep y s) (deep x shallow) in
        other (same ∙ ap text_of (sym is))

    pub no_limit : (y : A) (l : LimitName) → Spells Deep text y → Passes (limit_of y) (Spells Shallow text y) l → ⊥
    no_limit y l s p =
        let is : y ≡ x = one text y x s (deep x shallow) in
        passes l (subst (λ z. Passes (limit_of z) (Spells Shallow text z) l) is p)
      where
        passes : (l : LimitName) → Passes (limit_of x) (Spells Shallow text x) l → ⊥
        passes l (by_tree e) = let none = within in cc
        passes l (by_parentheses e n) = n shallow

    pub no_syntax : ((y : A) → Spells Deep text y → ⊥) → ⊥
    no_syntax none = none x (deep x shallow)
