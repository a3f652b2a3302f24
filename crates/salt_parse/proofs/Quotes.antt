-- A text without a quote stands for itself.
use Rattle.salt_ast.specs.Words.{is_no_quote}
use Rattle.salt_ast.specs.Symbols.{undoubled}
use Rattle.std.proofs.Common.{Bool, List, [], ap, cond, eqb, false, not, refl, true, ℕ, ◌&&◌, ◌≡◌, ◌∷◌}
use Rattle.std.specs.List.{list_all}

pub plain_text : (bs : List ℕ) → list_all is_no_quote bs ≡ true → undoubled bs ≡ bs
plain_text [] h = refl
plain_text (b ∷ []) h = refl
plain_text (b ∷ c ∷ cs) h = go (eqb b 39) (plain_text (c ∷ cs)) h
  where
    go : (t : Bool) → (list_all is_no_quote (c ∷ cs) ≡ true → undoubled (c ∷ cs) ≡ c ∷ cs) → (not t && list_all is_no_quote (c ∷ cs)) ≡ true → cond t (b ∷ undoubled cs) (b ∷ undoubled (c ∷ cs)) ≡ b ∷ c ∷ cs
    go true ih h = absurd cc
    go false ih h = ap (λ (l : List ℕ). b ∷ l) (ih h)
