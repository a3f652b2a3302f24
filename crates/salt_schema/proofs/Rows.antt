-- Values for the columns of a row.
use Rattle.salt_ast.specs.Judgement.{are_row, takes}
use Rattle.salt_ast.specs.declared.trees.Expr.{Expr}
use Rattle.salt_ast.specs.declared.trees.Field.{Field}
use Rattle.std.proofs.Common.{Bool, List, [], ap, false, length, refl, suc, true, ◌&&◌, ◌∷◌, ◌≡◌, ◌≢◌}

-- as many as there are columns
pub are_row-length : (fs : List Field) (variables : List Field) (es : List Expr) → length fs ≢ length es → false ≡ are_row fs variables es
are_row-length [] variables [] h = absurd (h refl)
are_row-length [] variables (e ∷ es) h = refl
are_row-length (f ∷ fs) variables [] h = refl
are_row-length (f ∷ fs) variables (e ∷ es) h = by (takes [] variables f e) (are_row-length fs variables es (λ same. h (ap (λ n. suc n) same)))
  where
    by : (b : Bool) → false ≡ are_row fs variables es → false ≡ (b && are_row fs variables es)
    by true rest = rest
    by false rest = refl
