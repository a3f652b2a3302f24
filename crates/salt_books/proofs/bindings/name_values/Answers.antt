use Rattle.salt_ast.specs.declared.trees.Field.{Field}
use Rattle.salt_model.specs.Eval.{named_values}
use Rattle.salt_books.proofs.bindings.name_values.Goals as goal
use Rattle.salt_values.specs.declared.value.Value.{Value}
use Rattle.std.proofs.Common.{List, [], ap, append-nil, arith, drop, length, refl, suc, sym, zero, ℕ, ◌++◌, ◌∙◌, ◌∷◌, ◌≡◌, ◌≤◌}

no-values : (fs : List Field) → named_values fs [] ≡ []
no-values [] = refl
no-values (f ∷ fs) = refl

none-behind : (fs : List Field) (vs : List Value) (at : ℕ) → length vs ≤ at → named_values fs (drop at vs) ≡ []
none-behind fs [] zero h = no-values fs
none-behind fs [] (suc at) h = no-values fs
none-behind fs (v ∷ vs) zero h = absurd (omega arith)
none-behind fs (v ∷ vs) (suc at) h = none-behind fs vs at (omega arith)

pub returns-else-at-values : goal.returns-else-at-values
returns-else-at-values c =
    sym (ap (λ l. c.loop-at.vars ++ l) (none-behind (drop c.loop-at.at c.args.fields.now) c.args.values.now c.loop-at.at c.if-at-values.false)
    ∙ append-nil c.loop-at.vars)
    ∙ c.loop-at.invariant.so_far
