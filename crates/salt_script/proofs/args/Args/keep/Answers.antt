use Rattle.std.proofs.Common.{List, Option, [], ap, subst, sym, ◌++◌, ◌∙◌, ◌∷◌, ◌≡◌}
use Rattle.std.specs.Option.{option_or}
use Rattle.salt_ast.specs.Limits.{value_passed}
use Rattle.salt_ast.specs.Words.{first_in}
use Rattle.salt_ast.specs.declared.limit.LimitName.{LimitName}
use Rattle.salt_script.proofs.Keeping.{first_behind, holds_limit, holds_whole, limit_is, on_ok, whole_is}
use Rattle.salt_script.proofs.args.Args.keep.Goals as goal
use Rattle.salt_script.specs.Literals.{HoldsList, IsValueOf}
use Rattle.salt_values.specs.declared.value.Value.{Value}

-- the limits of those that were read, and of one more
joined : (vs : List Value) (w : Value) {o p : Option LimitName} → first_in value_passed vs ≡ o → value_passed w ≡ p →
    first_in value_passed (vs ++ w ∷ []) ≡ option_or o p
joined vs w h k = first_behind value_passed vs w ∙ (λ t. option_or (h t) (k t))

pub returns-in-Some-default-clause-holds : goal.returns-in-Some-default-clause-holds
returns-in-Some-default-clause-holds c = λ vs w h is.
    subst (λ (p : Option LimitName). HoldsList (first_in value_passed) p c.args.self.now.row (vs ++ w ∷ [])) (sym c.in-Some-default.is-0)
    (holds_limit (first_in value_passed) c.args.self.now.row (vs ++ w ∷ []) c.in-Some-default._limit
    (first_behind value_passed vs w ∙ ap (λ (o : Option LimitName). option_or o (value_passed w)) (limit_is (first_in value_passed) h c.in-Some-default.is-0)))

pub returns-in-None-Err-clause-holds : goal.returns-in-None-Err-clause-holds
returns-in-None-Err-clause-holds c = λ vs w h is.
    holds_limit (first_in value_passed) c.args.self.now.row (vs ++ w ∷ []) c.in-None-Err.limit
    (joined vs w (limit_is (first_in value_passed) h c.in-None-Err.is-0) (subst (λ r. IsValueOf r w) c.in-None-Err.is-1 is))

pub returns-in-None-Ok-clause-holds : goal.returns-in-None-Ok-clause-holds
returns-in-None-Ok-clause-holds c = on_ok c.push.result
    (λ grown vs w h is. (
    let value = subst (λ r. IsValueOf r w) c.in-None-Ok.is-1 is in
    holds_whole (first_in value_passed) c.args.self.now.passed c.push.new.self (vs ++ w ∷ []) c.in-None-Ok.is-0
    (joined vs w (limit_is (first_in value_passed) h c.in-None-Ok.is-0) value.1)
    (grown ∙ (λ t. whole_is (first_in value_passed) h c.in-None-Ok.is-0 t ++ value.0 t ∷ [])))) c.push.ensures.ok
