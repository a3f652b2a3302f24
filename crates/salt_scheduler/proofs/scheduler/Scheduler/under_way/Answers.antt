use Rattle.salt_scheduler.proofs.scheduler.Scheduler.under_way.Goals as goal
use Rattle.salt_values.specs.Id.{in_order}
use Rattle.salt_values.specs.declared.id.Id.{Id}
use Rattle.std.proofs.Common.{List, [], ap, append-nil, arith, length, refl, sym, true, ◌++◌, ◌==◌, ◌∙◌, ◌∷◌, ◌≡◌}
use Rattle.std.proofs.lemmas.Bool.{eqb-true}
use Rattle.std.proofs.lemmas.Result.{IfOk-weaker}

none-in : (xs : List Id) → (length xs == 0) ≡ true → xs ≡ []
none-in [] h = refl
none-in (x ∷ xs) h = let none = eqb-true (length (x ∷ xs)) 0 h in absurd (omega (arith, none))

pub returns-then-is_empty : goal.returns-then-is_empty
returns-then-is_empty c = IfOk-weaker c.programs_in_order.result _ _ (λ bases h s stands.
    let none = none-in c.as_slice.result.now (sym c.is_empty.ensures ∙ c.if-is_empty.true) in
    let first = sym (c.as_slice.ensures.value ∙ c.in_ok-beginning.ensures s.units stands.books) ∙ none in
    h s.watch stands.watch ∙ ap in_order (sym (append-nil s.watch.programs) ∙ ap (λ (l : List Id). s.watch.programs ++ l) (sym first))) c.programs_in_order.ensures
