use Rattle.salt_conflicts.proofs.waiters.leave.Goals as goal
use Rattle.salt_conflicts.specs.Waiters.{is_another, is_this}
use Rattle.salt_conflicts.specs.declared.waiters.Waiter.{Waiter}
use Rattle.salt_values.specs.declared.id.Id.{Id}
use Rattle.std.proofs.Common.{List, ap, cond, not, refl, rules, sym, ◌∙◌, ◌≡◌}
use Rattle.std.proofs.lemmas.Fn.{filter_same}
use Rattle.std.specs.List.{filter, list_any}
use Rattle.std.specs.Prelude.{Bool, [], false, true, ◌||◌, ◌∷◌}

-- where the unit does not wait all stay
all-stay : (u : Id) (ws : List Waiter) → list_any (is_this u) ws ≡ false → ws ≡ filter (is_another u) ws
all-stay u [] h = refl
all-stay u (w ∷ ws) h = by (is_this u w) h (all-stay u ws)
  where
    by : (b : Bool) → (b || list_any (is_this u) ws) ≡ false → (list_any (is_this u) ws ≡ false → ws ≡ filter (is_another u) ws) →
        w ∷ ws ≡ cond (not b) (w ∷ filter (is_another u) ws) (filter (is_another u) ws)
    by true e ih = cc
    by false e ih = ap (λ l. w ∷ l) (ih e)

pub returns-then-is_waiting : goal.returns-then-is_waiting
returns-then-is_waiting c = filter_same _ _ _ (λ x b f' k. search rules) _ _ c.retain.ensures.filtered

pub returns-else-is_waiting : goal.returns-else-is_waiting
returns-else-is_waiting c =
    let u = c.args.unit in
    all-stay u c.args.waits.now.items (ap (list_any (is_this u)) (sym c.as_slice.ensures.value) ∙ (sym c.is_waiting.ensures ∙ c.if-is_waiting.false))
