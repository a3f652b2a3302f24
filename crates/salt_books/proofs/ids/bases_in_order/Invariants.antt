use Rattle.salt_values.specs.Id.{in_order}
use Rattle.salt_books.proofs.ids.bases_in_order.Given as goal
use Rattle.salt_values.specs.declared.cont.Cont.{Cont}
use Rattle.std.proofs.Common.{drop, length, ◌≡◌, ◌≤◌}
use Rattle.std.specs.Prelude.{map}

abbrev pub invariant-loop-at : goal.invariant-loop-at
invariant-loop-at l = record {
  within : l.at ≤ length l.conts;
  so_far : l.ids.items ≡ in_order (map (λ (c : Cont). c.base) (drop l.at l.conts));
}

abbrev pub decreases-loop-at : goal.decreases-loop-at
decreases-loop-at l = l.at
