use Rattle.salt_model.specs.Eval.{named_values}
use Rattle.salt_books.proofs.bindings.name_values.Given as goal
use Rattle.std.proofs.Common.{drop, length, ◌++◌, ◌-◌, ◌≡◌, ◌≤◌}

abbrev pub invariant-loop-at : goal.invariant-loop-at
invariant-loop-at l = record {
  in_fields : l.at ≤ length l.fields;
  in_values : l.at ≤ length l.values;
  so_far : l.vars ++ named_values (drop l.at l.fields) (drop l.at l.values) ≡ l.initial.vars ++ named_values l.fields l.values;
}

abbrev pub decreases-loop-at : goal.decreases-loop-at
decreases-loop-at l = length l.fields - l.at
