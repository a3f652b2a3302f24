use Rattle.salt_model.specs.Tables.{Tables, with_changes}
use Rattle.salt_partition.proofs.rows.make_changes.Given as goal
use Rattle.std.proofs.Common.{◌≡◌}

abbrev pub invariant-loop-change : goal.invariant-loop-change
invariant-loop-change l = (es : Tables) → l.initial.rows.entries ≡ es.list → l.rows.entries ≡ (with_changes l.yielded es).list
