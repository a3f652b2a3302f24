use Rattle.std.proofs.Common.{take, ◌≡◌}
use Rattle.salt_model.specs.Statements.{set_field}
use Rattle.salt_exprs.proofs.sets.put.Given as goal

abbrev pub invariant-loop-number : goal.invariant-loop-number
invariant-loop-number l = l.row ≡ set_field (take l.number l.columns) l.name l.value l.initial.row
