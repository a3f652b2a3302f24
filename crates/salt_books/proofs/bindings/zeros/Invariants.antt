use Rattle.salt_model.specs.Kept.{zeros}
use Rattle.salt_books.proofs.bindings.zeros.Given as goal
use Rattle.std.proofs.Common.{take, ◌≡◌}

abbrev pub invariant-loop-field : goal.invariant-loop-field
invariant-loop-field l = l.row ≡ zeros (take l.field-index l.fields)
