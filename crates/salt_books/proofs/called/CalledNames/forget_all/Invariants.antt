use Rattle.salt_books.proofs.called.CalledNames.forget_all.Given as goal
use Rattle.salt_books.specs.Called.{name_told}
use Rattle.salt_values.specs.Id.{has_id}
use Rattle.salt_values.specs.declared.id.Id.{Id}
use Rattle.std.proofs.Common.{None, take, ◌≡◌}
use Rattle.std.specs.Prelude.{if◌then◌else◌}

abbrev pub invariant-loop-base : goal.invariant-loop-base
invariant-loop-base l = (b : Id) → name_told l.self b ≡ (if has_id b (take l.base-index l.bases) then None else name_told l.initial.self b)
