use Rattle.salt_model.specs.declared.vars.Binding.{Binding}
use Rattle.salt_books.proofs.bindings.values_of.Given as goal
use Rattle.std.proofs.Common.{take, ◌≡◌}
use Rattle.std.specs.Prelude.{map}

abbrev pub invariant-loop-binding : goal.invariant-loop-binding
invariant-loop-binding l = l.row ≡ map (λ (b : Binding). b.value) (take l.binding-index l.vars)
