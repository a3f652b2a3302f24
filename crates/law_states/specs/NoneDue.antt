-- Between finishes no kept program is due; then all that a finish makes due come to the program that it is of.
use Rattle.law_states.specs.KeptSources.{Dependencies, IsDue}
use Rattle.salt_values.specs.declared.id.Id.{Id}

abbrev pub NoneDue : Dependencies → Type 0
NoneDue d = (b : Id) → IsDue d b → ⊥
