use Rattle.salt_decisions.proofs.kept.texts_of.Given as goal
use Rattle.salt_decisions.specs.Header.{numbered_of}
use Rattle.salt_decisions.specs.Said.{text_of}
use Rattle.std.proofs.Common.{map, take, ◌≡◌}

abbrev pub invariant-loop-definition : goal.invariant-loop-definition
invariant-loop-definition l = l.texts ≡ map (λ d. text_of (numbered_of d)) (take l.definition-index l.definitions)
