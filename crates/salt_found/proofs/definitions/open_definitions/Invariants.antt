use Rattle.salt_found.proofs.Defining.{DefinedTo}
use Rattle.salt_found.proofs.definitions.open_definitions.Given as goal

abbrev pub invariant-loop-text : goal.invariant-loop-text
invariant-loop-text l = DefinedTo l.texts l.text-index l.schema l.catalogue
