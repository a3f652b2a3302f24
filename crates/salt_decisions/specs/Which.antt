-- Which log of the pair it is.
use Rattle.salt_bytes.specs.Generations.{LogA, LogB, WhichLog}
use Rattle.salt_decisions.specs.declared.which.Which.TheVariants.{A, B}
use Rattle.salt_decisions.specs.declared.which.Which.{Which}

abbrev pub which_in : Which → WhichLog
which_in A = LogA
which_in B = LogB
