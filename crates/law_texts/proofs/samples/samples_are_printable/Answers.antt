use Rattle.law_texts.proofs.Printed.{definitions_print, nulls_print}
use Rattle.law_texts.proofs.samples.samples_are_printable.Goals as goal

pub returns-clause-rows : goal.returns-clause-rows
returns-clause-rows c = nulls_print

pub returns-clause-definitions : goal.returns-clause-definitions
returns-clause-definitions c = definitions_print
