use Rattle.std.proofs.Common.{take}
use Rattle.salt_model.specs.EventTexts.{story_text}
use Rattle.salt_ast.specs.Prints.{Prints}
use Rattle.salt_print.proofs.events.print_each.Given as goal

abbrev pub invariant-loop-event : goal.invariant-loop-event
invariant-loop-event g l = Prints g.K.Sink.held g.K.Sink.faults l.fn.out l.out (story_text l.fn.schema (take l.event-index l.events))
