use Rattle.std.proofs.Common.{codes, take, ◌++◌}
use Rattle.std.specs.List.{flat_map}
use Rattle.salt_ast.specs.Prints.{Prints}
use Rattle.salt_model.specs.EventTexts.{owner_text}
use Rattle.salt_print.proofs.names.print_owners.Given as goal

abbrev pub invariant-loop-owner : goal.invariant-loop-owner
invariant-loop-owner g l =
    Prints g.K.Sink.held g.K.Sink.faults l.fn.out l.out (flat_map (λ owner. codes " " ++ owner_text owner) (take l.owner-index l.owners))
