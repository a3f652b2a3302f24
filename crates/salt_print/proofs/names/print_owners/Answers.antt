use Rattle.std.proofs.Common.{arith, codes, ◌++◌}
use Rattle.std.proofs.lemmas.List.{get_or_default}
use Rattle.salt_ast.proofs.Joins.{◌⨾◌}
use Rattle.salt_ast.proofs.Loops.{Prints-more, preceded-taken}
use Rattle.salt_model.specs.EventTexts.{owner_text}
use Rattle.salt_print.proofs.names.print_owners.Goals as goal

pub loop-owner-preserved : goal.loop-owner-preserved
loop-owner-preserved g c =
    Prints-more (λ owner. codes " " ++ owner_text owner) c.args.owners.now c.loop-owner.owner-index _ c.loop-owner-test.true
    (get_or_default _ _ _ _ c.loop-owner-test.true) c.loop-owner.invariant (c.bytes.ensures ⨾ c.print_owner.ensures)

pub returns : goal.returns
returns g c = rw (preceded-taken (codes " ") owner_text c.args.owners.now c.loop-owner.owner-index (omega arith)) c.loop-owner.invariant
