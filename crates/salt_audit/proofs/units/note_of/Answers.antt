use Rattle.salt_audit.proofs.units.note_of.Goals as goal
use Rattle.salt_audit.specs.Telling.{block_by}
use Rattle.salt_values.specs.declared.cont.Cont.{Cont}
use Rattle.std.proofs.Common.{List, ap, true, ◌∙◌}

pub returns : goal.returns
returns c =
    let block = c.in_ok-statements.ensures ∙ ap (λ (cs : List Cont). block_by c.args.state.now.catalogue cs c.args.kind.now) c.as_slice.ensures in
    λ i. record { name = c.args.unit; kind = c.in_ok-own.ensures i; is_open = true; block = block i; done = 0 }
