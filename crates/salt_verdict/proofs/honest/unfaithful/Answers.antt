use Rattle.salt_values.specs.declared.id.Id.{Id}
use Rattle.salt_verdict.proofs.honest.unfaithful.Goals as goal
use Rattle.salt_verdict.specs.Ledger.{is_unfaithful, may_change}
use Rattle.std.proofs.Common.{append-nil, arith, ◌&&◌}
use Rattle.std.proofs.lemmas.Grind.{common_steps}
use Rattle.std.proofs.lemmas.List.Elements.{filter_more}

pub loop-unit-preserved : goal.loop-unit-preserved
loop-unit-preserved c =
    let none : Id = record { boot = 0; seq = 0 } in
    let e = c.args.event.now in
    let l = c.args.ledger.now in
    grind (arith, common_steps, filter_more (λ (u : Id). may_change e u && is_unfaithful l u) c.as_slice-unit-items.result.now c.loop-unit.unit-index none (omega arith), append-nil)
