use Rattle.salt_values.specs.declared.id.Id.{Id}
use Rattle.salt_verdict.proofs.honest.unfaithful.Given as goal
use Rattle.salt_verdict.specs.Ledger.{is_unfaithful, may_change}
use Rattle.std.proofs.Common.{take, ◌&&◌, ◌≡◌}
use Rattle.std.specs.List.{filter}

abbrev pub invariant-loop-unit : goal.invariant-loop-unit
invariant-loop-unit l = l.ids ≡ filter (λ (u : Id). may_change l.event u && is_unfaithful l.ledger u) (take l.unit-index l.unit-items)
