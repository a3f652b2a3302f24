use Rattle.salt_audit.specs.Telling.{conts_by}
use Rattle.salt_verdict.proofs.Going.{holds_on}
use Rattle.salt_verdict.proofs.laws.holding_goes_on.Goals as goal

pub returns : goal.returns
returns c = λ l m trace e h formed after.
    holds_on l trace h m e formed (c.knowledge_goes_on.ensures l.state (record m.state { conts = conts_by e l.state }) trace e h.knows formed after.state) after
