use Rattle.salt_loaded.proofs.Fronts.{none_by_kind, short_text, text_by_kind}
use Rattle.salt_loaded.proofs.key.key_text.Goals as goal
use Rattle.std.proofs.Common.{◌∙◌}

pub returns-in_default : goal.returns-in_default
returns-in_default c = short_text c.args.row.now c.in_default.len_below

pub returns-then-kind-eq2 : goal.returns-then-kind-eq2
returns-then-kind-eq2 c = c.text_in.ensures ∙ text_by_kind c.args.row.now c.in-len2-up.len_at_least c.if-kind-eq2.true

pub returns-else-kind-eq2 : goal.returns-else-kind-eq2
returns-else-kind-eq2 c = none_by_kind c.args.row.now c.in-len2-up.len_at_least (λ h. absurd (c.if-kind-eq2.false h))
