use Rattle.salt_loaded.proofs.Fronts.{behind_null, behind_number, behind_other, behind_text, no_value}
use Rattle.salt_loaded.proofs.spelled.behind_value.Goals as goal
use Rattle.std.proofs.Common.{arith}

pub returns-in_default : goal.returns-in_default
returns-in_default c = λ v rest h. absurd (no_value c.args.bytes.now rest v c.in_default.len_below h)

pub returns-in-0 : goal.returns-in-0
returns-in-0 c = λ v rest h. behind_null c.args.bytes.now c.in-len1-up.len_at_least v rest h c.in-0.is

pub returns-in-1 : goal.returns-in-1
returns-in-1 c = λ v rest h. let n = behind_number c.args.bytes.now c.in-len1-up.len_at_least v rest h c.in-1.is in c.behind.ensures n.0 rest n.1

pub returns-in-2 : goal.returns-in-2
returns-in-2 c = λ v rest h. let t = behind_text c.args.bytes.now c.in-len1-up.len_at_least v rest h c.in-2.is in c.behind_text.ensures t.0 rest t.1

pub returns-in_default-kind : goal.returns-in_default-kind
returns-in_default-kind c = λ v rest h. absurd (behind_other c.args.bytes.now c.in-len1-up.len_at_least v rest h (λ e. omega arith) (λ e. omega arith) (λ e. omega arith))
