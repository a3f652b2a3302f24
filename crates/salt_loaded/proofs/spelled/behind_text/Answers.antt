use Rattle.salt_loaded.proofs.Fronts.{no_text, parted}
use Rattle.salt_loaded.proofs.spelled.behind_text.Goals as goal

pub returns-in_default : goal.returns-in_default
returns-in_default c = λ text rest h. absurd (no_text c.args.bytes.now text rest c.in_default.len_below h)

pub returns : goal.returns
returns c = λ text rest h. c.behind.ensures text rest (parted c.args.bytes.now c.in-len1-up.len_at_least text rest h)
