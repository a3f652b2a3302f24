use Rattle.salt_loaded.proofs.Fronts.{text_cut, text_none, text_whole}
use Rattle.salt_loaded.proofs.key.text_in.Goals as goal

pub returns-in_default : goal.returns-in_default
returns-in_default c = text_none c.args.bytes.now c.in_default.len_below

pub returns-then-count-rest : goal.returns-then-count-rest
returns-then-count-rest c = text_whole c.args.bytes.now c.in-len1-up.len_at_least c.if-count-rest.true

pub returns-else-count-rest : goal.returns-else-count-rest
returns-else-count-rest c = text_cut c.args.bytes.now c.in-len1-up.len_at_least c.if-count-rest.false
