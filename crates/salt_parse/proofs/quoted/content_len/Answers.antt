use Rattle.std.proofs.Common.{ap, length, sym, ◌∙◌}
use Rattle.salt_parse.proofs.Quotes.{plain_text}
use Rattle.salt_parse.proofs.quoted.content_len.Goals as goal

pub returns-then-is_plain : goal.returns-then-is_plain
returns-then-is_plain c = ap length (sym (plain_text c.args.quoted.now (sym c.is_plain.ensures ∙ c.if-is_plain.true)))
