use Rattle.salt_io.proofs.Tails.{tail-backslash, tail-backslash_cr, tail-cr, tail-nothing, two_at_the_end}
use Rattle.salt_io.proofs.line_text.tail_of.Goals as goal

pub returns-then-last-eq-BACKSLASH : goal.returns-then-last-eq-BACKSLASH
returns-then-last-eq-BACKSLASH c = tail-backslash c.args.bytes.now _ _ _ (two_at_the_end c.args.bytes.now c.requires) c.if-last-eq-BACKSLASH.true

pub returns-then-last-ne-CR : goal.returns-then-last-ne-CR
returns-then-last-ne-CR c = tail-nothing c.args.bytes.now _ _ _ (two_at_the_end c.args.bytes.now c.requires) c.if-last-eq-BACKSLASH.false c.if-last-ne-CR.true

pub returns-then-before-eq-BACKSLASH : goal.returns-then-before-eq-BACKSLASH
returns-then-before-eq-BACKSLASH c = tail-backslash_cr c.args.bytes.now _ _ _ (two_at_the_end c.args.bytes.now c.requires) c.if-before-eq-BACKSLASH.true c.if-last-ne-CR.false

pub returns : goal.returns
returns c = tail-cr c.args.bytes.now _ _ _ (two_at_the_end c.args.bytes.now c.requires) c.if-before-eq-BACKSLASH.false c.if-last-ne-CR.false
