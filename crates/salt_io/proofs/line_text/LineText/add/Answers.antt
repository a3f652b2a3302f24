use Rattle.salt_io.proofs.LineTexts.{text_kept, text-other}
use Rattle.salt_io.proofs.Results.{on_ok}
use Rattle.salt_io.proofs.line_text.LineText.add.Goals as goal

pub returns-clause-text : goal.returns-clause-text
returns-clause-text c = on_ok c.keep.result _ _ (λ goes_on text is.
    let kept = text_kept c.args.line.now.items c.keep_tail.new.line.items c.args.self.now c.keep_tail.new.self.is_long text is (c.in_ok-keep_tail.ensures.text is.before_tail is.kept) in
    text-other c.args.line.now.items c.keep.new.line.items c.args.self.now c.keep.new.self text c.args.byte c.if-byte-eq-CR.false c.if-byte-eq-BACKSLASH.false c.keep.ensures.tail (goes_on text kept)) c.keep.ensures.kept
