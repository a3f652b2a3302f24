use Rattle.salt_io.proofs.LineTexts.{text_kept, text-all}
use Rattle.salt_io.proofs.Results.{on_ok}
use Rattle.salt_io.proofs.line_text.LineText.add_all.Goals as goal

pub returns-clause-text : goal.returns-clause-text
returns-clause-text c = on_ok c.keep_all.result _ _ (λ goes_on text is.
    let kept = text_kept c.args.line.now.items c.keep_tail.new.line.items c.args.self.now c.keep_tail.new.self.is_long text is (c.in_ok-keep_tail.ensures.text is.before_tail is.kept) in
    text-all c.keep_all.new.line.items c.keep_all.new.self text c.args.bytes.now c.tail_of-tail.result c.byte_count-dropped.result c.tail_of-tail.ensures c.byte_count-dropped.ensures.value c.keep_all.ensures.tail
    (goes_on text kept)) c.keep_all.ensures.kept
