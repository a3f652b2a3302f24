use Rattle.salt_io.proofs.LineTexts.{text-cr}
use Rattle.salt_io.proofs.line_text.LineText.add_cr.Goals as goal

pub returns-in_ok-keep_tail-in_default-clause-text : goal.returns-in_ok-keep_tail-in_default-clause-text
returns-in_ok-keep_tail-in_default-clause-text c text is =
    text-cr _ _ c.args.self.now c.keep_tail.new.self.is_long text is c.in_default.not-Backslash (c.in_ok-keep_tail-in_default.ensures.text is.before_tail is.kept)
