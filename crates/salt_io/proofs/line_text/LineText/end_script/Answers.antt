use Rattle.salt_io.proofs.LineTexts.{last-backslash, last-other}
use Rattle.salt_io.proofs.Results.{on_ok}
use Rattle.salt_io.proofs.line_text.LineText.end_script.Goals as goal

pub returns-in-Backslash-clause-text : goal.returns-in-Backslash-clause-text
returns-in-Backslash-clause-text c = on_ok c.keep.result _ _ (λ goes_on text is. last-backslash _ _ c.args.self.now c.keep.new.self text c.in-Backslash.is goes_on is) c.keep.ensures.kept

pub returns-in_default-clause-text : goal.returns-in_default-clause-text
returns-in_default-clause-text c = on_ok c.keep_tail.result _ _ (λ goes_on text is.
    last-other _ _ c.args.self.now c.keep_tail.new.self.is_long text c.in_default.not-Backslash is (goes_on is.before_tail is.kept)) c.keep_tail.ensures.text
