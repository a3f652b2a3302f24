use Rattle.salt_io.proofs.LineTexts.{ends_line, joins_line}
use Rattle.salt_io.proofs.line_text.LineText.end_piece.Goals as goal

pub returns-in-Nothing-clause-text : goal.returns-in-Nothing-clause-text
returns-in-Nothing-clause-text c text is = ends_line _ c.args.self.now text c.in-Nothing.is is

pub returns-in_ok-keep-in-Backslash-clause-text : goal.returns-in_ok-keep-in-Backslash-clause-text
returns-in_ok-keep-in-Backslash-clause-text c text is =
    let told = c.in_ok-keep-in-Backslash.ensures in
    joins_line _ _ c.args.self.now c.keep.new.self text c.in-Backslash.is told.tail told.kept is
