use Rattle.salt_transcript.proofs.Taking.{LinesAreRead, event_broken, event_refused, event_taken, item_taken, line_nowhere}
use Rattle.salt_transcript.proofs.reader.Reader.take.Goals as goal
use Rattle.std.proofs.Common.{Err, ap, refl}

pub returns-in-Ok-Some-clause-goes_on : goal.returns-in-Ok-Some-clause-goes_on
returns-in-Ok-Some-clause-goes_on c = λ is s h.
    let laws : LinesAreRead = record { read = c.lines_are_read.ensures.read; back = c.lines_are_read.ensures.back } in
    event_taken laws c.args.self.now s c.args.line.now h c.read_line.new.items c.in-Ok-Some.event c.take_event.new.self
    (rw c.in-Ok-Some.field-0-is at c.in-Ok-Some.ensures.ok) (c.take_event.ensures.goes_on is)

pub returns-in-Ok-Some-clause-unformed : goal.returns-in-Ok-Some-clause-unformed
returns-in-Ok-Some-clause-unformed c = λ is s h.
    let laws : LinesAreRead = record { read = c.lines_are_read.ensures.read; back = c.lines_are_read.ensures.back } in
    event_refused laws c.args.self.now s c.args.line.now h c.read_line.new.items c.in-Ok-Some.event c.take_event.new.self
    (rw c.in-Ok-Some.field-0-is at c.in-Ok-Some.ensures.ok) (c.take_event.ensures.unformed is)

pub returns-in-Ok-Some-clause-broken : goal.returns-in-Ok-Some-clause-broken
returns-in-Ok-Some-clause-broken c = λ law unit is s h.
    let laws : LinesAreRead = record { read = c.lines_are_read.ensures.read; back = c.lines_are_read.ensures.back } in
    event_broken laws c.args.self.now s c.args.line.now h c.read_line.new.items c.in-Ok-Some.event c.take_event.new.self law unit
    (rw c.in-Ok-Some.field-0-is at c.in-Ok-Some.ensures.ok) (c.take_event.ensures.broken law unit is)

pub returns-in-Ok-Some-clause-not_text : goal.returns-in-Ok-Some-clause-not_text
returns-in-Ok-Some-clause-not_text c = λ is. absurd (c.take_event.ensures.text is)

pub returns-in_ok-lines-in-Ok-None-clause-goes_on : goal.returns-in_ok-lines-in-Ok-None-clause-goes_on
returns-in_ok-lines-in-Ok-None-clause-goes_on c = λ is s h.
    let laws : LinesAreRead = record { read = c.lines_are_read.ensures.read; back = c.lines_are_read.ensures.back } in
    item_taken laws c.args.self.now s c.args.line.now h c.read_line.new.items c.in_ok-lines-in-Ok-None.lines (rw c.in-Ok-None.field-0-is at c.in-Ok-None.ensures.ok)
    c.in_ok-lines-in-Ok-None.ensures

pub returns-in-Err-NotText-clause-not_text : goal.returns-in-Err-NotText-clause-not_text
returns-in-Err-NotText-clause-not_text c = λ is s h.
    let laws : LinesAreRead = record { read = c.lines_are_read.ensures.read; back = c.lines_are_read.ensures.back } in
    let none = c.in-Err-NotText.ensures.not_text (ap Err c.in-Err-NotText.field-0-is) in
    line_nowhere laws c.args.self.now s c.args.line.now h (record c.args.self.now { items = c.read_line.new.items }) none.0 refl
