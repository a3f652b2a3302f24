use Rattle.salt_transcript.proofs.Ending.{broken_by_line, no_line, unfit}
use Rattle.salt_transcript.proofs.Longest.{Laws}
use Rattle.salt_transcript.proofs.reader.Reader.next.Goals as goal
use Rattle.salt_transcript.specs.Stopping.{Settles}
use Rattle.std.proofs.Common.{Ok, ap, subst, sym}

pub returns-in-GoesOn-clause-goes_on : goal.returns-in-GoesOn-clause-goes_on
returns-in-GoesOn-clause-goes_on c = λ is s h. c.in_ok-take.ensures.goes_on (ap Ok c.in-GoesOn.is) s h

pub returns-in_ok-unformed-in-Unformed-clause-ends : goal.returns-in_ok-unformed-in-Unformed-clause-ends
returns-in_ok-unformed-in-Unformed-clause-ends c = λ s h bytes more inline e.
    let laws : Laws = record { whole = c.lines_of_event.ensures.whole; agree = c.stories_agree.ensures; named = c.sound_stories_name_tables.ensures } in
    subst (Settles bytes more) (sym c.in_ok-unformed-in-Unformed.ensures)
    (unfit laws c.args.self.now c.take.new.self s c.args.line.now bytes more h (c.in_ok-take.ensures.unformed (ap Ok c.in-Unformed.is) s h) e)

pub returns-in_ok-broken-in-Broken-clause-ends : goal.returns-in_ok-broken-in-Broken-clause-ends
returns-in_ok-broken-in-Broken-clause-ends c = λ s h bytes more inline e.
    let laws : Laws = record { whole = c.lines_of_event.ensures.whole; agree = c.stories_agree.ensures; named = c.sound_stories_name_tables.ensures } in
    subst (Settles bytes more) (sym c.in_ok-broken-in-Broken.ensures)
    (broken_by_line laws c.args.self.now c.take.new.self s c.args.line.now bytes more c.in-Broken.law c.in-Broken.unit h
    (c.in_ok-take.ensures.broken c.in-Broken.law c.in-Broken.unit (ap Ok c.in-Broken.is) s h) e)

pub returns-in_ok-not_text-in-NotText-clause-ends : goal.returns-in_ok-not_text-in-NotText-clause-ends
returns-in_ok-not_text-in-NotText-clause-ends c = λ s h bytes more inline e.
    let laws : Laws = record { whole = c.lines_of_event.ensures.whole; agree = c.stories_agree.ensures; named = c.sound_stories_name_tables.ensures } in
    subst (Settles bytes more) (sym c.in_ok-not_text-in-NotText.ensures.is)
    (no_line laws c.args.self.now s bytes h c.take.new.self c.args.line.now more (c.in_ok-take.ensures.not_text (ap Ok c.in-NotText.is) s h)
    c.in_ok-not_text-in-NotText.ensures.few inline e)
