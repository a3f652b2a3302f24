use Rattle.salt_model.specs.declared.shown.Item.{Item}
use Rattle.salt_audit.specs.Transcripts.{IsVerdict}
use Rattle.salt_transcript.proofs.Ending.{unended, whole}
use Rattle.salt_transcript.proofs.Longest.{Laws}
use Rattle.salt_transcript.proofs.reader.Reader.ended.Goals as goal
use Rattle.salt_transcript.specs.Reading.{is_all_told}
use Rattle.std.proofs.Common.{List, ap, subst, sym, ◌∙◌}

pub returns-then-all_told : goal.returns-then-all_told
returns-then-all_told c = λ s bytes h inline e.
    whole c.args.self.now s bytes c.args.rest.now h e
    (ap (λ (is : List Item). is_all_told is c.args.rest.now) (sym c.as_slice.ensures) ∙ sym c.all_told.ensures ∙ c.if-all_told.true)

pub returns : goal.returns
returns c = λ s bytes h inline e.
    let laws : Laws = record { whole = c.lines_of_event.ensures.whole; agree = c.stories_agree.ensures; named = c.sound_stories_name_tables.ensures } in
    subst (IsVerdict bytes) (sym c.in_ok-not_text.ensures.is)
    (unended laws c.args.self.now s bytes h c.args.rest.now inline e
    (ap (λ (is : List Item). is_all_told is c.args.rest.now) (sym c.as_slice.ensures) ∙ sym c.all_told.ensures ∙ c.if-all_told.false)
    c.in_ok-not_text.ensures.few)
