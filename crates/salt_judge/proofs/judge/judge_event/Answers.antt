use Rattle.salt_audit.specs.Retelling.{told}
use Rattle.salt_audit.specs.Verdicts.{broken_by}
use Rattle.salt_judge.proofs.Judging.{Known, all_then, judged_then, told_then}
use Rattle.salt_judge.proofs.judge.judge_event.Goals as goal
use Rattle.salt_judge.specs.Judging.{HoldsAll, broken_in}
use Rattle.salt_judge.specs.declared.judge.Judge.{Judge}
use Rattle.salt_model.specs.Trace.{Trace}
use Rattle.salt_values.specs.declared.id.Id.{Id}
use Rattle.std.proofs.Common.{List, ap, sym, ◌∙◌, ◌≡◌}

pub returns : goal.returns
returns c =
    let old = c.args.judge.now in
    let new : Judge = record { ledger = c.take_event.new.ledger; reads = c.take_reads.new.reads; meetings = c.take_meetings.new.meetings; settled = c.unsalted.new.settled } in
    let e = c.args.event.now in
    let known : Known old new e = record {
      formed = λ trace h. sym (c.judging_is_exact.ensures old.ledger.state trace e h.knows) ∙ c.requires.formed;
      ledger = λ trace h f. c.holding_goes_on.ensures old.ledger new.ledger trace e h f c.in_ok-take_event.ensures.after;
      reads = λ trace h k f. c.reading_goes_on.ensures old.ledger old.reads new.reads trace e h k f c.in_ok-take_reads.ensures;
      meetings = λ trace h k w f. c.meeting_goes_on.ensures old.ledger new.reads old.meetings new.meetings trace e h k w f c.in_ok-take_meetings.ensures;
      settled = λ h. c.settling_goes_on.ensures old.ledger new.ledger old.reads new.reads e c.requires.formed c.in_ok-take_event.ensures.after c.in_ok-take_reads.ensures old.settled h;
      searched = λ h. c.in_ok-salted.ensures.settled h;
      changes = λ h. c.changes_tell_the_unfaithful.ensures old.ledger new.ledger e h c.in_ok-take_event.ensures.after;
      honest = λ trace h f k. c.honest_is_exact.ensures old.ledger new.ledger trace e h f k;
    } in
    let broken : (trace : Trace) → HoldsAll old trace → c.in_ok-found.found ≡ broken_by trace e = λ trace h.
    let all = told_then old new e known trace h in
    let linked = c.salted_is_exact.ensures.linked new.ledger new.reads (told trace e) all.ledger all.reads in
    let salted = c.in_ok-salted.ensures.units linked (known.settled h.settled) ∙ c.salted_is_exact.ensures.exact new.ledger new.reads trace e all.ledger all.reads in
    c.in_ok-found.ensures ∙ ap (λ (ids : List Id). broken_in new ids c.in_ok-salted.salted e) c.in_ok-amiss.ensures
    ∙ judged_then old new e known trace h c.in_ok-salted.salted salted (c.whole_is_exact.ensures new.meetings trace e all.meetings) in
    record {
      broken = broken;
      holds = λ is trace h. all_then old new e known trace h (sym (broken trace h) ∙ cc);
      leads = c.in_ok-take_event.ensures.leads;
    }
