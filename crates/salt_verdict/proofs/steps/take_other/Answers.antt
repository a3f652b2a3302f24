use Rattle.salt_verdict.proofs.Commits.{is_other}
use Rattle.salt_verdict.proofs.Putting.{told_behind}
use Rattle.salt_verdict.proofs.steps.take_other.Goals as goal
use Rattle.std.proofs.Common.{sym, ◌∙◌}

pub returns-clause-after : goal.returns-clause-after
returns-clause-after c =
    let l = c.args.ledger.now in
    let other = is_other l c.args.event.now c.requires.other in
    let behind = c.in_ok-tell.ensures.behind in
    record {
      state = told_behind l.state c.tell.new.state c.args.event.now behind;
      rows = sym other.rows;
      conts = behind.conts ∙ sym other.conts;
      acts = λ u. c.in_ok-note_event.ensures.acts u;
      order = c.in_ok-note_event.ensures.order;
      active = c.in_ok-note_active.ensures;
    }
