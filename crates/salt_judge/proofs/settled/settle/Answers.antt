use Rattle.salt_judge.proofs.Settling.{settled_more}
use Rattle.salt_judge.proofs.settled.settle.Goals as goal
use Rattle.salt_audit.specs.Marks.{is_marked}
use Rattle.salt_values.specs.Id.{has_id}
use Rattle.salt_values.specs.declared.id.Id.{Id}
use Rattle.std.proofs.Common.{List, ap, sym, ◌∙◌, ◌||◌}

pub returns-in_ok-mark_all : goal.returns-in_ok-mark_all
returns-in_ok-mark_all c = λ settled.
    settled_more c.args.ledger.now c.args.reads.now c.args.settled.now c.mark_all.new.marks c.args.found.now.marks c.args.found.now.ids c.requires
    (λ u. c.in_ok-mark_all.ensures u ∙ ap (λ (us : List Id). has_id u us || is_marked u c.args.settled.now) c.as_slice.ensures)
    (sym c.may_all_settle.ensures ∙ c.if-may_all_settle.true) settled
