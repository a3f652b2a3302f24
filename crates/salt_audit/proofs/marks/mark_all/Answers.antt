use Rattle.salt_audit.proofs.Marking.{has_taken, marked_on}
use Rattle.salt_audit.proofs.marks.mark_all.Goals as goal
use Rattle.salt_audit.specs.Marks.{is_marked}
use Rattle.salt_values.specs.Id.{has_id}
use Rattle.salt_values.specs.declared.id.Id.{Id}
use Rattle.std.proofs.Common.{ap, arith, get_or, sym, take, ◌∙◌, ◌||◌}

pub loop-id-preserved : goal.loop-id-preserved
loop-id-preserved c = λ u.
    let none : Id = record { boot = 0; seq = 0 } in
    let i = c.loop-id.id-index in
    let ids = c.args.ids.now in
    marked_on u (get_or ids i none) (is_marked u c.mark.new.marks) (is_marked u c.loop-id.marks) (is_marked u c.args.marks.now) (has_id u (take i ids))
    (c.in_ok-mark.ensures.ok u) (c.loop-id.invariant u)
    ∙ ap (λ t. t || is_marked u c.args.marks.now) (sym (has_taken u ids i none (omega arith)))
