use Rattle.salt_commit.proofs.Units.{named_next}
use Rattle.salt_commit.proofs.named.units_in_part.Goals as goal
use Rattle.salt_commit.proofs.named.units_in_part.Goals.{then-has_bit+in_ok-push, else-has_bit}
use Rattle.salt_values.specs.declared.id.Id.{Id}
use Rattle.std.proofs.Common.{false, sym, true, ◌∙◌}
use Rattle.std.proofs.lemmas.List.{append-nil}

pub loop-number-preserved : goal.loop-number-preserved
loop-number-preserved c =
    let zero_id : Id = record { boot = 0; seq = 0 } in
    let l = c.loop-number in
    elim c.if-has_bit.branch [
      | then-has_bit+in_ok-push w ↦ named_next c.args.part c.args.units.now c.args.masks.now l.number zero_id 0 true c.requires.each c.loop-number-test.true (sym w.if-has_bit.true ∙ c.has_bit.ensures) l.ids c.if-has_bit.ids l.invariant (w.ids-is ∙ w.in_ok-push.ensures.ok)
      | else-has_bit w ↦ named_next c.args.part c.args.units.now c.args.masks.now l.number zero_id 0 false c.requires.each c.loop-number-test.true (sym w.if-has_bit.false ∙ c.has_bit.ensures) l.ids c.if-has_bit.ids l.invariant (w.ids-is ∙ sym (append-nil l.ids))
    ]
