use Rattle.salt_waits.proofs.Targets.{another, no_other, told}
use Rattle.salt_waits.proofs.graph.targets.Goals as goal
use Rattle.salt_waits.proofs.graph.targets.Goals.{then-contains+in_ok-push, else-contains}
use Rattle.salt_waits.specs.Graphs.{AreTargetsBelow}
use Rattle.std.proofs.Common.{◌+◌, false, refl, subst, sym, true}
use Rattle.std.proofs.lemmas.Option.{slice_get_read}

pub loop-at-preserved : goal.loop-at-preserved
loop-at-preserved c =
    let list = c.args.list.now in
    let unit = c.args.unit.now in
    let other = c.index-list-at.result in
    let is = slice_get_read list _ c.loop-at.at other refl c.loop-at-test.true c.index-list-at.is in
    elim c.if-contains.branch [
      | then-contains+in_ok-push w ↦
          let named = told unit other c.as_slice-edges.result.now c.contains.result true c.as_slice-edges.ensures c.contains.ensures.value w.if-contains.true in
          subst (λ v. AreTargetsBelow (c.loop-at.at + 1) list unit v.items) (sym w.targets-is)
          (subst (AreTargetsBelow (c.loop-at.at + 1) list unit) (sym w.in_ok-push.ensures.items) (another c.loop-at.at list unit other c.loop-at.targets.items is named c.loop-at.invariant))
      | else-contains w ↦
          let unnamed = told unit other c.as_slice-edges.result.now c.contains.result false c.as_slice-edges.ensures c.contains.ensures.value w.if-contains.false in
          subst (λ v. AreTargetsBelow (c.loop-at.at + 1) list unit v.items) (sym w.targets-is) (no_other c.loop-at.at list unit other c.loop-at.targets.items is unnamed c.loop-at.invariant)
    ]
