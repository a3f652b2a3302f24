use Rattle.law_states.specs.Overlays.{AreInOrder, edits_of}
use Rattle.salt_model.specs.Tables.{changed_at}
use Rattle.salt_units.proofs.Places.{before, behind, in-order-put, placed-at, set-parts, there}
use Rattle.salt_units.proofs.putting.put_change.Goals as goal
use Rattle.salt_units.proofs.putting.put_change.Goals.{else-at-len-via-else-at-len, else-at-len-via-then-at-len+else-is_change_at}
use Rattle.salt_units.specs.Putting.{is_before, put_change}
use Rattle.salt_values.specs.declared.change.Change.{Change}
use Rattle.std.proofs.Common.{List, ap, arith, drop, length, subst, sym, take, ◌++◌, ◌<◌, ◌∙◌, ◌≡◌}

pub returns-then-is_change_at-clause-put : goal.returns-then-is_change_at-clause-put
returns-then-is_change_at-clause-put c =
    let ds = c.args.changes.now.items in
    let at = c.count_before-at.result in
    let within : at < length ds = omega (arith, c.if-at-len.true, c.len.ensures, c.args.changes.now.ok.0) in
    set-parts ds at c.args.change within
    ∙ sym (there c.args.change ds at c.index.result.now within c.index.ensures (sym c.is_change_at.ensures ∙ c.if-is_change_at.true)
    (placed-at c.args.change ds at c.count_before-at.ensures.counted c.count_before-at.ensures.bound))

pub returns-clause-put : goal.returns-clause-put
returns-clause-put c =
    let ds = c.args.changes.now.items in
    let at = c.count_before-at.result in
    let cut = c.count_before-at.ensures.counted in
    let ok = c.args.changes.now.ok.0 in
    let placed : put_change c.args.change ds ≡ take at ds ++ put_change c.args.change (drop at ds) = placed-at c.args.change ds at cut c.count_before-at.ensures.bound in
    c.in_ok-insert.ensures.items
    ∙ elim c.else-at-len.branch [
      | else-at-len-via-then-at-len+else-is_change_at w ↦
          let within : at < length ds = omega (arith, w.if-at-len.true, c.len.ensures, ok) in
          before c.args.change ds at w.index.result.now within w.index.ensures
          (ap (λ (x : Change). is_before (changed_at c.args.change) (changed_at x)) w.index.ensures ∙ cut.1 at w.index.result.now (omega arith) within)
          (sym w.is_change_at.ensures ∙ w.if-is_change_at.false) placed
      | else-at-len-via-else-at-len w ↦ behind c.args.change ds at (omega (arith, w.if-at-len.false, c.len.ensures, ok)) placed
    ]

pub returns-then-is_change_at-clause-in_order : goal.returns-then-is_change_at-clause-in_order
returns-then-is_change_at-clause-in_order c = subst (λ (l : List Change). AreInOrder (edits_of l)) (sym (returns-then-is_change_at-clause-put c)) (in-order-put c.args.change c.args.changes.now.items c.requires)

pub returns-clause-in_order : goal.returns-clause-in_order
returns-clause-in_order c = subst (λ (l : List Change). AreInOrder (edits_of l)) (sym (returns-clause-put c)) (in-order-put c.args.change c.args.changes.now.items c.requires)
