use Rattle.salt_waits.proofs.Best.{IsBestBelow, best_of_all, better, no_better}
use Rattle.salt_waits.proofs.Circles.{circles, in_range}
use Rattle.salt_waits.proofs.units.victim.Goals as goal
use Rattle.salt_waits.proofs.units.victim.Goals.{then-is_better+in_ok-is_on_cycle+then-branch, else-is_better, else-is_better-via-then-is_better+in_ok-is_on_cycle+else-branch, else-is_better-via-else-is_better}
use Rattle.salt_waits.specs.Graphs.{InRange, Leads}
use Rattle.salt_waits.specs.Victims.{IsRightVictim}
use Rattle.std.proofs.Common.{le_antisymm, ◌+◌, ◌∙◌, length, option_copied, refl, subst, sym}
use Rattle.std.proofs.lemmas.Option.{slice_get_read}

pub is_on_cycle-requires-clause-graph : goal.is_on_cycle-requires-clause-graph
is_on_cycle-requires-clause-graph c = subst (λ g. InRange g (length g)) (sym c.deref.ensures.value) (in_range c.args.list.now c.in_ok-graph.graph.items c.in_ok-graph.ensures)

pub loop-at-preserved : goal.loop-at-preserved
loop-at-preserved c =
    let list = c.args.list.now in
    let at = c.loop-at.at in
    let unit = c.index-list-at.result in
    let is = slice_get_read list _ at unit refl c.loop-at-test.true c.index-list-at.is in
    let circle = circles list c.in_ok-graph.graph.items c.in_ok-graph.ensures at unit is in
    elim c.if-is_better.branch [
      | then-is_better+in_ok-is_on_cycle+then-branch w ↦
          let wins = sym c.is_better.ensures ∙ w.if-is_better.true in
          let leads = subst (λ g. Leads g at at) w.deref.ensures.value (w.in_ok-is_on_cycle.ensures.0 w.if-branch.true) in
          subst (λ b. IsBestBelow (at + 1) list (option_copied b)) (sym w.best-is) (better at list unit (option_copied c.loop-at.best) is wins (circle.0 leads) c.loop-at.invariant)
      | else-is_better w ↦ subst (λ b. IsBestBelow (at + 1) list (option_copied b)) (sym w.best-is) (elim w.else-is_better.branch [
        | else-is_better-via-then-is_better+in_ok-is_on_cycle+else-branch v ↦
            no_better at list unit (option_copied c.loop-at.best) is
            (λ wins on. let yes = v.in_ok-is_on_cycle.ensures.1 (subst (λ g. Leads g at at) (sym v.deref.ensures.value) (circle.1 on)) in absurd (cc (yes, v.if-branch.false))) c.loop-at.invariant
        | else-is_better-via-else-is_better v ↦
            no_better at list unit (option_copied c.loop-at.best) is (λ wins on. absurd (cc (wins, c.is_better.ensures, v.if-is_better.false))) c.loop-at.invariant
      ])
    ]

pub returns : goal.returns
returns c =
    let list = c.args.list.now in
    let best = option_copied c.loop-at.best in
    let end = le_antisymm c.loop-at.auto.at-end c.loop-at-test.false in
    subst (IsRightVictim list) (sym c.name_of.ensures) (best_of_all list best (subst (λ n. IsBestBelow n list best) end c.loop-at.invariant))
