use Rattle.salt_audit.proofs.Noted.{unit_changed, unit_missing}
use Rattle.salt_audit.proofs.units.count.Goals as goal
use Rattle.salt_audit.specs.Standing.{begun_in}
use Rattle.salt_audit.specs.Telling.{one_more}
use Rattle.salt_audit.specs.declared.state.Begun.{Begun}
use Rattle.std.proofs.Common.{ap, rules, sym, ℕ, ◌∙◌}

pub returns-in_default : goal.returns-in_default
returns-in_default c = λ u.
    ap (begun_in u) c.get_mut.follows.holds-at-none ∙ unit_missing c.args.units.now c.args.unit one_more (sym c.in_default.ensures.value) u

pub returns : goal.returns
returns c = λ u.
    let note : Begun = c.in-Some.note.now in
    let new = c.get_mut.follows.lender (one_more note) in
    ap (λ (d : ℕ). begun_in u (c.get_mut.follows.lender (record note { done = d }))) c.in_ok-done.ensures
    ∙ unit_changed c.args.units.now new c.args.unit note one_more (sym c.in-Some.ensures.value) ((c.get_mut.follows.holds (one_more note)).3 (search rules)).0 u
