use Rattle.salt_audit.proofs.Noted.{unit_changed, unit_missing}
use Rattle.salt_audit.proofs.units.close.Goals as goal
use Rattle.salt_audit.specs.Standing.{begun_in}
use Rattle.salt_audit.specs.Telling.{over}
use Rattle.salt_audit.specs.declared.state.Begun.{Begun}
use Rattle.std.proofs.Common.{ap, rules, sym, ◌∙◌}

pub returns-in_default : goal.returns-in_default
returns-in_default c = λ u.
    ap (begun_in u) c.get_mut.follows.holds-at-none ∙ unit_missing c.args.units.now c.args.unit over (sym c.in_default.ensures.value) u

pub returns : goal.returns
returns c = λ u.
    let note : Begun = c.in-Some.note.now in
    unit_changed c.args.units.now (c.get_mut.follows.lender (over note)) c.args.unit note over (sym c.in-Some.ensures.value)
    ((c.get_mut.follows.holds (over note)).3 (search rules)).0 u
