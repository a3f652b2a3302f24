use Rattle.salt_locks.proofs.Meeting.{clash_met}
use Rattle.salt_locks.proofs.Puts.{locks_beside}
use Rattle.salt_locks.proofs.table.LockTable.clashing.Goals as goal
use Rattle.salt_locks.specs.Clear.{is_met}
use Rattle.salt_locks.specs.Tables.{locks_in}
use Rattle.salt_model.specs.Locks.{clashes, owners_of}
use Rattle.std.proofs.Common.{ap, subst, sym, ◌-◌, ◌≡◌, ◌∙◌}
use Rattle.std.specs.List.{filter}
use Rattle.std.specs.Prelude.{IfOk, drop, take}

pub returns : goal.returns
returns c =
    let o = c.args.owner in
    let f = c.args.family in
    let r = c.args.reach.now in
    let ls = c.self.inside.locks.items in
    let at = c.met-part.result in
    let part = take (at.1 - at.0) (drop at.0 ls) in
    let here : ls ≡ locks_in c.args.self.now = sym (locks_beside c.self.inside.numbers.items ls c.self.invariant.0) ∙ ap locks_in c.self.view_is in
    subst (λ all. IfOk c.owners_against.result (λ owners. owners ≡ all))
    (ap owners_of (sym (clash_met o f r part)
    ∙ (ap (filter (clashes o f r)) (c.met-part.ensures.part ∙ ap (filter (is_met r.table r.range)) here) ∙ clash_met o f r (locks_in c.args.self.now))))
    c.owners_against.ensures
