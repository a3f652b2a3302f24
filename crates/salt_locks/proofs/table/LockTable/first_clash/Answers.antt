use Rattle.salt_locks.proofs.Meeting.{find_met}
use Rattle.salt_locks.proofs.Puts.{locks_beside}
use Rattle.salt_locks.proofs.table.LockTable.first_clash.Goals as goal
use Rattle.salt_locks.specs.Clear.{is_met}
use Rattle.salt_locks.specs.Tables.{locks_in}
use Rattle.std.proofs.Common.{ap, sym, ◌-◌, ◌≡◌, ◌∙◌}
use Rattle.std.specs.List.{filter}
use Rattle.std.specs.Prelude.{drop, take}

pub returns : goal.returns
returns c =
    let r = c.args.reach.now in
    let ls = c.self.inside.locks.items in
    let at = c.met-part.result in
    let here : ls ≡ locks_in c.args.self.now = sym (locks_beside c.self.inside.numbers.items ls c.self.invariant.0) ∙ ap locks_in c.self.view_is in
    c.first_against.ensures ∙ find_met c.args.owner c.args.family r (take (at.1 - at.0) (drop at.0 ls)) (locks_in c.args.self.now) (c.met-part.ensures.part ∙ ap (filter (is_met r.table r.range)) here)
