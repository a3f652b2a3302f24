use Rattle.salt_locks.proofs.Puts.{goes}
use Rattle.salt_locks.proofs.Spotting.{left_spotted}
use Rattle.salt_locks.proofs.table.LockTable.drop_programs.Goals as goal
use Rattle.salt_locks.specs.Leaving.{stays}
use Rattle.salt_locks.specs.declared.leaving.Leaving.TheVariants.{Programs}
use Rattle.std.proofs.Common.{ap, ◌∙◌}
use Rattle.std.specs.List.{filter}

pub invariant_of-self : goal.invariant_of-self
invariant_of-self c =
    let inv = c.self.invariant in
    let now = c.drop_all.ensures in (
      now.numbers,
      now.order,
      now.marked,
      left_spotted c.self.inside.spots c.forget_programs.new.self (goes (Programs c.args.bases)) c.self.inside.numbers.items c.drop_all.new.numbers.items c.self.inside.locks.items c.drop_all.new.locks.items
          inv.0 now.numbers now.all c.forget_programs.ensures inv.3,
    )

pub returns : goal.returns
returns c = c.drop_all.ensures.all ∙ ap (filter (stays (Programs c.args.bases))) c.self.view_is
