use Rattle.salt_locks.proofs.Clearing.{salted_marked}
use Rattle.salt_locks.proofs.Puts.{salted_beside, salted_invariant}
use Rattle.salt_locks.proofs.table.LockTable.to_saline.Goals as goal
use Rattle.salt_locks.specs.Spots.{AreCounted, AreSpotted}
use Rattle.salt_locks.specs.Tables.{numbered, salted}
use Rattle.salt_model.specs.declared.events.Owner.TheVariants.{Unit}
use Rattle.std.proofs.Common.{ap, map, subst, sym, ◌∙◌}

pub invariant_of-self : goal.invariant_of-self
invariant_of-self c =
    let inv = c.self.invariant in
    let new = salted_invariant c.args.unit c.args.base c.self.inside.numbers.items c.self.inside.locks.items c.salt.new.locks.items (inv.0, inv.1) c.salt.ensures in (
      new.0,
      new.1,
      salted_marked c.args.unit c.args.base c.self.inside.clear.items c.self.inside.locks.items c.salt.new.locks.items inv.2 c.salt.ensures,
      subst (AreSpotted c.hand_over.new.self) (sym c.salt.ensures) (c.hand_over.ensures c.self.inside.locks.items inv.3),
    )

pub returns : goal.returns
returns c =
    let ns = c.self.inside.numbers.items in
    ap (numbered ns) c.salt.ensures ∙ (salted_beside c.args.unit c.args.base ns c.self.inside.locks.items ∙ ap (map (salted c.args.unit c.args.base)) c.self.view_is)

pub salt-requires-clause-all : goal.salt-requires-clause-all
salt-requires-clause-all c listed =
    subst (λ ss. AreCounted (Unit c.args.unit) ss c.self.inside.locks.items) (sym c.of_owner.ensures) (c.self.invariant.3 (c.are_few-few.ensures listed) (Unit c.args.unit))
