use Rattle.salt_bytes.specs.Spellable.{Every}
use Rattle.salt_devices.proofs.InHand.{values_spell}
use Rattle.salt_devices.proofs.told.told_cont.Goals as goal
use Rattle.salt_values.specs.Value.{IsValue}
use Rattle.std.proofs.Common.{arith, subst}

pub returns : goal.returns
returns c =
    let cont = c.args.cont.now in
    record {
      base = record { boot = omega arith; seq = omega arith };
      accepted = omega arith;
      args = values_spell cont.args (subst (Every IsValue) c.as_slice.ensures c.told_row.ensures);
      vars = values_spell cont.vars (subst (Every IsValue) c.as_slice-2.ensures c.told_row-2.ensures);
      next = omega arith;
      tries = tt;
    }
