use Rattle.salt_program.proofs.Programs.{doubled_name-fields}
use Rattle.salt_program.proofs.refusal.doubled_in_fields.Goals as goal
use Rattle.std.proofs.Common.{refl}

pub returns : goal.returns
returns c =
    rw (doubled_name-fields c.args.def.now.params c.args.def.now.vars, c.first_of.ensures, c.doubled_in-params.ensures, c.doubled_in-vars.ensures, c.as_slice.ensures, c.as_slice-2.ensures, c.as_slice-3.ensures) refl
