use Rattle.salt_program.proofs.refusal.text_fault.Goals as goal
use Rattle.std.proofs.Common.{refl}

pub returns : goal.returns
returns c =
    rw (c.first_fault.ensures, c.unknown_in_body.ensures, c.doubled_in_program.ensures, c.is_typed_body.ensures, c.as_slice.ensures, c.as_slice-2.ensures) refl
