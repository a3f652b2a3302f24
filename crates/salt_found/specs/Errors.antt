-- The errors of continuations, as those of a recovery.
use Rattle.salt_found.specs.declared.error.ContErr.TheVariants as cont
use Rattle.salt_found.specs.declared.error.ContErr.{ContErr}
use Rattle.salt_found.specs.declared.error.RecoverErr.TheVariants.{Memory, NotSalt}
use Rattle.salt_found.specs.declared.error.RecoverErr.{RecoverErr}

abbrev pub recover_err_of_cont : ContErr → RecoverErr
recover_err_of_cont cont.NotMove = NotSalt
recover_err_of_cont cont.Memory = Memory
