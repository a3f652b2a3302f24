-- What an opening of a pair of logs answers.
use Rattle.salt_disk.specs.declared.disks.DiskErr.{DiskErr}
use Rattle.salt_gatelog.specs.declared.pair.PairErr.TheVariants.{Disk, NotSalt}
use Rattle.salt_gatelog.specs.declared.pair.PairErr.{PairErr}
use Rattle.std.specs.Prelude.{Err, None, Ok, Option, Result, Some}

-- what a disk call answered, if that was why
abbrev pub pair_err_of : PairErr → Option DiskErr
pair_err_of (NotSalt dev) = None
pair_err_of (Disk e) = Some e

abbrev pub pair_err : {T : Type 0} → Result T PairErr → Option DiskErr
pair_err (Ok x) = None
pair_err (Err e) = pair_err_of e
