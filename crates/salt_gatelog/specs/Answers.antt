-- The answers of an opening.
use Rattle.salt_gatelog.specs.declared.unopened.OpenErr.TheVariants as opening
use Rattle.salt_gatelog.specs.declared.unopened.OpenErr.{OpenErr}
use Rattle.salt_disk.specs.declared.disks.DiskErr.TheVariants.{Failed, Full, Memory, Stopped}
use Rattle.salt_disk.specs.declared.disks.DiskErr.{DiskErr}
use Rattle.salt_gatelog.specs.declared.pair.PairErr.TheVariants as pair
use Rattle.salt_gatelog.specs.declared.pair.PairErr.{PairErr}
use Rattle.std.specs.Prelude.{Err, None, Ok, Option, Result, Some, ⊤}

abbrev pub open_err_of : DiskErr → OpenErr
open_err_of Failed = opening.Failed
open_err_of Stopped = opening.Stopped
open_err_of (Full dev) = opening.Full dev
open_err_of Memory = opening.Memory

-- what is answered of a pair
abbrev pub open_err_of_pair : PairErr → OpenErr
open_err_of_pair (pair.NotSalt dev) = opening.NotSalt dev
open_err_of_pair (pair.Disk e) = open_err_of e

-- what a disk call answered, if that was why
abbrev pub open_disk_err_of : OpenErr → Option DiskErr
open_disk_err_of opening.Failed = Some Failed
open_disk_err_of opening.Stopped = Some Stopped
open_disk_err_of (opening.Full dev) = Some (Full dev)
open_disk_err_of opening.Memory = Some Memory
open_disk_err_of (opening.NotSalt dev) = None
open_disk_err_of (opening.OtherShape kept asked) = None
open_disk_err_of (opening.NumbersSpent boot decisions) = None

abbrev pub open_disk_err : {T : Type 0} → Result T OpenErr → Option DiskErr
open_disk_err (Ok x) = None
open_disk_err (Err e) = open_disk_err_of e

-- an opening refuses what it has come upon
abbrev pub IsRefusal : OpenErr → Type 0
IsRefusal (opening.NotSalt dev) = ⊤
IsRefusal (opening.OtherShape kept asked) = ⊤
IsRefusal (opening.NumbersSpent boot decisions) = ⊤
IsRefusal e = ⊥
