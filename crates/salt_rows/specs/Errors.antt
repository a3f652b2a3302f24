-- What errors say of the devices.
use Rattle.salt_directory.specs.declared.error.ListErr.TheVariants as list
use Rattle.salt_directory.specs.declared.error.ListErr.{ListErr}
use Rattle.salt_disk.specs.declared.disks.DiskErr.TheVariants.{Memory}
use Rattle.salt_disk.specs.declared.disks.DiskErr.{DiskErr}
use Rattle.salt_pool.specs.declared.error.PoolErr.TheVariants as pool
use Rattle.salt_pool.specs.declared.error.PoolErr.{PoolErr}
use Rattle.salt_rows.specs.declared.error.RowsErr.TheVariants.{Disk, NotPage, NotRow}
use Rattle.salt_rows.specs.declared.error.RowsErr.{RowsErr}
use Rattle.std.specs.Prelude.{Err, None, Ok, Option, Result, Some}

-- what a device call answered
abbrev pub rows_disk_err : {T : Type 0} → Result T RowsErr → Option DiskErr
rows_disk_err (Ok x) = None
rows_disk_err (Err NotPage) = None
rows_disk_err (Err NotRow) = None
rows_disk_err (Err (Disk e)) = Some e

abbrev pub pool_err : PoolErr → Option DiskErr
pool_err pool.PoolFull = None
pool_err pool.NotPage = None
pool_err (pool.Disk e) = Some e

-- why a store is not opened whose rows are not listed
abbrev pub unlisted : ListErr → RowsErr
unlisted list.Twins = NotPage
unlisted list.Unsound = NotRow
unlisted list.Memory = Disk Memory
