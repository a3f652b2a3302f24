-- The conditions can be met: a unit of one row and one removal is prepared in a partition that was made.
use Rattle.salt_disk.specs.Disks.{View}
use Rattle.salt_paged.proofs.Framed.{may_apply}
use Rattle.salt_partition.specs.Partitions.{MayPrepare, prepared}
use Rattle.salt_paged.specs.Partitions.{IsPartition, StandsOnDevices, StandsFor, StandsWith}
use Rattle.salt_paged.specs.declared.partition.Partition.{Partition}
use Rattle.salt_stands.specs.FirstOpening.{first_view}
use Rattle.salt_stands.specs.Pieces.{with_prepared_unit}
use Rattle.salt_values.specs.declared.change.Change.{Change}
use Rattle.salt_values.specs.declared.id.Id.{Id}
use Rattle.salt_values.specs.declared.value.Value.TheVariants.{Int, Null}
use Rattle.std.proofs.Common.{List, None, Some, [], pos, refl, ℕ, ◌∷◌}

abbrev unit : Id
unit = record { boot = 1; seq = 1 }

abbrev changes : List Change
changes = record { table = 0; key = Int (pos 1); row = Some (Int (pos 1) ∷ Null ∷ []) } ∷ record { table = 0; key = Int (pos 2); row = None } ∷ []

may_prepare : (p : ℕ) → MayPrepare (first_view 2 p) [] unit changes
may_prepare p = record { fresh = refl; new = refl; ordered = refl; each = ((refl, refl, (tt, (refl, tt))), (refl, tt)) }

stands : (d : View) (x : Partition) (p : ℕ) → IsPartition d x p (first_view 2 p) [] → StandsOnDevices d x
stands d x p is = record { p = p; v = first_view 2 p; applied = []; is = is }

stands_for : (d : View) (x : Partition) (p : ℕ) → IsPartition d x p (first_view 2 p) [] → StandsFor d x unit changes
stands_for d x p is = record { p = p; v = first_view 2 p; applied = []; is = is; may = may_prepare p }

stands_with : (d : View) (x : Partition) (p : ℕ) → IsPartition d x p (with_prepared_unit (first_view 2 p) (prepared unit changes)) [] → StandsWith d x unit
stands_with d x p is = record { p = p; v = with_prepared_unit (first_view 2 p) (prepared unit changes); applied = []; is = is; last = may_apply (first_view 2 p) [] unit changes (may_prepare p) }
