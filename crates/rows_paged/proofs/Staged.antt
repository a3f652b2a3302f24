-- A partition goes on from one call to the next.
use Rattle.rows_paged.specs.Stages.{AreSettled, StandsEmpty}
use Rattle.salt_bytes.specs.Changes.{are_in_order}
use Rattle.salt_bytes.specs.Formats.{has_nulls}
use Rattle.salt_bytes.specs.Partition.{Prepared}
use Rattle.salt_bytes.specs.Spellable.{Every}
use Rattle.salt_checkpoint.proofs.Torn.{named_refl}
use Rattle.salt_checkpoint.specs.Checkpoints.{NamedSettled}
use Rattle.salt_checkpoint.specs.Sides.{NamedSame}
use Rattle.salt_codec.specs.Entries.{CanBePut}
use Rattle.salt_disk.specs.Disks.{AreUnchanged, IsRestarted, IsSettled, View}
use Rattle.salt_disk.specs.declared.disks.DiskErr.{DiskErr}
use Rattle.salt_paged.proofs.Framed.{partition_kept}
use Rattle.salt_paged.specs.Checkpoints.{IsCheckpointed}
use Rattle.salt_paged.specs.Openings.{SettlesNamed}
use Rattle.salt_paged.specs.Partitions.{IsPartition, StandsFor, StandsOnDevices}
use Rattle.salt_paged.specs.declared.partition.Partition.{Partition}
use Rattle.salt_stands.specs.Partition.{pages_device, part_device}
use Rattle.salt_stands.specs.Pieces.{PartView, is_prepared_in}
use Rattle.salt_values.specs.declared.change.Change.{Change}
use Rattle.salt_values.specs.declared.id.Id.{Id}
use Rattle.std.proofs.Common.{Err, List, Ok, OnOk, Result, [], ap, arith, refl, subst, sym, true, ℕ, ◌+◌, ◌≡◌}

-- a unit may be prepared where none is behind the header
pub may_prepare : (d : View) (x : Partition) (u : Id) (cs : List Change) → StandsEmpty d x → are_in_order cs ≡ true → Every (CanBePut true) cs → StandsFor d x u cs
may_prepare d x u cs s ordered put = record {
  p = s.p;
  v = s.v;
  applied = [];
  is = s.is;
  may = record {
    fresh = ap (λ (done : List Prepared). is_prepared_in u done) s.none;
    new = refl;
    ordered = ordered;
    each = subst (λ (format : ℕ). Every (CanBePut (has_nulls format)) cs) (sym s.format) put;
  };
}

-- none is behind a header that was just begun
pub none_behind : (d e : View) (x : Partition) (p : ℕ) (v : PartView) (applied : List Id) → IsCheckpointed d e x p v applied → StandsEmpty e x
none_behind d e x p v applied now = record {
  p = p;
  v = now.view;
  is = now.is [];
  none = ap (λ (w : PartView). w.log.prepared) now.made.is;
  format = ap (λ (w : PartView). w.log.header.format) now.made.is;
}

-- it stands behind a call that went well
pub stands_then : {T : Type 0} (r : Result T DiskErr) (d : View) (x : Partition) (p : ℕ) (v : PartView) (applied : List Id) → OnOk r (IsPartition d x p v applied) → OnOk r (StandsOnDevices d x)
stands_then (Ok t) d x p v applied is = record { p = p; v = v; applied = applied; is = is }
stands_then (Err e) d x p v applied is = tt

-- and where no device has changed
pub stands_on : (d e : View) (x : Partition) → AreUnchanged d e → StandsOnDevices d x → StandsOnDevices e x
stands_on d e x are s = record {
  p = s.p;
  v = s.v;
  applied = s.applied;
  is = partition_kept d e x s.p s.v s.applied are.shape (are.each (part_device s.p)) (are.each (part_device s.p + 1)) (are.each (pages_device s.p)) s.is;
}

-- NOTHING IS PENDING
pub settled_behind : (d e : View) → IsRestarted d e → AreSettled e
settled_behind d e r dev low = r.settled dev (omega (arith, low, r.shape.count))

named : (sides : List ℕ) (d : View) (dev : ℕ) → IsSettled d dev → NamedSettled sides d dev
named sides d dev settled c left = subst (λ (bytes : List ℕ). NamedSame sides (d.bytes dev) bytes) (sym (settled c left)) (named_refl sides (d.bytes dev))

pub named_settled : (d : View) (p : ℕ) → IsSettled d (pages_device p) → SettlesNamed d p
named_settled d p settled log counts = named log.header.sides d (pages_device p) settled
