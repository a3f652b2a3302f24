-- What the fields of a store show, and that there are as many partitions as its shape has.
use Rattle.salt_bytes.specs.Generations.{WhichLog}
use Rattle.salt_commit.specs.Stores.{IsStore, reading, shape_of_store}
use Rattle.salt_commit.specs.declared.store.Store.TheInside.{Inside}
use Rattle.salt_commit.specs.declared.store.Store.{Store}
use Rattle.salt_disk.specs.Disks.{View}
use Rattle.salt_model.specs.Kept.{Definition}
use Rattle.salt_place.specs.declared.placement.Shape.{Shape}
use Rattle.salt_stands.specs.Coordinator.{Coordinator}
use Rattle.salt_stands.specs.Pieces.{PartView}
use Rattle.std.proofs.Common.{ap, length, sym, ℕ, ◌≡◌, ◌∙◌}

abbrev pub shown : Inside → Store
shown a = record { decisions = a.decisions; parts = a.parts.items; messages = a.messages }

-- of a store that stands
pub as_many : (d : View) (x : Store) (which : WhichLog) (c : Coordinator Definition) (v : ℕ → PartView) → IsStore reading d x which c v → length x.parts ≡ (shape_of_store x).parts
as_many d x which c v is = is.size ∙ sym (ap (λ (s : Shape). s.parts) is.decisions.holds.shape)
