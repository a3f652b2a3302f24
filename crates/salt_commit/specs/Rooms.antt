-- Room in the logs of a store, before anything is appended there.
use Rattle.salt_bytes.specs.Generations.{WhichLog}
use Rattle.salt_checkpoint.specs.Checkpoints.{StandsAlways}
use Rattle.salt_commit.specs.Stores.{Generation, IsStore, IsStoreDevice, numbers_in, reading, shape_of_store}
use Rattle.salt_commit.specs.Messages.{messages_of}
use Rattle.salt_commit.specs.declared.store.Store.{Store}
use Rattle.salt_disk.specs.Disks.{FullWhere, HasCause, KeepsBut, View}
use Rattle.salt_disk.specs.declared.disks.DiskErr.{DiskErr}
use Rattle.salt_model.specs.Kept.{Definition}
use Rattle.salt_room.specs.Making as room
use Rattle.salt_promise.specs.Filling.{CheckpointFills, RenewalFills}
use Rattle.salt_stands.specs.Coordinator.{Coordinator}
use Rattle.salt_stands.specs.Pieces.{PartView}
use Rattle.salt_values.specs.declared.change.Change.{Change}
use Rattle.std.specs.Prelude.{IsTrue, List, None, Option, Some, length, slice_get, ℕ, ◌<◌, ◌≡◌, ◌⊎◌}

-- the coordinator's log has room for one entry more
abbrev pub HasRoom : Store → Type 0
HasRoom x = room.HasRoom x.decisions

-- where a partition with one of these shares is begun anew
pub record ShareRoomFills (d : View) (parts : ℕ) (shares : List (List Change)) (dev : ℕ) : Type 0 where
  pub p : ℕ
  pub low : p < parts
  pub share : List Change
  pub at : slice_get shares p ≡ Some share
  pub some : 0 < length share
  pub fills : CheckpointFills d p dev

-- Behind Ok the store goes on in another generation, with room for one entry more of the coordinator's, and for one of each of these
-- shares; whatever is answered, each image stands for what stood before.
pub record HasMadeRoom (d e : View) (x y : Store) (shares : List (List Change)) (answer : Option DiskErr) : Type 0 where
  pub on : answer ≡ None → (which : WhichLog) (c : Coordinator Definition) (v : ℕ → PartView) → IsStore reading d x which c v → (g : Generation c v) × IsStore reading e y g.which g.coordinator g.views
  pub images : (which : WhichLog) (c : Coordinator Definition) (v : ℕ → PartView) → IsStore reading d x which c v → IsTrue d.told → StandsAlways reading e c v
  pub room : answer ≡ None → HasRoom y
  pub numbers : numbers_in y ≡ numbers_in x
  pub shape : shape_of_store y ≡ shape_of_store x
  pub messages : messages_of y ≡ messages_of x
  pub others : KeepsBut (IsStoreDevice (shape_of_store x).parts) d e answer
  pub cause : HasCause d e answer
  pub full : IsTrue d.told → FullWhere (λ dev. RenewalFills e (shape_of_store x) dev ⊎ ShareRoomFills e (shape_of_store x).parts shares dev) answer
