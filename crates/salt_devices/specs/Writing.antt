-- What can be written of a unit, as far as memory tells.
use Rattle.salt_bytes.specs.Changes.{are_in_order}
use Rattle.salt_bytes.specs.Spellable.{Every}
use Rattle.salt_bytes.specs.declared.moves.Move.{Move}
use Rattle.salt_codec.specs.Entries.{CanBePut}
use Rattle.salt_codec.specs.Moves.{IsShortMove}
use Rattle.salt_commit.specs.Messages.{IsNewIn}
use Rattle.salt_commit.specs.Stores.{last_boot}
use Rattle.salt_commit.specs.declared.store.Store.{Store}
use Rattle.salt_values.specs.declared.change.Change.{Change}
use Rattle.salt_values.specs.declared.id.Id.{Id}
use Rattle.std.specs.Prelude.{List, true, ◌≡◌, ◌≤◌}

-- its changes can be put, in order, and its move spelled; its boot has begun, and it was not started in the net
pub record CanBeWritten (x : Store) (u : Id) (cs : List Change) (m : Move) : Type 0 where
  pub put : Every (CanBePut true) cs
  pub ordered : are_in_order cs ≡ true
  pub short : IsShortMove m
  pub begun : u.boot ≤ last_boot x
  pub new : IsNewIn x u
