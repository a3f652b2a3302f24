-- What calls make of the parts that are kept.
use Rattle.salt_deps.specs.Kept.{dependencies}
use Rattle.law_states.specs.DependencyCalls.{AreSame, HasAbandoned, HasRead}
use Rattle.law_states.specs.KeptLocks.{Numbered, is_base_among}
use Rattle.law_states.specs.KeptSources.{Dependencies}
use Rattle.salt_locks.specs.Tables.{is_of_another, put, salted}
use Rattle.salt_model.specs.Locks.{lock_of}
use Rattle.salt_model.specs.declared.events.Owner.{Owner}
use Rattle.salt_model.specs.declared.locks.Family.{Family}
use Rattle.salt_model.specs.declared.locks.Reach.{Reach}
use Rattle.salt_values.specs.declared.id.Id.{Id}
use Rattle.salt_conflicts.specs.declared.watching.Watching.{Watching}
use Rattle.std.specs.List.{filter}
use Rattle.std.specs.Prelude.{Bool, List, None, Option, Some, map, not, ◌+◌, ◌≡◌}

-- a lock of none of these programs
abbrev pub is_unreleased : List Id → Numbered → Bool
is_unreleased bs n = not (is_base_among bs n.lock.owner)

-- the locks behind a commit: the unit's are its program's now, or gone
abbrev pub handed_over : Id → Option Id → List Numbered → List Numbered
handed_over u None table = filter (is_of_another (Owner.Unit u)) table
handed_over u (Some b) table = map (salted u b) table

-- a program reads a reach, where there is one
abbrev pub HasReadBy : Option Id → Reach → Dependencies → Dependencies → Type 0
HasReadBy None r old new = AreSame old new
HasReadBy (Some b) r old new = HasRead b r old new

-- a program is given up, where there is one
abbrev pub HasGivenUp : Option Id → Dependencies → Dependencies → Type 0
HasGivenUp None old new = AreSame old new
HasGivenUp (Some b) old new = HasAbandoned b old new

-- what a unit's statement reached has the next lock, and is read by its program
pub record HasReached (u : Id) (base : Option Id) (family : Family) (r : Reach) (old new : Watching) : Type 0 where
  pub table : new.locks ≡ put (record { number = old.taken; lock = lock_of (Owner.Unit u) family r }) old.locks
  pub taken : new.taken ≡ old.taken + 1
  pub waits : new.waits ≡ old.waits
  pub programs : new.programs ≡ old.programs
  pub reads : HasReadBy base r (dependencies old.deps) (dependencies new.deps)
