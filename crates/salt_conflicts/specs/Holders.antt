-- Whose locks hold up the units that wait: where each is held up by a lock, nobody is served until one of those goes.
use Rattle.law_states.specs.KeptLocks.{Numbered}
use Rattle.law_states.specs.Members.{In}
use Rattle.salt_conflicts.specs.Waiters.{holds_up}
use Rattle.salt_conflicts.specs.declared.waiters.Waiter.{Waiter}
use Rattle.salt_locks.specs.Tables.{locks_in}
use Rattle.salt_model.specs.Locks.{is_same_owner}
use Rattle.salt_model.specs.declared.events.Owner.{Owner}
use Rattle.salt_model.specs.declared.locks.Lock.{Lock}
use Rattle.std.specs.List.{list_any}
use Rattle.std.specs.Prelude.{Bool, IsTrue, List, Some, true, ◌≡◌}

abbrev pub is_among : Owner → List Owner → Bool
is_among o os = list_any (is_same_owner o) os

-- a held lock of one of these owners clashes with what the unit asks for
abbrev pub IsHeldUp : List Owner → List Lock → Waiter → Type 0
IsHeldUp os ls w = (l : Lock) × In l ls × In l.owner os × (holds_up (Some l) w.reach w.unit w.family ≡ true)

abbrev pub AreHeldUp : List Owner → List Lock → List Waiter → Type 0
AreHeldUp os ls ws = (w : Waiter) → In w ws → IsHeldUp os ls w

-- where it is known that all who wait are held up, they are, by locks of these owners
abbrev pub KnowsHolders : Bool → List Owner → List Numbered → List Waiter → Type 0
KnowsHolders held os table ws = IsTrue held → AreHeldUp os (locks_in table) ws
