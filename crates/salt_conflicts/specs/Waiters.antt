-- Waiting units without their statements: nobody else's waits hang on those.
use Rattle.law_states.specs.KeptWaits.{Asker}
use Rattle.law_states.specs.Members.{In}
use Rattle.salt_model.specs.Locks.{clashes, lock_of}
use Rattle.salt_model.specs.declared.events.Owner.{Owner}
use Rattle.salt_model.specs.declared.locks.Family.{Family}
use Rattle.salt_model.specs.declared.locks.Lock.{Lock}
use Rattle.salt_model.specs.declared.locks.Reach.{Reach}
use Rattle.salt_values.specs.declared.id.Id.{Id}
use Rattle.salt_values.specs.Id.{is_same_id}
use Rattle.salt_conflicts.specs.declared.waiters.Waiter.{Waiter}
use Rattle.std.specs.List.{list_any}
use Rattle.std.specs.Prelude.{Bool, List, None, Option, Some, false, is_some, map, not}

-- what is kept of a unit that asks
abbrev pub waiter_of : Asker → Waiter
waiter_of a = record { unit = a.unit; base = a.base; family = a.family; reach = a.reach }

-- a waiter as a unit that asks, whatever its statement is
abbrev pub asker_of : Waiter → Asker
asker_of w = record { unit = w.unit; base = w.base; family = w.family; asked = None; reach = w.reach }

abbrev pub askers : List Waiter → List Asker
askers ws = map asker_of ws

abbrev pub is_this : Id → Waiter → Bool
is_this u w = is_same_id w.unit u

abbrev pub is_another : Id → Waiter → Bool
is_another u w = not (is_same_id w.unit u)

-- a unit of a program
abbrev pub is_of_program : Waiter → Bool
is_of_program w = is_some w.base

-- some waiting unit is one of a program
abbrev pub has_program : List Asker → Bool
has_program ws = list_any (λ (a : Asker). is_some a.base) ws

-- a lock clashes with what a unit asks for
abbrev pub holds_up : Option Lock → Option Reach → Id → Family → Bool
holds_up (Some l) (Some r) u f = clashes (Owner.Unit u) f r l
holds_up lock reach u f = false

-- just the lock that an owner asks for is held
abbrev pub HoldsAlready : Owner → Family → Option Reach → List Lock → Type 0
HoldsAlready owner f None ls = ⊥
HoldsAlready owner f (Some r) ls = In (lock_of owner f r) ls
