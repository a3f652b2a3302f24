-- Whose locks go at once, and what stays.
use Rattle.law_states.specs.KeptLocks.{Numbered, is_base_among}
use Rattle.salt_locks.specs.declared.leaving.Leaving.TheVariants.{One, Programs}
use Rattle.salt_locks.specs.declared.leaving.Leaving.{Leaving}
use Rattle.salt_model.specs.Locks.{is_same_owner}
use Rattle.salt_model.specs.declared.events.Owner.{Owner}
use Rattle.std.specs.Prelude.{Bool, not}

abbrev pub is_leaving : Leaving → Owner → Bool
is_leaving (One o) p = is_same_owner o p
is_leaving (Programs bases) p = is_base_among bases.now.keys p

-- a lock stays
abbrev pub stays : Leaving → Numbered → Bool
stays leaving n = not (is_leaving leaving n.lock.owner)
