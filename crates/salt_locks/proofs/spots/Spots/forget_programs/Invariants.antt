use Rattle.law_states.specs.KeptLocks.{is_base_among}
use Rattle.law_states.specs.Members.{In}
use Rattle.salt_locks.proofs.spots.Spots.forget_programs.Given as goal
use Rattle.salt_locks.specs.Spots.{AreSpotted}
use Rattle.salt_model.specs.declared.locks.Lock.{Lock}
use Rattle.salt_values.specs.declared.id.Id.{Id}
use Rattle.std.proofs.Common.{List, false, ◌≡◌}

abbrev pub invariant-loop-base : goal.invariant-loop-base
invariant-loop-base l =
    ((b : Id) → In b l.base-iterator → In b l.bases.keys)
    × ((ls : List Lock) → AreSpotted l.fn.self ls → ((x : Lock) → In x ls → is_base_among l.bases.keys x.owner ≡ false) → AreSpotted l.self ls)
