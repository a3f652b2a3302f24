-- The answer of a move that is followed.
use Rattle.salt_found.specs.declared.error.ContErr.TheVariants.{Memory, NotMove}
use Rattle.salt_found.specs.declared.error.ContErr.{ContErr}
use Rattle.salt_stands.specs.OpenConts.{do_rise}
use Rattle.salt_values.specs.declared.cont.Cont.{Cont}
use Rattle.std.specs.Prelude.{Err, List, None, Ok, Option, Result, Some, true, ⊤, ◌≡◌}

-- these continuations are left, and they rise
abbrev pub LeavesConts : {A : Type 0} → Result A ContErr → List Cont → Option (List Cont) → Type 0
LeavesConts (Ok x) conts going = (going ≡ Some conts) × (do_rise conts ≡ true)
LeavesConts (Err NotMove) conts going = going ≡ None
LeavesConts (Err Memory) conts going = ⊤
