-- A segment is complete where no turn is owed, and a turn that stands is owed.
use Rattle.salt_model.specs.Played.{IsPlayed}
use Rattle.salt_model.specs.Trace.{Trace, from, ◌asks◌, ◌says◌, ◌turns◌}
use Rattle.salt_model.specs.Turns.{next_to_go, next_turn, turn_owed}
use Rattle.salt_promise.specs.EarlyOpenings.{GivesTurns}
use Rattle.salt_values.specs.declared.id.Id.{Id}
use Rattle.std.proofs.Common.{subst}
use Rattle.std.specs.Option.{option_or}
use Rattle.std.specs.Prelude.{None, Option, Some, ◌≡◌}

owes-none : (trace : Trace) → next_turn trace ≡ None → turn_owed trace ≡ None
owes-none trace n = go (next_to_go trace) n
  where
    go : (o : Option Id) → option_or o (turn_owed trace) ≡ None → turn_owed trace ≡ None
    go None h = h
    go (Some b) h = cc

is-owed : (trace : Trace) (b : Id) → next_turn trace ≡ Some b → next_to_go trace ≡ None → turn_owed trace ≡ Some b
is-owed trace b n none = subst (λ o. option_or o (turn_owed trace) ≡ Some b) none n

pub gives-turns : (trace : Trace) → IsPlayed trace → GivesTurns trace
gives-turns (from k) p = tt
gives-turns (trace asks asked) p = (gives-turns trace p.0, owes-none trace p.1.2)
gives-turns (trace turns b) p = (gives-turns trace p.0, is-owed trace b p.3)
gives-turns (trace says e) p = gives-turns trace p.0
