use Rattle.law_states.specs.KeptWaits.{Asker}
use Rattle.salt_conflicts.proofs.Seen.{watch-shown}
use Rattle.salt_conflicts.proofs.watching.Watching.has_waiting_program.Goals as goal
use Rattle.salt_conflicts.specs.Waiters.{has_program, is_of_program, waiter_of}
use Rattle.std.proofs.Common.{List, [], ap, map, refl, sym, ◌≡◌, ◌∙◌, ◌∷◌}
use Rattle.std.specs.List.{list_any}
use Rattle.std.specs.Prelude.{is_some, ◌||◌}

same-programs : (ws : List Asker) → list_any is_of_program (map waiter_of ws) ≡ has_program ws
same-programs [] = refl
same-programs (w ∷ ws) = ap (λ t. is_some w.base || t) (same-programs ws)

pub returns : goal.returns
returns c = λ w h.
    c.has_program.ensures ∙ (ap (list_any is_of_program) (c.deref.ensures.value ∙ sym (watch-shown _ _ w c.self.view_is h).waits) ∙ same-programs w.waits)
