use Rattle.law_states.specs.KeptLocks.{Numbered}
use Rattle.salt_conflicts.proofs.Seen.{watch-shown}
use Rattle.salt_conflicts.proofs.watching.Watching.holds.Goals as goal
use Rattle.salt_conflicts.specs.Waiters.{HoldsAlready}
use Rattle.salt_model.specs.declared.events.Owner.{Owner}
use Rattle.std.proofs.Common.{map, option_copied, subst, sym}
use Rattle.std.specs.Prelude.{List}

pub returns : goal.returns
returns c = λ held w h.
    subst (λ (t : List Numbered). HoldsAlready (Owner.Unit c.args.unit) c.args.family (option_copied c.args.reach) (map (λ (n : Numbered). n.lock) t))
    (sym (watch-shown _ _ w c.self.view_is h).table) (c.holds.ensures held)
