use Rattle.salt_scheduler.proofs.Done.{brings-none, brings-same, brings-told}
use Rattle.salt_scheduler.proofs.LinesDone.{nothing-first}
use Rattle.salt_scheduler.proofs.scheduler.Scheduler.first_of.Goals as goal
use Rattle.law_states.specs.Readings.{clash_by, items_by}
use Rattle.law_states.specs.Told.{line_in}
use Rattle.std.proofs.Common.{ap}
use Rattle.std.proofs.lemmas.Result.{IfOk-weaker}
use Rattle.std.specs.Prelude.{refl}

pub returns-in-Session : goal.returns-in-Session
returns-in-Session c = IfOk-weaker c.act_of.result _ _ (λ e given s r stands h.
    brings-same s _ _ _ _ (ap (line_in s.units (clash_by s) (items_by s r)) c.in-Session.is) (given s r stands h.serves)) c.act_of.ensures

pub returns-in-Go : goal.returns-in-Go
returns-in-Go c = IfOk-weaker c.go.result _ _ (λ e given s r stands h.
    brings-same s _ _ _ _ (ap (line_in s.units (clash_by s) (items_by s r)) c.in-Go.is) (given s r stands h.serves)) c.go.ensures

pub returns-in_ok-show_locks-in-ShowLocks : goal.returns-in_ok-show_locks-in-ShowLocks
returns-in_ok-show_locks-in-ShowLocks c = λ s r stands h.
    brings-same s _ _ _ _ (ap (line_in s.units (clash_by s) (items_by s r)) c.in-ShowLocks.is)
    (brings-told s _ _ _ (c.in_ok-show_locks-in-ShowLocks.ensures s r stands h.serves) refl)

pub returns-in_ok-show_bases-in-ShowBases : goal.returns-in_ok-show_bases-in-ShowBases
returns-in_ok-show_bases-in-ShowBases c = λ s r stands h.
    brings-same s _ _ _ _ (ap (line_in s.units (clash_by s) (items_by s r)) c.in-ShowBases.is)
    (brings-told s _ _ _ (c.in_ok-show_bases-in-ShowBases.ensures s r stands h.serves) refl)

pub returns-in_default : goal.returns-in_default
returns-in_default c = λ s r stands h.
    brings-none s _ _
    (nothing-first s.units (clash_by s) (items_by s r) c.args.line.now c.requires (λ t act is. c.in_default.not-Session t act is) (λ b is. c.in_default.not-Go b is)
    c.in_default.not-ShowLocks c.in_default.not-ShowBases)
    stands
