use Rattle.salt_scheduler.proofs.scheduler.Scheduler.settle.Goals as goal
use Rattle.law_states.specs.Readings.{beside_by}
use Rattle.salt_scheduler.proofs.Done.{brings-none, brings-same, brings-told}
use Rattle.salt_scheduler.proofs.SettleDone.{none-of, settles-nothing, settles-serves, settles-victim, watched-anew}
use Rattle.std.proofs.lemmas.Result.{IfOk-weaker}
use Rattle.std.proofs.Common.{sym, ◌∙◌}
use Rattle.std.specs.Prelude.{refl}

pub returns-in-Some : goal.returns-in-Some
returns-in-Some c = λ s r stands serves.
    let sought = c.in_ok-unit.ensures s r stands serves.sound in
    brings-same s _ _ _ _
    (settles-victim s.units (beside_by s r) c.in-Some.unit (sym sought.0 ∙ c.in-Some.is))
    (brings-told s _ _ _ (c.in_ok-end.ensures s r sought.1 serves) refl)

pub returns-in-Some-served : goal.returns-in-Some-served
returns-in-Some-served c =
    IfOk-weaker c.serve.result _ _ (λ e h s r stands serves.
    let sought = c.in_ok-unit.ensures s r stands serves.sound in
    let found = c.in_ok-served.ensures s.watch sought.1.watch in
    brings-same s _ _ _ _
    (settles-serves s.units (beside_by s r) c.in-Some-served.unit
    (sym sought.0 ∙ none-of c.in_ok-unit.field-0 c.in_default.not-Some)
    (sym found.0 ∙ c.in-Some-served.is))
    (h s r (watched-anew _ _ s refl refl refl refl found.1 sought.1) serves)) c.serve.ensures

pub returns-in-None : goal.returns-in-None
returns-in-None c = λ s r stands serves.
    let sought = c.in_ok-unit.ensures s r stands serves.sound in
    let found = c.in_ok-served.ensures s.watch sought.1.watch in
    brings-none s _ _
    (settles-nothing s.units (beside_by s r)
    (sym sought.0 ∙ none-of c.in_ok-unit.field-0 c.in_default.not-Some)
    (sym found.0 ∙ c.in-None.is))
    (watched-anew _ _ s refl refl refl refl found.1 sought.1)
