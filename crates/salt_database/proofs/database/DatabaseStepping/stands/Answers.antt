use Rattle.salt_database.proofs.Halved.{closed-held, moving-sees, open-sees}
use Rattle.salt_database.proofs.database.DatabaseStepping.stands.Goals as goal

pub returns-in-Closed-clause-of_told : goal.returns-in-Closed-clause-of_told
returns-in-Closed-clause-of_told g c = λ next s h.
    let held = closed-held g.S.Storage.asked g.S.Storage.net _ _ _ c.args.self.now c.in-Closed.opening next s c.in-Closed.is h in
    c.stands.ensures.told held.0 held.1

pub returns-in-Open-clause-of_told : goal.returns-in-Open-clause-of_told
returns-in-Open-clause-of_told g c = λ next s h.
    c.stands-in-Open.ensures.of_told next s (open-sees g.S.Storage.asked g.S.Storage.net _ _ _ c.args.self.now c.in-Open.engine next s c.in-Open.is h)

pub returns-in-Moving-clause-of_told : goal.returns-in-Moving-clause-of_told
returns-in-Moving-clause-of_told g c = λ next s h. absurd (moving-sees g.S.Storage.asked g.S.Storage.net _ _ _ c.args.self.now next s c.in-Moving.is h)
