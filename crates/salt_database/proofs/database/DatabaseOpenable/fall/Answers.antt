use Rattle.salt_database.proofs.Halved.{has-made, left-by, left-has, left-within}
use Rattle.salt_database.proofs.Netted.{unfound-lies}
use Rattle.salt_database.proofs.database.DatabaseOpenable.fall.Goals as goal
use Rattle.salt_database.specs.Halves.{IsLeftBy, IsMade}
use Rattle.std.proofs.Common.{subst, sym, ◌∙◌}

pub fall-requires : goal.fall-requires
fall-requires g c =
    left-has (g.S.Storage.able (g.D.Disks.view c.args.disks.now)) c.args.self.now c.into_opening-opening.result
    (subst (λ x. IsLeftBy x c.into_opening-opening.result) c.replace.ensures.value c.into_opening-opening.ensures) c.requires

pub returns-clause-reopens : goal.returns-clause-reopens
returns-clause-reopens g c = λ room p q lies fell.
    let o = c.into_opening-opening.result in
    let now = c.fall.new.self in
    let left = subst (λ x. IsLeftBy x o) c.replace.ensures.value c.into_opening-opening.ensures in
    let l = left-by g.S.Storage.asked g.S.Storage.net _ _ _ room p c.args.self.now o left lies in (
      c.fall.ensures.reopens room p q l.0 fell,
      unfound-lies (g.S.Storage.asked o.storage) (g.S.Storage.asked now.storage) (g.S.Storage.net now.storage) now.found q.state c.fall.ensures.unfound (fell.after.over_net ∙ l.1) c.fall.ensures.within.asked,
    )

pub returns-clause-within : goal.returns-clause-within
returns-clause-within g c =
    left-within g.S.Storage.asked _ c.args.self.now _ _ _ _ (subst (λ x. IsLeftBy x c.into_opening-opening.result) c.replace.ensures.value c.into_opening-opening.ensures) c.fall.ensures.within

pub returns-clause-faults : goal.returns-clause-faults
returns-clause-faults g c = c.fall.ensures.faults

pub returns-clause-stops : goal.returns-clause-stops
returns-clause-stops g c = c.fall.ensures.stops

pub returns-clause-settled : goal.returns-clause-settled
returns-clause-settled g c = c.fall.ensures.settled

pub into_opening-opening-requires : goal.into_opening-opening-requires
into_opening-opening-requires g c = subst IsMade (sym c.replace.ensures.value) (has-made _ _ c.args.self.now c.requires)

pub returns-clause-able : goal.returns-clause-able
returns-clause-able g c = c.fall.ensures.able
