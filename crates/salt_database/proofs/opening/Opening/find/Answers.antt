use Rattle.salt_engine.specs.Standing.{IsBrokenStage}
use Rattle.salt_driver.proofs.Untold.{told-then}
use Rattle.salt_database.proofs.FindDone.{again-found, alone-there, broken-books, broken-stage, can-find, either-way, found-lies, left-behind, left-found, left-still, lies-still, was-found}
use Rattle.salt_database.proofs.Netted.{looked-lies}
use Rattle.salt_database.proofs.Spent.{may-fail-at}
use Rattle.salt_database.proofs.opening.Opening.find.Goals as goal
use Rattle.salt_engine.proofs.Counted.{same-cause}
use Rattle.salt_engine.specs.Flights.{flight_of}
use Rattle.salt_driver.proofs.Counted.{counts-cause}
use Rattle.salt_storage.proofs.Staying.{stays-same}
use Rattle.std.proofs.Common.{[], ap, refl, subst, sym}
use Rattle.std.proofs.lemmas.Result.{IfErr-weaker, on_ok_weaker}

-- BEHIND A FALL

pub find_behind-requires-clause-settled : goal.find_behind-requires-clause-settled
find_behind-requires-clause-settled g c = (can-find _ _ c.args.self.now.found c.args.self.now.stage c.in-None.is c.requires.settled).0

pub find_behind-requires-clause-left : goal.find_behind-requires-clause-left
find_behind-requires-clause-left g c = λ told.
    let d = c.requires.down told in
    let l = left-behind _ _ _ c.args.self.now.found d.0 d.1 c.in-None.is d.4.left in
    (l.0, l.1, l.2)

pub returns-in-None-clause-found : goal.returns-in-None-clause-found
returns-in-None-clause-found g c = on_ok_weaker c.find_behind.result (λ some.
    again-found _ _ _ some (λ now.
    let d = c.requires.down (told-then c.find_behind.ensures.within.shape now) in
    subst IsBrokenStage (sym c.find_behind.ensures.stage) (broken-stage c.args.self.now.stage d.1.state.units (can-find _ _ c.args.self.now.found c.args.self.now.stage c.in-None.is c.requires.settled).1 d.4.knows))) c.find_behind.ensures.some

pub returns-in-None-clause-again : goal.returns-in-None-clause-again
returns-in-None-clause-again g c = λ other room p sound fallen lies.
    let b = broken-books c.args.self.now.stage p.state.units (can-find _ _ c.args.self.now.found c.args.self.now.stage c.in-None.is c.requires.settled).1 lies.knows in
    let same = c.find_behind.ensures.within.shape.can_stop in
    either-way c.find_behind.result _ _ _
    (λ f. found-lies _ _ _ _ _ _ _ _ _ _ _ _ _ _ c.in-None.is c.find_behind.ensures.stage room p lies b.0 (λ l m left. f b.0 l m b.1 left) same c.find_behind.ensures.single c.find_behind.ensures.flies)
    (λ unfound leaves. lies-still _ _ _ _ _ _ _ _ _ _ _ _ _ _ c.in-None.is c.find_behind.ensures.stage room p lies unfound leaves same c.find_behind.ensures.single c.find_behind.ensures.flies)
    c.find_behind.ensures.found c.find_behind.ensures.unfound c.find_behind.ensures.leaves

pub returns-in-None-clause-stands : goal.returns-in-None-clause-stands
returns-in-None-clause-stands g c = λ room p sound fallen lies.
    let view = g.D.Disks.view in
    let holds = g.S.Storage.holds (view c.args.disks.now) c.args.self.now.storage in
    let now = g.S.Storage.holds (view c.find_behind.new.disks) c.find_behind.new.self.storage in
    let leaves = g.S.Storage.leaves (view c.args.disks.now) c.args.self.now.storage in
    let again = g.S.Storage.leaves (view c.find_behind.new.disks) c.find_behind.new.self.storage in
    let b = broken-books c.args.self.now.stage p.state.units (can-find _ _ c.args.self.now.found c.args.self.now.stage c.in-None.is c.requires.settled).1 lies.knows in
    let stoppable = (view c.find_behind.new.disks).can_stop in
    let single = c.find_behind.new.self.single in
    let in_flight = c.find_behind.new.self.in_flight in
    let flies = c.find_behind.ensures.flies in (
      either-way c.find_behind.result _ _ _
          (λ f. left-found holds now leaves again _ stoppable _ c.find_behind.new.self.found _ _ _ single _ in_flight c.in-None.is c.find_behind.ensures.stage room p lies flies b.0 (λ l m left. f b.0 l m b.1 left))
          (λ unfound more. left-still holds now leaves again _ stoppable _ c.find_behind.new.self.found _ _ _ single _ in_flight c.in-None.is c.find_behind.ensures.stage room p lies flies unfound more)
          c.find_behind.ensures.found c.find_behind.ensures.unfound c.find_behind.ensures.leaves,
      alone-there holds now leaves again _ stoppable _ c.find_behind.new.self.found _ _ _ single _ in_flight c.in-None.is c.find_behind.ensures.stage room p lies
          (g.S.Storage.rests (view c.find_behind.new.disks) c.find_behind.new.self.storage) c.find_behind.result c.find_behind.ensures.known,
    )

pub returns-in-None-clause-later : goal.returns-in-None-clause-later
returns-in-None-clause-later g c = IfErr-weaker c.find_behind.result _ _ (λ e h room p sound fallen lies.
    let l = left-behind _ _ _ c.args.self.now.found room p c.in-None.is lies.left in
    may-fail-at _ _ c.args.self.now.in_flight room p l.0 l.1 e lies.flies l.3 l.4 (h l.0 l.1 l.2)) c.find_behind.ensures.known

pub returns-in-None-clause-flies : goal.returns-in-None-clause-flies
returns-in-None-clause-flies g c = ap flight_of c.find_behind.ensures.flies

pub returns-in-None-clause-counts : goal.returns-in-None-clause-counts
returns-in-None-clause-counts g c = counts-cause _ _ _ [] refl c.find_behind.ensures.cause

-- IT WAS FOUND already

pub returns-in-Some-clause-found : goal.returns-in-Some-clause-found
returns-in-Some-clause-found g c =
    was-found _ _ c.args.self.now.found c.in-Some._numbers c.args.self.now.stage c.in-Some.is c.requires.settled

pub returns-in-Some-clause-again : goal.returns-in-Some-clause-again
returns-in-Some-clause-again g c = λ other room p sound fallen lies. lies

pub returns-in-Some-clause-stands : goal.returns-in-Some-clause-stands
returns-in-Some-clause-stands g c = λ room p sound fallen lies. (lies.left, tt)

pub returns-in-Some-clause-counts : goal.returns-in-Some-clause-counts
returns-in-Some-clause-counts g c = counts-cause _ _ _ [] refl (same-cause (g.D.Disks.view c.args.disks.now))

pub find_behind-requires-clause-callable : goal.find_behind-requires-clause-callable
find_behind-requires-clause-callable g c = c.requires.callable

pub find_behind-requires-clause-answers : goal.find_behind-requires-clause-answers
find_behind-requires-clause-answers g c = c.requires.answers

pub returns-in-None-clause-within : goal.returns-in-None-clause-within
returns-in-None-clause-within g c = c.find_behind.ensures.within

pub returns-in-None-clause-full : goal.returns-in-None-clause-full
returns-in-None-clause-full g c = c.find_behind.ensures.full

pub returns-in-Some-clause-within : goal.returns-in-Some-clause-within
returns-in-Some-clause-within g c = stays-same _ (g.D.Disks.view c.args.disks.now)

pub returns-in-Some-clause-flies : goal.returns-in-Some-clause-flies
returns-in-Some-clause-flies g c = refl

pub returns-in-None-clause-begun : goal.returns-in-None-clause-begun
returns-in-None-clause-begun g c = λ s h.
    let now = c.find_behind.new.self in
    looked-lies c.find_behind.result (g.S.Storage.asked c.args.self.now.storage) (g.S.Storage.asked now.storage) (g.S.Storage.net now.storage) c.args.self.now.found now.found s c.in-None.is h.over
    c.find_behind.ensures.within.asked c.find_behind.ensures.begun c.find_behind.ensures.unfound

pub returns-in-Some-clause-begun : goal.returns-in-Some-clause-begun
returns-in-Some-clause-begun g c = λ s h. h

pub returns-in-None-clause-able : goal.returns-in-None-clause-able
returns-in-None-clause-able g c = c.find_behind.ensures.able

pub returns-in-Some-clause-able : goal.returns-in-Some-clause-able
returns-in-Some-clause-able g c = c.requires.able

pub returns-in-None-clause-late : goal.returns-in-None-clause-late
returns-in-None-clause-late g c = c.find_behind.ensures.late
