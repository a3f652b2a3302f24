use Rattle.salt_books.specs.declared.coming.Coming.TheVariants.{Act, Branch, Commit, Nothing, Told}
use Rattle.salt_engine.proofs.Counted.{cause-broken, same-cause}
use Rattle.salt_engine.proofs.Outcome.{by-err, not-ok}
use Rattle.salt_engine.proofs.Netted.{meant-sent, plain-sent, sent-as}
use Rattle.salt_engine.proofs.Providing.{act-asked, act-before, act-event, act-given, act-meant, act-undone, act-unit, asks-as, branch-before, branch-given, branch-undone, branch-unit, commit-before, commit-event, commit-given, commit-meant, commit-named, commit-undone, commit-unit, given-as, nothing-given, told-given, undone-as}
use Rattle.salt_driver.proofs.Untold.{not-both}
use Rattle.salt_engine.proofs.Doing.{comes-done}
use Rattle.salt_engine.proofs.Untold.{held-untold, stored-held}
use Rattle.salt_engine.proofs.given.provide.Goals as goal
use Rattle.salt_engine.specs.Giving.{CanBeDone}
use Rattle.salt_engine.specs.declared.given.Given.TheVariants as given
use Rattle.salt_storage.proofs.Staying.{stays-same}
use Rattle.std.proofs.Common.{refl, subst, sym, ◌∙◌}

-- nothing is asked

pub returns-in-Nothing-clause-given : goal.returns-in-Nothing-clause-given
returns-in-Nothing-clause-given g c = λ s.
    given-as _ _ _ _ _ c.args.books.now c.args.coming Nothing given.Nothing s c.in-Nothing.is (nothing-given _ _ _ c.args.books.now s c.requires.none)

pub returns-in-Nothing-clause-within : goal.returns-in-Nothing-clause-within
returns-in-Nothing-clause-within g c = stays-same _ (g.D.Disks.view c.args.disks.now)

pub returns-in-Nothing-clause-cause : goal.returns-in-Nothing-clause-cause
returns-in-Nothing-clause-cause g c = same-cause (g.D.Disks.view c.args.disks.now)

pub returns-in-Told-clause-given : goal.returns-in-Told-clause-given
returns-in-Told-clause-given g c = λ s.
    let e = c.in-Told.event in
    given-as _ _ _ _ _ c.args.books.now c.args.coming (Told e) (given.Told e) s c.in-Told.is (told-given _ _ _ c.args.books.now e s c.requires.none)

pub returns-in-Told-clause-within : goal.returns-in-Told-clause-within
returns-in-Told-clause-within g c = stays-same _ (g.D.Disks.view c.args.disks.now)

pub returns-in-Told-clause-cause : goal.returns-in-Told-clause-cause
returns-in-Told-clause-cause g c = same-cause (g.D.Disks.view c.args.disks.now)

-- rows

pub load-requires-clause-callable : goal.load-requires-clause-callable
load-requires-clause-callable g c = c.requires.callable

pub load-requires-clause-answers : goal.load-requires-clause-answers
load-requires-clause-answers g c = c.requires.answers

pub load-requires-clause-ready : goal.load-requires-clause-ready
load-requires-clause-ready g c = λ told.
    let ready = c.requires.ready told in
    let view = g.D.Disks.view c.args.disks.now in
    let holds = g.S.Storage.holds view c.args.storage.now in
    let is_new = g.S.Storage.is_new view c.args.storage.now in
    let x = c.args.books.now in
    let a = c.in-Act.asking in
    let s = ready.0 in
    let h = asks-as holds is_new x c.args.coming (Act a) s c.in-Act.is ready.1 in
    (s.units, act-unit holds is_new x a s h, act-before holds is_new x a s h, act-asked holds is_new x a s h)

pub returns-in_ok-rows-in-Act-clause-given : goal.returns-in_ok-rows-in-Act-clause-given
returns-in_ok-rows-in-Act-clause-given g c = λ s.
    let x = c.args.books.now in
    let a = c.in-Act.asking in
    let rows = c.in_ok-rows-in-Act.rows in
    given-as _ _ _ _ _ x c.args.coming (Act a) (given.Rows a rows) s c.in-Act.is
    (λ h. act-given _ _ x a s h _ _ _ rows c.requires.none (c.in_ok-rows-in-Act.ensures.stored s.units h.stored)
    (c.in_ok-rows-in-Act.ensures.rows s.units h.stored) c.in_ok-rows-in-Act.ensures.keyed)

pub returns-in_ok-rows-in-Act-clause-within : goal.returns-in_ok-rows-in-Act-clause-within
returns-in_ok-rows-in-Act-clause-within g c = c.load.ensures.within

pub returns-in_ok-rows-in-Act-clause-cause : goal.returns-in_ok-rows-in-Act-clause-cause
returns-in_ok-rows-in-Act-clause-cause g c = c.in_ok-rows-in-Act.ensures.cause

pub returns-in_ok-rows-in-Act-clause-still : goal.returns-in_ok-rows-in-Act-clause-still
returns-in_ok-rows-in-Act-clause-still g c = λ is told. let no = sym is ∙ c.in-Act.is in cc

pub returns-in_err-rows-in-Act-clause-given : goal.returns-in_err-rows-in-Act-clause-given
returns-in_err-rows-in-Act-clause-given g c = not-ok _ _ c.from_residual.result c.from_residual.ensures.1

pub returns-in_err-rows-in-Act-clause-undone : goal.returns-in_err-rows-in-Act-clause-undone
returns-in_err-rows-in-Act-clause-undone g c =
    let x = c.args.books.now in
    let a = c.in-Act.asking in
    by-err _ c.from_residual.result _ c.from_residual.ensures.1 (λ s.
    undone-as _ _ _ _ _ _ x c.args.coming (Act a) s c.in-Act.is (λ h.
    act-undone _ _ x a s h _ _ _ _ c.requires.none
    (c.in_err-rows-in-Act.ensures.undone s.units (act-unit _ _ x a s h) (act-before _ _ x a s h) (act-asked _ _ x a s h))))

pub returns-in_err-rows-in-Act-clause-within : goal.returns-in_err-rows-in-Act-clause-within
returns-in_err-rows-in-Act-clause-within g c = c.load.ensures.within

pub returns-in_err-rows-in-Act-clause-cause : goal.returns-in_err-rows-in-Act-clause-cause
returns-in_err-rows-in-Act-clause-cause g c = cause-broken _ _ c.from_residual.result _ c.from_residual.ensures.1 c.in_err-rows-in-Act.ensures.cause

pub returns-in_err-rows-in-Act-clause-still : goal.returns-in_err-rows-in-Act-clause-still
returns-in_err-rows-in-Act-clause-still g c = λ is told. let no = sym is ∙ c.in-Act.is in cc

-- a commit

pub decide_commit-requires-clause-callable : goal.decide_commit-requires-clause-callable
decide_commit-requires-clause-callable g c = c.requires.callable

pub decide_commit-requires-clause-answers : goal.decide_commit-requires-clause-answers
decide_commit-requires-clause-answers g c = c.requires.answers

pub decide_commit-requires-clause-ready : goal.decide_commit-requires-clause-ready
decide_commit-requires-clause-ready g c = λ told.
    let ready = c.requires.ready told in
    let view = g.D.Disks.view c.args.disks.now in
    let holds = g.S.Storage.holds view c.args.storage.now in
    let is_new = g.S.Storage.is_new view c.args.storage.now in
    let x = c.args.books.now in
    let u = c.in-Commit.unit in
    let s = ready.0 in
    let h = asks-as holds is_new x c.args.coming (Commit u) s c.in-Commit.is ready.1 in
    (s.units, commit-unit holds is_new x u s h, commit-before holds is_new x u s h, commit-named holds is_new x u s h)

pub returns-in_ok-decided-in-Commit-clause-given : goal.returns-in_ok-decided-in-Commit-clause-given
returns-in_ok-decided-in-Commit-clause-given g c = λ s.
    let x = c.args.books.now in
    let u = c.in-Commit.unit in
    let decided = c.in_ok-decided-in-Commit.decided in
    given-as _ _ _ _ _ x c.args.coming (Commit u) (given.Committed u decided.made decided.number) s c.in-Commit.is
    (λ h. commit-given _ _ x u s h _ _ decided
    (c.in_ok-decided-in-Commit.ensures.committed s.units (commit-unit _ _ x u s h) (commit-before _ _ x u s h) (commit-named _ _ x u s h)))

pub returns-in_ok-decided-in-Commit-clause-within : goal.returns-in_ok-decided-in-Commit-clause-within
returns-in_ok-decided-in-Commit-clause-within g c = c.decide_commit.ensures.within

pub returns-in_ok-decided-in-Commit-clause-cause : goal.returns-in_ok-decided-in-Commit-clause-cause
returns-in_ok-decided-in-Commit-clause-cause g c = c.in_ok-decided-in-Commit.ensures.cause

pub returns-in_ok-decided-in-Commit-clause-still : goal.returns-in_ok-decided-in-Commit-clause-still
returns-in_ok-decided-in-Commit-clause-still g c = λ is told. let no = sym is ∙ c.in-Commit.is in cc

pub returns-in_err-decided-in-Commit-clause-given : goal.returns-in_err-decided-in-Commit-clause-given
returns-in_err-decided-in-Commit-clause-given g c = not-ok _ _ c.from_residual-in_err-decided-in-Commit.result c.from_residual-in_err-decided-in-Commit.ensures.1

pub returns-in_err-decided-in-Commit-clause-undone : goal.returns-in_err-decided-in-Commit-clause-undone
returns-in_err-decided-in-Commit-clause-undone g c =
    let x = c.args.books.now in
    let u = c.in-Commit.unit in
    by-err _ c.from_residual-in_err-decided-in-Commit.result _ c.from_residual-in_err-decided-in-Commit.ensures.1 (λ s.
    undone-as _ _ _ _ _ _ x c.args.coming (Commit u) s c.in-Commit.is (λ h.
    commit-undone _ _ x u s h _ _ _
    (c.in_err-decided-in-Commit.ensures.undone s.units (commit-unit _ _ x u s h) (commit-before _ _ x u s h) (commit-named _ _ x u s h))))

pub returns-in_err-decided-in-Commit-clause-within : goal.returns-in_err-decided-in-Commit-clause-within
returns-in_err-decided-in-Commit-clause-within g c = c.decide_commit.ensures.within

pub returns-in_err-decided-in-Commit-clause-cause : goal.returns-in_err-decided-in-Commit-clause-cause
returns-in_err-decided-in-Commit-clause-cause g c =
    cause-broken _ _ c.from_residual-in_err-decided-in-Commit.result _ c.from_residual-in_err-decided-in-Commit.ensures.1 c.in_err-decided-in-Commit.ensures.cause

pub returns-in_err-decided-in-Commit-clause-still : goal.returns-in_err-decided-in-Commit-clause-still
returns-in_err-decided-in-Commit-clause-still g c = λ is told. let no = sym is ∙ c.in-Commit.is in cc

-- a branch

pub decide_branch-requires-clause-callable : goal.decide_branch-requires-clause-callable
decide_branch-requires-clause-callable g c = c.requires.callable

pub decide_branch-requires-clause-answers : goal.decide_branch-requires-clause-answers
decide_branch-requires-clause-answers g c = c.requires.answers

pub decide_branch-requires-clause-ready : goal.decide_branch-requires-clause-ready
decide_branch-requires-clause-ready g c = λ told.
    let ready = c.requires.ready told in
    let view = g.D.Disks.view c.args.disks.now in
    let holds = g.S.Storage.holds view c.args.storage.now in
    let is_new = g.S.Storage.is_new view c.args.storage.now in
    let x = c.args.books.now in
    let arm = c.in-Branch in
    let s = ready.0 in
    let h = asks-as holds is_new x c.args.coming (Branch arm.unit arm.base arm.cause) s arm.is ready.1 in
    (s.units, arm.base, arm.cause, branch-before holds is_new x arm.unit arm.base arm.cause s h, branch-unit holds is_new x arm.unit arm.base arm.cause s h)

pub returns-in_ok-decided-in-Branch-clause-given : goal.returns-in_ok-decided-in-Branch-clause-given
returns-in_ok-decided-in-Branch-clause-given g c = λ s.
    let x = c.args.books.now in
    let arm = c.in-Branch in
    let u = arm.unit in
    let b = arm.base in
    let cause = arm.cause in
    let decided = c.in_ok-decided-in-Branch.decided in
    given-as _ _ _ _ _ x c.args.coming (Branch u b cause) (given.Branched u b cause decided.made decided.number) s arm.is
    (λ h. branch-given _ _ x u b cause s h _ _ decided
    (c.in_ok-decided-in-Branch.ensures.branched s.units b cause (branch-before _ _ x u b cause s h) (branch-unit _ _ x u b cause s h)))

pub returns-in_ok-decided-in-Branch-clause-within : goal.returns-in_ok-decided-in-Branch-clause-within
returns-in_ok-decided-in-Branch-clause-within g c = c.decide_branch.ensures.within

pub returns-in_ok-decided-in-Branch-clause-cause : goal.returns-in_ok-decided-in-Branch-clause-cause
returns-in_ok-decided-in-Branch-clause-cause g c = c.in_ok-decided-in-Branch.ensures.cause

pub returns-in_ok-decided-in-Branch-clause-still : goal.returns-in_ok-decided-in-Branch-clause-still
returns-in_ok-decided-in-Branch-clause-still g c = λ is told. let no = sym is ∙ c.in-Branch.is in cc

pub returns-in_err-decided-in-Branch-clause-given : goal.returns-in_err-decided-in-Branch-clause-given
returns-in_err-decided-in-Branch-clause-given g c = not-ok _ _ c.from_residual-in_err-decided-in-Branch.result c.from_residual-in_err-decided-in-Branch.ensures.1

pub returns-in_err-decided-in-Branch-clause-undone : goal.returns-in_err-decided-in-Branch-clause-undone
returns-in_err-decided-in-Branch-clause-undone g c =
    let x = c.args.books.now in
    let arm = c.in-Branch in
    let u = arm.unit in
    let b = arm.base in
    let cause = arm.cause in
    by-err _ c.from_residual-in_err-decided-in-Branch.result _ c.from_residual-in_err-decided-in-Branch.ensures.1 (λ s.
    undone-as _ _ _ _ _ _ x c.args.coming (Branch u b cause) s arm.is (λ h.
    branch-undone _ _ x u b cause s h _ _ _
    (c.in_err-decided-in-Branch.ensures.undone s.units b cause (branch-before _ _ x u b cause s h) (branch-unit _ _ x u b cause s h))))

pub returns-in_err-decided-in-Branch-clause-within : goal.returns-in_err-decided-in-Branch-clause-within
returns-in_err-decided-in-Branch-clause-within g c = c.decide_branch.ensures.within

pub returns-in_err-decided-in-Branch-clause-cause : goal.returns-in_err-decided-in-Branch-clause-cause
returns-in_err-decided-in-Branch-clause-cause g c =
    cause-broken _ _ c.from_residual-in_err-decided-in-Branch.result _ c.from_residual-in_err-decided-in-Branch.ensures.1 c.in_err-decided-in-Branch.ensures.cause

pub returns-in_err-decided-in-Branch-clause-still : goal.returns-in_err-decided-in-Branch-clause-still
returns-in_err-decided-in-Branch-clause-still g c = λ is told. let no = sym is ∙ c.in-Branch.is in cc

-- WHAT WAS SENT

pub returns-in-Nothing-clause-sent : goal.returns-in-Nothing-clause-sent
returns-in-Nothing-clause-sent g c = λ s h. sent-as (g.S.Storage.asked c.args.storage.now) _ _ c.args.coming Nothing s c.in-Nothing.is refl

pub returns-in-Told-clause-sent : goal.returns-in-Told-clause-sent
returns-in-Told-clause-sent g c = λ s k.
    let e = c.in-Told.event in
    let h = asks-as _ _ c.args.books.now c.args.coming (Told e) s c.in-Told.is k in
    sent-as (g.S.Storage.asked c.args.storage.now) _ _ c.args.coming (Told e) s c.in-Told.is (plain-sent (g.S.Storage.asked c.args.storage.now) e s.units _ h.can.0 h.can.1 h.plain)

pub returns-in_ok-rows-in-Act-clause-sent : goal.returns-in_ok-rows-in-Act-clause-sent
returns-in_ok-rows-in-Act-clause-sent g c = λ s k.
    let x = c.args.books.now in
    let a = c.in-Act.asking in
    let h = asks-as _ _ x c.args.coming (Act a) s c.in-Act.is k in
    sent-as (g.S.Storage.asked c.args.storage.now) _ _ c.args.coming (Act a) s c.in-Act.is (meant-sent (g.S.Storage.asked c.args.storage.now) _ _ (Act a) (act-event _ _ x a s h) s (act-meant _ _ x a s h)
    (c.in_ok-rows-in-Act.ensures.sent ∙ plain-sent (g.S.Storage.asked c.args.storage.now) (act-event _ _ x a s h) s.units _ refl refl refl))

pub returns-in_err-rows-in-Act-clause-sent : goal.returns-in_err-rows-in-Act-clause-sent
returns-in_err-rows-in-Act-clause-sent g c = not-ok _ _ c.from_residual.result c.from_residual.ensures.1

pub returns-in_ok-decided-in-Commit-clause-sent : goal.returns-in_ok-decided-in-Commit-clause-sent
returns-in_ok-decided-in-Commit-clause-sent g c = λ s k.
    let x = c.args.books.now in
    let u = c.in-Commit.unit in
    let h = asks-as _ _ x c.args.coming (Commit u) s c.in-Commit.is k in
    sent-as (g.S.Storage.asked c.args.storage.now) _ _ c.args.coming (Commit u) s c.in-Commit.is (meant-sent (g.S.Storage.asked c.args.storage.now) _ _ (Commit u) (commit-event _ _ x u s h) s (commit-meant _ _ x u s h)
    (c.in_ok-decided-in-Commit.ensures.sent s.units (commit-unit _ _ x u s h) (commit-before _ _ x u s h) (commit-named _ _ x u s h)))

pub returns-in_err-decided-in-Commit-clause-sent : goal.returns-in_err-decided-in-Commit-clause-sent
returns-in_err-decided-in-Commit-clause-sent g c = not-ok _ _ c.from_residual-in_err-decided-in-Commit.result c.from_residual-in_err-decided-in-Commit.ensures.1

pub returns-in_ok-decided-in-Branch-clause-sent : goal.returns-in_ok-decided-in-Branch-clause-sent
returns-in_ok-decided-in-Branch-clause-sent g c = λ s k.
    let x = c.args.books.now in
    let arm = c.in-Branch in
    let u = arm.unit in
    let b = arm.base in
    let cause = arm.cause in
    let h = asks-as _ _ x c.args.coming (Branch u b cause) s arm.is k in
    sent-as (g.S.Storage.asked c.args.storage.now) _ _ c.args.coming (Branch u b cause) s arm.is (c.in_ok-decided-in-Branch.ensures.sent s.units b cause (branch-before _ _ x u b cause s h) (branch-unit _ _ x u b cause s h))

pub returns-in_err-decided-in-Branch-clause-sent : goal.returns-in_err-decided-in-Branch-clause-sent
returns-in_err-decided-in-Branch-clause-sent g c = not-ok _ _ c.from_residual-in_err-decided-in-Branch.result c.from_residual-in_err-decided-in-Branch.ensures.1

pub reject-requires-clause-untold : goal.reject-requires-clause-untold
reject-requires-clause-untold g c = c.is_astray.ensures.untold c.if-is_astray.true

pub reject-requires-clause-able : goal.reject-requires-clause-able
reject-requires-clause-able g c = c.requires.able

pub returns-then-is_astray-clause-able : goal.returns-then-is_astray-clause-able
returns-then-is_astray-clause-able g c = c.reject.ensures.able

pub returns-then-is_astray-clause-undone : goal.returns-then-is_astray-clause-undone
returns-then-is_astray-clause-undone g c = λ s h.
    let k = stored-held _ _ c.args.coming s h.stored in
    absurd (held-untold _ (c.is_astray.ensures.untold c.if-is_astray.true) c.stands.ensures.told k.0 k.1)

pub returns-then-is_astray-clause-within : goal.returns-then-is_astray-clause-within
returns-then-is_astray-clause-within g c = c.reject.ensures.within

pub returns-then-is_astray-clause-cause : goal.returns-then-is_astray-clause-cause
returns-then-is_astray-clause-cause g c = c.reject.ensures.cause

pub returns-then-is_astray-clause-still : goal.returns-then-is_astray-clause-still
returns-then-is_astray-clause-still g c = λ is told. absurd (not-both (c.is_astray.ensures.untold c.if-is_astray.true) told)

pub load-requires-clause-able : goal.load-requires-clause-able
load-requires-clause-able g c = c.requires.able

pub decide_commit-requires-clause-able : goal.decide_commit-requires-clause-able
decide_commit-requires-clause-able g c = c.requires.able

pub decide_branch-requires-clause-able : goal.decide_branch-requires-clause-able
decide_branch-requires-clause-able g c = c.requires.able

pub decide_commit-requires-clause-there : goal.decide_commit-requires-clause-there
decide_commit-requires-clause-there g c = subst (CanBeDone c.args.books.now) c.in-Commit.is (comes-done _ _ _ c.args.books.now c.args.coming c.requires.ready (c.is_astray.ensures.fits c.if-is_astray.false))

pub decide_branch-requires-clause-there : goal.decide_branch-requires-clause-there
decide_branch-requires-clause-there g c = subst (CanBeDone c.args.books.now) c.in-Branch.is (comes-done _ _ _ c.args.books.now c.args.coming c.requires.ready (c.is_astray.ensures.fits c.if-is_astray.false))

pub returns-in-Nothing-clause-able : goal.returns-in-Nothing-clause-able
returns-in-Nothing-clause-able g c = c.requires.able

pub returns-in-Told-clause-able : goal.returns-in-Told-clause-able
returns-in-Told-clause-able g c = c.requires.able

pub returns-in-Nothing-clause-taken : goal.returns-in-Nothing-clause-taken
returns-in-Nothing-clause-taken g c = tt

pub returns-in-Told-clause-taken : goal.returns-in-Told-clause-taken
returns-in-Told-clause-taken g c = tt

pub returns-in_ok-rows-in-Act-clause-able : goal.returns-in_ok-rows-in-Act-clause-able
returns-in_ok-rows-in-Act-clause-able g c = c.load.ensures.able

pub returns-in_err-rows-in-Act-clause-able : goal.returns-in_err-rows-in-Act-clause-able
returns-in_err-rows-in-Act-clause-able g c = c.load.ensures.able

pub returns-in_ok-rows-in-Act-clause-taken : goal.returns-in_ok-rows-in-Act-clause-taken
returns-in_ok-rows-in-Act-clause-taken g c =
    let d = subst (CanBeDone c.args.books.now) c.in-Act.is (comes-done _ _ _ c.args.books.now c.args.coming c.requires.ready (c.is_astray.ensures.fits c.if-is_astray.false)) in
    (d.0, d.1, c.in_ok-rows-in-Act.ensures.keyed)

pub returns-in_err-rows-in-Act-clause-taken : goal.returns-in_err-rows-in-Act-clause-taken
returns-in_err-rows-in-Act-clause-taken g c = not-ok _ _ c.from_residual.result c.from_residual.ensures.1

pub returns-in_ok-decided-in-Commit-clause-able : goal.returns-in_ok-decided-in-Commit-clause-able
returns-in_ok-decided-in-Commit-clause-able g c = c.decide_commit.ensures.able

pub returns-in_err-decided-in-Commit-clause-able : goal.returns-in_err-decided-in-Commit-clause-able
returns-in_err-decided-in-Commit-clause-able g c = c.decide_commit.ensures.able

pub returns-in_ok-decided-in-Commit-clause-taken : goal.returns-in_ok-decided-in-Commit-clause-taken
returns-in_ok-decided-in-Commit-clause-taken g c = subst (CanBeDone c.args.books.now) c.in-Commit.is (comes-done _ _ _ c.args.books.now c.args.coming c.requires.ready (c.is_astray.ensures.fits c.if-is_astray.false))

pub returns-in_err-decided-in-Commit-clause-taken : goal.returns-in_err-decided-in-Commit-clause-taken
returns-in_err-decided-in-Commit-clause-taken g c = not-ok _ _ c.from_residual-in_err-decided-in-Commit.result c.from_residual-in_err-decided-in-Commit.ensures.1

pub returns-in_ok-decided-in-Branch-clause-able : goal.returns-in_ok-decided-in-Branch-clause-able
returns-in_ok-decided-in-Branch-clause-able g c = c.decide_branch.ensures.able

pub returns-in_err-decided-in-Branch-clause-able : goal.returns-in_err-decided-in-Branch-clause-able
returns-in_err-decided-in-Branch-clause-able g c = c.decide_branch.ensures.able

pub returns-in_ok-decided-in-Branch-clause-taken : goal.returns-in_ok-decided-in-Branch-clause-taken
returns-in_ok-decided-in-Branch-clause-taken g c = subst (CanBeDone c.args.books.now) c.in-Branch.is (comes-done _ _ _ c.args.books.now c.args.coming c.requires.ready (c.is_astray.ensures.fits c.if-is_astray.false))

pub returns-in_err-decided-in-Branch-clause-taken : goal.returns-in_err-decided-in-Branch-clause-taken
returns-in_err-decided-in-Branch-clause-taken g c = not-ok _ _ c.from_residual-in_err-decided-in-Branch.result c.from_residual-in_err-decided-in-Branch.ensures.1
