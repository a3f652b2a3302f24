use Rattle.salt_commit.proofs.Voting.{none_done}
use Rattle.salt_commit.proofs.vote.do_next.Goals as goal
use Rattle.salt_commit.specs.Voting.{DidNext, HasPreparedAt, HasReopenedAt, MayDoNext, MayPrepareAt, MayReopenAt}
use Rattle.std.proofs.Common.{None, arith, subst, suc, sym, ℕ, ◌-◌, ◌≡◌}
use Rattle.std.specs.Result.{result_err}

-- partition n is node n + 1
part_of : (p n : ℕ) → p ≡ suc n → n ≡ p - 1
part_of p n is = omega (arith, is)

pub reopen_at-requires : goal.reopen_at-requires
reopen_at-requires g c =
    let d = g.D.Disks.view c.args.disks.now in
    let h = subst (λ nx. MayDoNext nx d c.args.parts.now.items c.args.unit c.args.shares.now) c.in-Restarts.is c.requires.may in
    subst (λ k. MayReopenAt d c.args.parts.now.items k) (part_of c.in-Restarts.node h.0 h.1) h.2

pub returns-in-Restarts : goal.returns-in-Restarts
returns-in-Restarts g c =
    let d = g.D.Disks.view c.args.disks.now in
    let e = g.D.Disks.view c.reopen_at.new.disks in
    let h = subst (λ nx. MayDoNext nx d c.args.parts.now.items c.args.unit c.args.shares.now) c.in-Restarts.is c.requires.may in
    let was = c.args.parts.now.items in
    let is = c.reopen_at.new.parts.items in
    subst (λ nx. DidNext nx d e was is c.args.unit c.args.shares.now (result_err c.reopen_at.result)) (sym c.in-Restarts.is)
    (h.0, h.1, subst (λ k. HasReopenedAt d e was is k (result_err c.reopen_at.result)) (sym (part_of c.in-Restarts.node h.0 h.1)) c.reopen_at.ensures)

pub prepare_at-requires-clause-may : goal.prepare_at-requires-clause-may
prepare_at-requires-clause-may g c =
    let d = g.D.Disks.view c.args.disks.now in
    let h = subst (λ nx. MayDoNext nx d c.args.parts.now.items c.args.unit c.args.shares.now) c.in-Prepares.is c.requires.may in
    subst (λ k. MayPrepareAt d c.args.parts.now.items c.args.unit c.args.shares.now k) (part_of c.in-Prepares.node h.0 h.1) h.2

pub returns-in-Prepares : goal.returns-in-Prepares
returns-in-Prepares g c =
    let d = g.D.Disks.view c.args.disks.now in
    let e = g.D.Disks.view c.prepare_at.new.disks in
    let h = subst (λ nx. MayDoNext nx d c.args.parts.now.items c.args.unit c.args.shares.now) c.in-Prepares.is c.requires.may in
    let was = c.args.parts.now.items in
    let is = c.prepare_at.new.parts.items in
    subst (λ nx. DidNext nx d e was is c.args.unit c.args.shares.now (result_err c.prepare_at.result)) (sym c.in-Prepares.is)
    (h.0, h.1, subst (λ k. HasPreparedAt d e was is c.args.unit c.args.shares.now k (result_err c.prepare_at.result)) (sym (part_of c.in-Prepares.node h.0 h.1)) c.prepare_at.ensures)

pub returns-in-Nothing : goal.returns-in-Nothing
returns-in-Nothing g c =
    let d = g.D.Disks.view c.args.disks.now in
    subst (λ nx. DidNext nx d d c.args.parts.now.items c.args.parts.now.items c.args.unit c.args.shares.now None) (sym c.in-Nothing.is) (none_done d c.args.parts.now.items)

pub returns-in-Decides : goal.returns-in-Decides
returns-in-Decides g c =
    let d = g.D.Disks.view c.args.disks.now in
    subst (λ nx. DidNext nx d d c.args.parts.now.items c.args.parts.now.items c.args.unit c.args.shares.now None) (sym c.in-Decides.is) (none_done d c.args.parts.now.items)

pub returns-in-Ends : goal.returns-in-Ends
returns-in-Ends g c =
    let d = g.D.Disks.view c.args.disks.now in
    subst (λ nx. DidNext nx d d c.args.parts.now.items c.args.parts.now.items c.args.unit c.args.shares.now None) (sym c.in-Ends.is) (none_done d c.args.parts.now.items)
