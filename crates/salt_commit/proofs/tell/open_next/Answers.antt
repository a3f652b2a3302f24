use Rattle.salt_commit.proofs.Voting.{none_done}
use Rattle.salt_commit.proofs.tell.open_next.Goals as goal
use Rattle.salt_commit.specs.Telling.{DidOpen, HasOpenedAt, MayOpen}
use Rattle.salt_commit.specs.Voting.{MayReopenAt}
use Rattle.std.proofs.Common.{None, arith, refl, subst, suc, sym, ℕ, ◌-◌, ◌≡◌}
use Rattle.std.specs.Result.{result_err}

part_of : (p n : ℕ) → p ≡ suc n → n ≡ p - 1
part_of p n is = omega (arith, is)

pub open_at-requires-clause-may : goal.open_at-requires-clause-may
open_at-requires-clause-may g c =
    let d = g.D.Disks.view c.args.disks.now in
    let h = subst (λ o. MayOpen o d c.args.parts.now.items) c.in-Some.is c.requires.may in
    subst (λ k. MayReopenAt d c.args.parts.now.items k) (part_of c.in-Some.node h.0 h.1) h.2

pub returns-in-Some-clause-did : goal.returns-in-Some-clause-did
returns-in-Some-clause-did g c =
    let d = g.D.Disks.view c.args.disks.now in
    let e = g.D.Disks.view c.open_at.new.disks in
    let was = c.args.parts.now.items in
    let is = c.open_at.new.parts.items in
    let shares = c.args.shares.now.items in
    let left = c.open_at.new.shares.items in
    let answer = result_err c.open_at.result in
    let h = subst (λ o. MayOpen o d was) c.in-Some.is c.requires.may in
    subst (λ o. DidOpen o d e was is shares left answer) (sym c.in-Some.is)
    (h.0, h.1, subst (λ k. HasOpenedAt d e was is shares left k answer) (sym (part_of c.in-Some.node h.0 h.1)) c.open_at.ensures.opened)

pub returns-in-None-clause-did : goal.returns-in-None-clause-did
returns-in-None-clause-did g c =
    let d = g.D.Disks.view c.args.disks.now in
    let was = c.args.parts.now.items in
    let shares = c.args.shares.now.items in
    subst (λ o. DidOpen o d d was was shares shares None) (sym c.in-None.is) (none_done d was, refl)
