use Rattle.salt_commit.proofs.Telling.{may_open, next_told, tells_first, tells_lacking, tells_next, tells_on, tells_told}
use Rattle.salt_commit.proofs.tell.tell_all.Goals as goal
use Rattle.salt_commit.specs.Messages.{nodes_of}
use Rattle.salt_turns.specs.declared.coming.Next.TheVariants.{Ends, Restarts}
use Rattle.std.proofs.Common.{Some, arith, subst, sym, ◌≡◌, ◌⊎◌, ◌∙◌}
use Rattle.std.proofs.lemmas.Result.{err_from_is_err_and}
use Rattle.std.specs.Prelude.{IfSome}

pub tell-init : goal.tell-init
tell-init g c = tells_first (g.D.Disks.view c.args.disks.now) c.args.parts.now.items c.args.unit c.args.shares.now.items c.args.messages.now

pub has_next-requires : goal.has_next-requires
has_next-requires g c = (nodes_of c.args.shares.now.items, c.requires.way.0, c.tell.invariant.way c.requires.way.0 c.requires.way.1)

pub open_next-requires-clause-size : goal.open_next-requires-clause-size
open_next-requires-clause-size g c = c.tell.invariant.left ∙ c.requires.size ∙ sym c.tell.invariant.size

pub open_next-requires-clause-may : goal.open_next-requires-clause-may
open_next-requires-clause-may g c =
    let l = c.tell in
    let d0 = g.D.Disks.view c.args.disks.now in
    let d = g.D.Disks.view l.disks in
    let parts0 = c.args.parts.now.items in
    let shares0 = c.args.shares.now.items in
    let w = tells_on d0 d parts0 l.parts.items c.args.unit shares0 l.shares.items c.args.messages.now l.messages l.invariant c.has_next.new.messages (c.has_next.ensures.way (nodes_of shares0)) in
    may_open d0 d parts0 l.parts.items c.args.unit shares0 l.shares.items c.args.messages.now c.has_next.new.messages w c.requires.size c.requires.may c.requires.way.0 c.requires.way.1 c.to_open-node.result
    (subst (λ nx. IfSome c.to_open-node.result (λ k. (nx ≡ Restarts k) ⊎ (nx ≡ Ends k))) c.next_of.ensures c.to_open-node.ensures)

pub go_on-requires : goal.go_on-requires
go_on-requires g c =
    let shares0 = c.args.shares.now.items in
    (c.args.unit, nodes_of shares0, c.requires.way.0, c.has_next.ensures.way (nodes_of shares0) c.requires.way.0 (c.tell.invariant.way c.requires.way.0 c.requires.way.1))

pub tell-smaller : goal.tell-smaller
tell-smaller g c = omega (arith, c.in_ok-steps.ensures)

pub tell-preserved : goal.tell-preserved
tell-preserved g c =
    let l = c.tell in
    let d0 = g.D.Disks.view c.args.disks.now in
    let d = g.D.Disks.view l.disks in
    let parts0 = c.args.parts.now.items in
    let shares0 = c.args.shares.now.items in
    let w = tells_on d0 d parts0 l.parts.items c.args.unit shares0 l.shares.items c.args.messages.now l.messages l.invariant c.has_next.new.messages (c.has_next.ensures.way (nodes_of shares0)) in
    tells_next d0 d parts0 l.parts.items c.args.unit shares0 l.shares.items c.args.messages.now c.has_next.new.messages w c.requires.may (w.left ∙ c.requires.size ∙ sym w.size)
    (g.D.Disks.view c.open_next.new.disks) c.open_next.new.parts.items c.open_next.new.shares.items c.to_open-node.result c.in_ok-open_next.ensures.did c.go_on.new.messages (λ first. c.in_ok-go_on.ensures.way c.args.unit (nodes_of shares0) first)

pub returns-in_err-open_next-clause-told : goal.returns-in_err-open_next-clause-told
returns-in_err-open_next-clause-told g c =
    let l = c.tell in
    let p = err_from_is_err_and c.from_residual.result c.from_residual.ensures.1 in
    rw (p.1, p.2)
    (next_told (g.D.Disks.view c.args.disks.now) (g.D.Disks.view l.disks) c.args.parts.now.items l.parts.items c.args.unit c.args.shares.now.items l.shares.items c.args.messages.now l.messages l.invariant c.requires.may
    (l.invariant.left ∙ c.requires.size ∙ sym l.invariant.size) (g.D.Disks.view c.open_next.new.disks) c.open_next.new.parts.items c.open_next.new.shares.items c.to_open-node.result (Some c.in_err-open_next.field-0.0) c.in_err-open_next.ensures.did)

pub returns-in_err-go_on-clause-told : goal.returns-in_err-go_on-clause-told
returns-in_err-go_on-clause-told g c =
    let l = c.tell in
    let d0 = g.D.Disks.view c.args.disks.now in
    let e = g.D.Disks.view c.open_next.new.disks in
    let parts0 = c.args.parts.now.items in
    let shares0 = c.args.shares.now.items in
    let w = tells_next d0 (g.D.Disks.view l.disks) parts0 l.parts.items c.args.unit shares0 l.shares.items c.args.messages.now l.messages l.invariant c.requires.may (l.invariant.left ∙ c.requires.size ∙ sym l.invariant.size)
    e c.open_next.new.parts.items c.open_next.new.shares.items c.to_open-node.result c.in_ok-open_next.ensures.did l.messages (λ first begun. begun) in
    let p = err_from_is_err_and c.from_residual-in_err-go_on.result c.from_residual-in_err-go_on.ensures.1 in
    rw (p.1, p.2) (tells_lacking d0 e parts0 c.open_next.new.parts.items c.args.unit shares0 c.open_next.new.shares.items c.args.messages.now l.messages w)

pub returns-in_err-steps-clause-told : goal.returns-in_err-steps-clause-told
returns-in_err-steps-clause-told g c =
    let l = c.tell in
    let d0 = g.D.Disks.view c.args.disks.now in
    let e = g.D.Disks.view c.open_next.new.disks in
    let parts0 = c.args.parts.now.items in
    let shares0 = c.args.shares.now.items in
    let w = tells_next d0 (g.D.Disks.view l.disks) parts0 l.parts.items c.args.unit shares0 l.shares.items c.args.messages.now l.messages l.invariant c.requires.may (l.invariant.left ∙ c.requires.size ∙ sym l.invariant.size)
    e c.open_next.new.parts.items c.open_next.new.shares.items c.to_open-node.result c.in_ok-open_next.ensures.did l.messages (λ first begun. begun) in
    let p = err_from_is_err_and c.from_residual-in_err-steps.result c.from_residual-in_err-steps.ensures.1 in
    rw (p.1, p.2) (tells_lacking d0 e parts0 c.open_next.new.parts.items c.args.unit shares0 c.open_next.new.shares.items c.args.messages.now l.messages w)

pub returns-clause-behind : goal.returns-clause-behind
returns-clause-behind g c which log v applied behind = c.tell.invariant.behind which log v applied behind

pub returns-clause-told : goal.returns-clause-told
returns-clause-told g c =
    let l = c.tell in
    tells_told (g.D.Disks.view c.args.disks.now) (g.D.Disks.view l.disks) c.args.parts.now.items l.parts.items c.args.unit c.args.shares.now.items l.shares.items c.args.messages.now l.messages l.invariant

pub returns-clause-way : goal.returns-clause-way
returns-clause-way g c first begun = c.has_next.ensures.way (nodes_of c.args.shares.now.items) first (c.tell.invariant.way first begun)

pub returns-clause-ended : goal.returns-clause-ended
returns-clause-ended g c = c.has_next.ensures.ended c.tell-test.false
