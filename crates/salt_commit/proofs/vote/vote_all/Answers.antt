use Rattle.salt_commit.proofs.Loaded.{none_left}
use Rattle.salt_commit.proofs.Votes.{held_by, idle_next, may_next, restarts_low, votes_end, votes_first, votes_next}
use Rattle.salt_commit.proofs.Voting.{all_idle, goes_lacking, goes_voted, next_goes, next_voted}
use Rattle.salt_commit.proofs.vote.vote_all.Goals as goal
use Rattle.salt_commit.specs.Messages.{nodes_of}
use Rattle.salt_commit.specs.Voting.{DidNext, MayDoNext}
use Rattle.salt_net.specs.Flags.{are_nodes}
use Rattle.salt_net.specs.declared.kinds.NodeStatus.TheVariants.{Idle}
use Rattle.salt_turns.specs.Amid.{IsOnTheWay, IsUndecided, first_of, next_in}
use Rattle.std.proofs.Common.{None, Some, ap, arith, refl, subst, sym, ◌∙◌}
use Rattle.std.proofs.lemmas.Result.{err_from_is_err_and}

pub begin-requires-clause-nodes : goal.begin-requires-clause-nodes
begin-requires-clause-nodes g c = ap are_nodes c.nodes_of-nodes.ensures.nodes ∙ c.nodes_of-nodes.ensures.may

pub vote-init : goal.vote-init
vote-init g c =
    let same = c.nodes_of-nodes.ensures.nodes in
    votes_first (g.D.Disks.view c.args.disks.now) c.args.parts.now.items c.args.unit c.args.shares.now (first_of c.args.unit (nodes_of c.args.shares.now) c.args.messages.now) c.begin.new.messages
    (subst (λ l. IsOnTheWay c.args.unit l (first_of c.args.unit l c.args.messages.now) c.begin.new.messages) same c.in_ok-begin.ensures.way) c.in_ok-begin.ensures.idle
    (subst (λ l. IsUndecided c.args.unit l c.begin.new.messages) same c.in_ok-begin.ensures.undecided)

pub mind_doubt-requires : goal.mind_doubt-requires
mind_doubt-requires g c node at =
    let l = c.vote in
    let y = c.in-Some.ensures.some in
    restarts_low (g.D.Disks.view c.args.disks.now) (g.D.Disks.view l.disks) c.args.parts.now.items l.parts.items c.args.unit c.args.shares.now (first_of c.args.unit (nodes_of c.args.shares.now) c.args.messages.now) l.messages l.invariant c.requires.size c.requires.may y.2 y.1 node (sym y.0 ∙ at)

pub do_next-requires-clause-size : goal.do_next-requires-clause-size
do_next-requires-clause-size g c = c.requires.size ∙ sym c.vote.invariant.goes.size

pub do_next-requires-clause-may : goal.do_next-requires-clause-may
do_next-requires-clause-may g c =
    let l = c.vote in
    let y = c.in-Some.ensures.some in
    subst (λ nx. MayDoNext nx (g.D.Disks.view l.disks) l.parts.items c.args.unit c.args.shares.now) (sym y.0)
    (may_next (g.D.Disks.view c.args.disks.now) (g.D.Disks.view l.disks) c.args.parts.now.items l.parts.items c.args.unit c.args.shares.now (first_of c.args.unit (nodes_of c.args.shares.now) c.args.messages.now) l.messages l.invariant c.requires.size c.requires.may y.2 y.1)

pub pass-requires : goal.pass-requires
pass-requires g c = (nodes_of c.args.shares.now, first_of c.args.unit (nodes_of c.args.shares.now) c.args.messages.now, c.vote.invariant.way)

pub vote-smaller : goal.vote-smaller
vote-smaller g c = omega (arith, c.in_ok-steps.ensures)

pub vote-preserved : goal.vote-preserved
vote-preserved g c =
    let l = c.vote in
    let y = c.in-Some.ensures.some in
    let e = g.D.Disks.view c.do_next.new.disks in
    votes_next (g.D.Disks.view c.args.disks.now) (g.D.Disks.view l.disks) c.args.parts.now.items l.parts.items c.args.unit c.args.shares.now (first_of c.args.unit (nodes_of c.args.shares.now) c.args.messages.now) l.messages l.invariant c.requires.size c.requires.may y.2 y.1 e c.do_next.new.parts.items c.pass.new.messages
    (subst (λ nx. DidNext nx (g.D.Disks.view l.disks) e l.parts.items c.do_next.new.parts.items c.args.unit c.args.shares.now None) y.0 c.in_ok-do_next.ensures)
    (c.in_ok-pass.ensures.way (nodes_of c.args.shares.now) (first_of c.args.unit (nodes_of c.args.shares.now) c.args.messages.now) l.invariant.way) (c.in_ok-pass.ensures.held y.2 y.1)

pub returns-in_err-begin-clause-voted : goal.returns-in_err-begin-clause-voted
returns-in_err-begin-clause-voted g c =
    let d = g.D.Disks.view c.args.disks.now in
    let p = err_from_is_err_and c.from_residual.result c.from_residual.ensures.1 in
    rw (p.1, p.2) (goes_lacking d d c.args.parts.now.items c.args.parts.now.items c.args.unit c.args.shares.now (λ k. Idle) (all_idle d c.args.parts.now.items c.args.unit c.args.shares.now))

pub returns-in_err-mind_doubt-clause-voted : goal.returns-in_err-mind_doubt-clause-voted
returns-in_err-mind_doubt-clause-voted g c =
    let l = c.vote in
    let p = err_from_is_err_and c.from_residual-in_err-mind_doubt.result c.from_residual-in_err-mind_doubt.ensures.1 in
    rw (p.1, p.2) (goes_lacking (g.D.Disks.view c.args.disks.now) (g.D.Disks.view l.disks) c.args.parts.now.items l.parts.items c.args.unit c.args.shares.now (held_by l.messages c.args.unit) l.invariant.goes)

pub returns-in_err-do_next-clause-voted : goal.returns-in_err-do_next-clause-voted
returns-in_err-do_next-clause-voted g c =
    let l = c.vote in
    let y = c.in-Some.ensures.some in
    let d = g.D.Disks.view l.disks in
    let e = g.D.Disks.view c.do_next.new.disks in
    let may = c.requires.may in
    let failed = Some c.in_err-do_next.field-0.0 in
    let p = err_from_is_err_and c.from_residual-in_err-do_next.result c.from_residual-in_err-do_next.ensures.1 in
    rw (p.1, p.2)
    (next_voted (g.D.Disks.view c.args.disks.now) d e c.args.parts.now.items l.parts.items c.args.unit c.args.shares.now (held_by l.messages c.args.unit) l.invariant.goes may.which may.log may.v may.stand (next_in l.messages) c.do_next.new.parts.items failed
    (subst (λ nx. DidNext nx d e l.parts.items c.do_next.new.parts.items c.args.unit c.args.shares.now failed) y.0 c.in_err-do_next.ensures)
    (idle_next (g.D.Disks.view c.args.disks.now) (g.D.Disks.view l.disks) c.args.parts.now.items l.parts.items c.args.unit c.args.shares.now (first_of c.args.unit (nodes_of c.args.shares.now) c.args.messages.now) l.messages l.invariant c.requires.size may y.2 y.1))

pub returns-in_err-pass-clause-voted : goal.returns-in_err-pass-clause-voted
returns-in_err-pass-clause-voted g c =
    let l = c.vote in
    let y = c.in-Some.ensures.some in
    let d = g.D.Disks.view l.disks in
    let e = g.D.Disks.view c.do_next.new.disks in
    let may = c.requires.may in
    let p = err_from_is_err_and c.from_residual-in_err-pass.result c.from_residual-in_err-pass.ensures.1 in
    rw (p.1, p.2)
    (goes_lacking (g.D.Disks.view c.args.disks.now) e c.args.parts.now.items c.do_next.new.parts.items c.args.unit c.args.shares.now _
    (next_goes (g.D.Disks.view c.args.disks.now) d e c.args.parts.now.items l.parts.items c.args.unit c.args.shares.now (held_by l.messages c.args.unit) l.invariant.goes may.which may.log may.v may.stand (next_in l.messages) c.do_next.new.parts.items None refl
    (subst (λ nx. DidNext nx d e l.parts.items c.do_next.new.parts.items c.args.unit c.args.shares.now None) y.0 c.in_ok-do_next.ensures)
    (idle_next (g.D.Disks.view c.args.disks.now) (g.D.Disks.view l.disks) c.args.parts.now.items l.parts.items c.args.unit c.args.shares.now (first_of c.args.unit (nodes_of c.args.shares.now) c.args.messages.now) l.messages l.invariant c.requires.size may y.2 y.1)))

pub returns-in_err-steps-clause-voted : goal.returns-in_err-steps-clause-voted
returns-in_err-steps-clause-voted g c =
    let l = c.vote in
    let y = c.in-Some.ensures.some in
    let d = g.D.Disks.view l.disks in
    let e = g.D.Disks.view c.do_next.new.disks in
    let may = c.requires.may in
    let p = err_from_is_err_and c.from_residual-in_err-steps.result c.from_residual-in_err-steps.ensures.1 in
    rw (p.1, p.2)
    (goes_lacking (g.D.Disks.view c.args.disks.now) e c.args.parts.now.items c.do_next.new.parts.items c.args.unit c.args.shares.now _
    (next_goes (g.D.Disks.view c.args.disks.now) d e c.args.parts.now.items l.parts.items c.args.unit c.args.shares.now (held_by l.messages c.args.unit) l.invariant.goes may.which may.log may.v may.stand (next_in l.messages) c.do_next.new.parts.items None refl
    (subst (λ nx. DidNext nx d e l.parts.items c.do_next.new.parts.items c.args.unit c.args.shares.now None) y.0 c.in_ok-do_next.ensures)
    (idle_next (g.D.Disks.view c.args.disks.now) (g.D.Disks.view l.disks) c.args.parts.now.items l.parts.items c.args.unit c.args.shares.now (first_of c.args.unit (nodes_of c.args.shares.now) c.args.messages.now) l.messages l.invariant c.requires.size may y.2 y.1)))

pub returns-clause-ok : goal.returns-clause-ok
returns-clause-ok g c which log v base =
    let l = c.vote in
    votes_end (g.D.Disks.view c.args.disks.now) (g.D.Disks.view l.disks) c.args.parts.now.items l.parts.items c.args.unit c.args.shares.now (first_of c.args.unit (nodes_of c.args.shares.now) c.args.messages.now) l.messages l.invariant (c.next_vote.ensures.none (sym (none_left c.next_vote.result c.in_default.not-Some))) which log v base

pub returns-clause-voted : goal.returns-clause-voted
returns-clause-voted g c = let l = c.vote in goes_voted (g.D.Disks.view c.args.disks.now) (g.D.Disks.view l.disks) c.args.parts.now.items l.parts.items c.args.unit c.args.shares.now (held_by l.messages c.args.unit) l.invariant.goes

pub returns-clause-way : goal.returns-clause-way
returns-clause-way g c = c.vote.invariant.way
