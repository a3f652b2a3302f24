use Rattle.salt_decisions.proofs.Hearing.{hears_none, hears_on, starts}
use Rattle.salt_decisions.proofs.read.hear_all.Goals as goal
use Rattle.salt_decisions.specs.Read.{HearsOne}
use Rattle.salt_gatelog.proofs.Entries.{keeps_then}
use Rattle.std.proofs.Common.{None, Some, false, subst, true, ◌≡◌}
use Rattle.std.proofs.lemmas.Result.{err_from_is_err_and}

pub loop-i-init : goal.loop-i-init
loop-i-init g c = starts (g.D.Disks.view c.args.disks.now) c.args.gate.now c.args.parts c.args.said.now

pub returns-in_err-hear_one-clause-kept : goal.returns-in_err-hear_one-clause-kept
returns-in_err-hear_one-clause-kept g c =
    let p = err_from_is_err_and c.from_residual.result c.from_residual.ensures.1 in
    rw (p.1, p.2) (keeps_then (g.D.Disks.view c.args.disks.now) (g.D.Disks.view c.loop-i.disks) (g.D.Disks.view c.hear_one.new.disks) (Some c.in_err-hear_one.field-0.0) c.loop-i.invariant.keeps c.in_err-hear_one.ensures.kept)

pub returns-then-not-branch-clause-heard : goal.returns-then-not-branch-clause-heard
returns-then-not-branch-clause-heard g c t says =
    let l = c.loop-i in
    let d = g.D.Disks.view l.disks in
    let no : c.in_ok-hear_one.field-0 ≡ false = cc in
    hears_none (g.D.Disks.view c.args.disks.now) d c.args.gate.now l.gate c.args.parts c.args.said.now l.said l.i l.invariant c.hear_one.new.said
    (λ s h. subst (HearsOne d l.gate c.args.parts s c.hear_one.new.said l.i) no (c.in_ok-hear_one.ensures.heard s h)) t says

pub returns-then-not-branch-clause-kept : goal.returns-then-not-branch-clause-kept
returns-then-not-branch-clause-kept g c = keeps_then (g.D.Disks.view c.args.disks.now) (g.D.Disks.view c.loop-i.disks) (g.D.Disks.view c.hear_one.new.disks) None c.loop-i.invariant.keeps c.in_ok-hear_one.ensures.kept

pub loop-i-preserved : goal.loop-i-preserved
loop-i-preserved g c =
    let l = c.loop-i in
    let d = g.D.Disks.view l.disks in
    let yes : c.in_ok-hear_one.field-0 ≡ true = cc in
    hears_on (g.D.Disks.view c.args.disks.now) d c.args.gate.now l.gate c.args.parts c.args.said.now l.said l.i l.invariant (g.D.Disks.view c.hear_one.new.disks) c.hear_one.new.gate c.hear_one.new.said
    c.in_ok-hear_one.ensures.kept c.in_ok-hear_one.ensures.cause c.in_ok-hear_one.ensures.same c.in_ok-hear_one.ensures.log
    (λ s h. subst (HearsOne d l.gate c.args.parts s c.hear_one.new.said l.i) yes (c.in_ok-hear_one.ensures.heard s h))
