use Rattle.salt_checkpoint.proofs.Torn.{keeps_all, keeps_more}
use Rattle.salt_commit.proofs.Restarted.{full_of, only_fails_full, same_units, stands_again, still_stands}
use Rattle.salt_commit.proofs.again.reopen_part.Goals as goal
use Rattle.salt_disk.proofs.CallAfterCall.{cause_on, keeps_on, keeps_wider}
use Rattle.salt_paged.specs.Partitions.{pages_of}
use Rattle.salt_parts.specs.Openings.{decided_in}
use Rattle.std.proofs.Common.{None, Some, ap, subst, sym, ℕ, ◌<◌, ◌≡◌, ◌∙◌}
use Rattle.std.proofs.lemmas.Result.{err_from_is_err_and}
use Rattle.std.specs.Result.{result_err}

pub said_now-requires-clause-part : goal.said_now-requires-clause-part
said_now-requires-clause-part g c = subst (λ (n : ℕ). n < 8) (sym (c.number.ensures ∙ c.requires.is.part)) c.requires.low

pub said_now-requires-clause-reads : goal.said_now-requires-clause-reads
said_now-requires-clause-reads g c = (c.requires.which, c.requires.log, c.requires.reads)

pub reopen-requires : goal.reopen-requires
reopen-requires g c =
    let r = c.requires in
    let h = c.in_ok-said.ensures in
    stands_again (g.D.Disks.view c.args.disks.now) (g.D.Disks.view c.said_now.new.disks) h.kept r.which r.log r.reads c.args.part.now r.p r.v r.applied r.is c.in_ok-said.said.0 c.in_ok-said.said.1
    (λ told. let l = h.log r.which r.log r.reads told in (l.0, l.1 ∙ ap (decided_in r.log) c.number.ensures)) r.goes_on r.known

pub returns-clause-ok : goal.returns-clause-ok
returns-clause-ok g c which log p v applied reads is goes =
    let d = g.D.Disks.view c.args.disks.now in
    let e = g.D.Disks.view c.said_now.new.disks in
    let h = c.in_ok-said.ensures in
    let x = c.args.part.now in
    c.reopen.ensures.ok p v applied (decided_in log p) (still_stands d e h.kept which log reads x p v applied is) goes
    (λ now. same_units d e h.kept which log reads x p v applied is c.in_ok-said.said.0 c.in_ok-said.said.1
    (λ told. let l = h.log which log reads told in (l.0, l.1 ∙ ap (decided_in log) c.number.ensures)) (sym h.kept.shape.told ∙ now))

pub returns-clause-images : goal.returns-clause-images
returns-clause-images g c p v applied is told =
    let d = g.D.Disks.view c.args.disks.now in
    let e = g.D.Disks.view c.said_now.new.disks in
    let f = g.D.Disks.view c.reopen.new.disks in
    let h = c.in_ok-said.ensures in
    let dev = pages_of c.args.part.now in
    keeps_more v.log.header.sides d e f dev (keeps_all v.log.header.sides d e dev (h.kept.images dev (λ none. none)))
    (c.reopen.ensures.images p v applied (still_stands d e h.kept c.requires.which c.requires.log c.requires.reads c.args.part.now p v applied is) (h.kept.shape.told ∙ told))

pub returns-clause-others : goal.returns-clause-others
returns-clause-others g c =
    let d = g.D.Disks.view c.args.disks.now in
    let e = g.D.Disks.view c.said_now.new.disks in
    let f = g.D.Disks.view c.reopen.new.disks in
    let mine = λ (dev : ℕ). dev ≡ pages_of c.args.part.now in
    keeps_on mine d e f (result_err c.reopen.result) (keeps_wider (λ _. ⊥) mine d e None (λ dev none. absurd none) c.in_ok-said.ensures.kept) c.reopen.ensures.others

pub returns-clause-cause : goal.returns-clause-cause
returns-clause-cause g c =
    cause_on (g.D.Disks.view c.args.disks.now) (g.D.Disks.view c.said_now.new.disks) (g.D.Disks.view c.reopen.new.disks) (result_err c.reopen.result) c.in_ok-said.ensures.cause c.reopen.ensures.cause

pub returns-clause-full : goal.returns-clause-full
returns-clause-full g c = full_of c.reopen.result (λ dev. dev ≡ pages_of c.args.part.now) c.reopen.ensures.device

pub returns-in_err-said-clause-others : goal.returns-in_err-said-clause-others
returns-in_err-said-clause-others g c =
    let d = g.D.Disks.view c.args.disks.now in
    let e = g.D.Disks.view c.said_now.new.disks in
    let mine = λ (dev : ℕ). dev ≡ pages_of c.args.part.now in
    let p = err_from_is_err_and c.from_residual.result c.from_residual.ensures.1 in
    rw (p.1, p.2) (keeps_wider (λ _. ⊥) mine d e (Some c.in_err-said.field-0.0) (λ dev none. absurd none) c.in_err-said.ensures.kept)

pub returns-in_err-said-clause-images : goal.returns-in_err-said-clause-images
returns-in_err-said-clause-images g c p v applied is told =
    let d = g.D.Disks.view c.args.disks.now in
    let e = g.D.Disks.view c.said_now.new.disks in
    let dev = pages_of c.args.part.now in
    keeps_all v.log.header.sides d e dev (c.in_err-said.ensures.kept.images dev (λ none. none))

pub returns-in_err-said-clause-full : goal.returns-in_err-said-clause-full
returns-in_err-said-clause-full g c =
    let p = err_from_is_err_and c.from_residual.result c.from_residual.ensures.1 in
    rw (p.1, p.2) (only_fails_full (λ dev. dev ≡ pages_of c.args.part.now) (Some c.in_err-said.field-0.0) c.in_err-said.ensures.answers)
