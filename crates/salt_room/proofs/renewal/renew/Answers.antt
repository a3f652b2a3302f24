use Rattle.salt_decisions.specs.Decisions.{conts_in, snapshot_payload}
use Rattle.salt_disk.specs.Disks.{FullOnly, KeepsBut, KeepsOthers}
use Rattle.salt_disk.specs.declared.disks.DiskErr.TheVariants.{Full}
use Rattle.salt_disk.specs.declared.disks.DiskErr.{DiskErr}
use Rattle.salt_room.proofs.Long.{number_is, too_long}
use Rattle.salt_room.proofs.Renewed.{conts_open, counts_now, decisions_full, decisions_on, each_stands, full_at_last, full_before, full_renewal, ok_always, others_at_last, renewed_then, snapshot_stands}
use Rattle.salt_room.proofs.renewal.renew.Goals as goal
use Rattle.salt_room.specs.Renewals.{IsOfStore}
use Rattle.salt_room.specs.Rooms.{FullAtOne, GoOnEmpty, IsOfPart}
use Rattle.salt_stands.specs.Coordinator.{device_of}
use Rattle.salt_stands.specs.Pieces.{other_log}
use Rattle.salt_disk.proofs.CallAfterCall.{cause_on, keeps_wider}
use Rattle.salt_values.specs.declared.cont.Cont.{Cont}
use Rattle.std.proofs.Common.{IsTrue, List, Option, Some, ap, inr, length, subst, sym, ℕ, ◌+◌, ◌≡◌, ◌∙◌}
use Rattle.std.proofs.lemmas.Result.{err_from_is_err_and}
use Rattle.std.specs.Result.{result_err}

pub checkpoint_all-requires : goal.checkpoint_all-requires
checkpoint_all-requires g c = let s = c.requires.stand in each_stands s.r (g.D.Disks.view c.args.disks.now) c.args.parts.now.items s.which s.c s.v s.is.are

pub snapshot-requires : goal.snapshot-requires
snapshot-requires g c =
    let s = c.requires.stand in
    let log = decisions_on (length c.args.parts.now.items) (g.D.Disks.view c.args.disks.now) (g.D.Disks.view c.checkpoint_all.new.disks) c.args.decisions.now s.which s.c c.in_ok-checkpoint_all.ensures.others s.is.decisions in
    record { log = (s.which, (s.c.log, log)) }

pub returns-in_err-checkpoint_all-clause-images : goal.returns-in_err-checkpoint_all-clause-images
returns-in_err-checkpoint_all-clause-images g c r which co v told is = c.checkpoint_all.ensures.images r which co v told is.are

pub returns-in_err-checkpoint_all-clause-others : goal.returns-in_err-checkpoint_all-clause-others
returns-in_err-checkpoint_all-clause-others g c =
    let n = length c.args.parts.now.items in
    let p = err_from_is_err_and c.from_residual.result c.from_residual.ensures.1 in
    rw (p.1, p.2) (keeps_wider (IsOfPart n) (IsOfStore n) (g.D.Disks.view c.args.disks.now) (g.D.Disks.view c.checkpoint_all.new.disks) (Some c.in_err-checkpoint_all.field-0.0) (λ dev h. inr h) c.in_err-checkpoint_all.ensures.others)

pub returns-in_err-checkpoint_all-clause-full : goal.returns-in_err-checkpoint_all-clause-full
returns-in_err-checkpoint_all-clause-full g c r which co v is =
    let p = err_from_is_err_and c.from_residual.result c.from_residual.ensures.1 in
    rw (p.1, p.2) (full_before (g.D.Disks.view c.checkpoint_all.new.disks) c.args.decisions.now c.args.parts.now.items which (Some c.in_err-checkpoint_all.field-0.0) c.in_err-checkpoint_all.ensures.full)

pub returns-in_err-checkpoint_all-clause-passes : goal.returns-in_err-checkpoint_all-clause-passes
returns-in_err-checkpoint_all-clause-passes g c dev is told =
    let p = err_from_is_err_and c.from_residual.result c.from_residual.ensures.1 in
    let s = c.requires.stand in
    let d = g.D.Disks.view c.args.disks.now in
    let e = g.D.Disks.view c.checkpoint_all.new.disks in
    let x = c.args.decisions.now in
    let parts = c.args.parts.now.items in
    let full : c.in_err-checkpoint_all.field-0.0 ≡ Full dev = cc (is, p.1, p.2) in
    let long = subst (λ (k : DiskErr). FullAtOne e parts (Some k)) full c.in_err-checkpoint_all.ensures.full in
    let others = subst (λ (k : DiskErr). KeepsBut (IsOfPart (length parts)) d e (Some k)) full c.in_err-checkpoint_all.ensures.others in
    let log = decisions_full (length parts) d e dev x s.which s.c others s.is.decisions in
    record { which = s.which; log = s.c.log; counting = counts_now e x s.which s.c.log (others.shape.told ∙ told) log; passes = inr (too_long e parts (number_is d x parts s) dev long) }

pub returns-clause-ok : goal.returns-clause-ok
returns-clause-ok g c r which co v is =
    let d = g.D.Disks.view c.args.disks.now in
    let e = g.D.Disks.view c.checkpoint_all.new.disks in
    let parts = c.checkpoint_all.new.parts.items in
    let n = length c.args.parts.now.items in
    let on = subst (λ (k : ℕ). GoOnEmpty k r e parts which co v) is.are.size (c.in_ok-checkpoint_all.ensures.ok r which co v is.are) in
    let log = decisions_on n d e c.args.decisions.now which co c.in_ok-checkpoint_all.ensures.others is.decisions in
    let format = sym is.decisions.holds.format ∙ c.requires.newest in
    let same : IsTrue e.told → co.conts ≡ conts_in c.args.decisions.now = λ told. conts_open r d c.args.decisions.now c.args.parts.now.items which co v is (sym c.in_ok-checkpoint_all.ensures.others.shape.told ∙ told) in
    renewed_then r e c.args.decisions.now parts which co v on same format c.snapshot.result (g.D.Disks.view c.snapshot.new.disks) c.snapshot.new.self
    (c.snapshot.ensures.others which co.log log) (c.snapshot.ensures.ok which co.log log) (c.snapshot.ensures.begins which co.log log)

pub returns-clause-empty : goal.returns-clause-empty
returns-clause-empty g c = ok_always c.snapshot.result c.in_ok-checkpoint_all.ensures.empty

pub returns-clause-images : goal.returns-clause-images
returns-clause-images g c r which co v told is =
    let d = g.D.Disks.view c.args.disks.now in
    let e = g.D.Disks.view c.checkpoint_all.new.disks in
    let parts = c.checkpoint_all.new.parts.items in
    let n = length c.args.parts.now.items in
    let on = subst (λ (k : ℕ). GoOnEmpty k r e parts which co v) is.are.size (c.in_ok-checkpoint_all.ensures.ok r which co v is.are) in
    let log = decisions_on n d e c.args.decisions.now which co c.in_ok-checkpoint_all.ensures.others is.decisions in
    let format = sym is.decisions.holds.format ∙ c.requires.newest in
    let same : IsTrue e.told → co.conts ≡ conts_in c.args.decisions.now = λ now. conts_open r d c.args.decisions.now c.args.parts.now.items which co v is told in
    snapshot_stands r e c.args.decisions.now parts which co v on same format (g.D.Disks.view c.snapshot.new.disks) (result_err c.snapshot.result)
    (c.snapshot.ensures.others which co.log log) (c.snapshot.ensures.images which co.log log) (c.in_ok-checkpoint_all.ensures.others.shape.told ∙ told)

pub returns-clause-others : goal.returns-clause-others
returns-clause-others g c =
    let s = c.requires.stand in
    let d = g.D.Disks.view c.args.disks.now in
    let e = g.D.Disks.view c.checkpoint_all.new.disks in
    let n = length c.args.parts.now.items in
    let log = decisions_on n d e c.args.decisions.now s.which s.c c.in_ok-checkpoint_all.ensures.others s.is.decisions in
    others_at_last n d e (g.D.Disks.view c.snapshot.new.disks) (other_log s.which) (result_err c.snapshot.result) c.in_ok-checkpoint_all.ensures.others (c.snapshot.ensures.others s.which s.c.log log)

pub returns-clause-cause : goal.returns-clause-cause
returns-clause-cause g c = cause_on (g.D.Disks.view c.args.disks.now) (g.D.Disks.view c.checkpoint_all.new.disks) (g.D.Disks.view c.snapshot.new.disks) (result_err c.snapshot.result) c.in_ok-checkpoint_all.ensures.cause c.snapshot.ensures.cause

pub returns-clause-full : goal.returns-clause-full
returns-clause-full g c r which co v is =
    let d = g.D.Disks.view c.args.disks.now in
    let e = g.D.Disks.view c.checkpoint_all.new.disks in
    let log = decisions_on (length c.args.parts.now.items) d e c.args.decisions.now which co c.in_ok-checkpoint_all.ensures.others is.decisions in
    full_at_last e (g.D.Disks.view c.snapshot.new.disks) c.args.decisions.now c.args.parts.now.items which (result_err c.snapshot.result) (c.snapshot.ensures.others which co.log log).shape (c.snapshot.ensures.full which co.log log)

pub returns-clause-passes : goal.returns-clause-passes
returns-clause-passes g c dev is told =
    let s = c.requires.stand in
    let d = g.D.Disks.view c.args.disks.now in
    let e = g.D.Disks.view c.checkpoint_all.new.disks in
    let f = g.D.Disks.view c.snapshot.new.disks in
    let x = c.args.decisions.now in
    let log = decisions_on (length c.args.parts.now.items) d e x s.which s.c c.in_ok-checkpoint_all.ensures.others s.is.decisions in
    let at = device_of 0 (other_log s.which) in
    let full = subst (λ (k : Option DiskErr). FullOnly at (e.limit at) (10 + length (snapshot_payload x)) k) (ap result_err is) (c.snapshot.ensures.full s.which s.c.log log) in
    let others = subst (λ (k : Option DiskErr). KeepsOthers at e f k) (ap result_err is) (c.snapshot.ensures.others s.which s.c.log log) in
    let now : IsTrue e.told = c.in_ok-checkpoint_all.ensures.others.shape.told ∙ told in
    let opened = (s.is.are.ready told).stood.coordinator.is.moves ∙ ap (λ (cs : List Cont). Some cs) (conts_open s.r d x c.args.parts.now.items s.which s.c s.v s.is told) in
    full_renewal e f x s.which s.c now log dev others full (c.snapshot.ensures.counts s.which s.c.log log dev is now) opened c.args.parts.now.items
