use Rattle.salt_commit.proofs.Beginning.{begins, begun_image, blank_image, open_answer, still_blank, wider_opened, wider_parts}
use Rattle.salt_commit.proofs.Fields.{as_many}
use Rattle.salt_commit.proofs.Limits.{decisions_full, parts_full}
use Rattle.salt_commit.proofs.open.begin_store.Goals as goal
use Rattle.salt_commit.specs.Stores.{reading}
use Rattle.salt_commit.specs.declared.store.Store.{Store}
use Rattle.salt_gatelog.specs.Answers.{open_disk_err}
use Rattle.std.proofs.Common.{Err, None, Some, ap, arith, ◌<◌, ◌∙◌}
use Rattle.std.proofs.lemmas.Result.{err_from_is_err_and}
use Rattle.std.specs.Result.{result_err}

pub returns-in_err-parts-clause-images : goal.returns-in_err-parts-clause-images
returns-in_err-parts-clause-images g c told image left =
    let d = g.D.Disks.view c.args.disks.now in
    let known : 1 < d.count = omega (arith, c.requires.room.known 0 (omega (arith, c.requires.parts.0))) in
    blank_image reading c.args.shape d (g.D.Disks.view c.create_all.new.disks) c.args.shape.parts (result_err c.create_all.result) c.create_all.ensures.others known (c.requires.room.settled 0 (omega (arith, known))) (c.requires.room.settled 1 known) (c.requires.blank told) image left

pub returns-in_err-parts-clause-others : goal.returns-in_err-parts-clause-others
returns-in_err-parts-clause-others g c =
    let p = err_from_is_err_and c.from_residual.result c.from_residual.ensures.1 in
    rw (open_answer c.from_residual.result p.0 c.in_err-parts.field-0.0 p.1 p.2) (wider_parts c.args.shape.parts (g.D.Disks.view c.args.disks.now) (g.D.Disks.view c.create_all.new.disks) (Some c.in_err-parts.field-0.0) c.in_err-parts.ensures.others)

pub returns-in_err-decisions-clause-images : goal.returns-in_err-decisions-clause-images
returns-in_err-decisions-clause-images g c told image left =
    let d = g.D.Disks.view c.args.disks.now in
    let b = g.D.Disks.view c.create_all.new.disks in
    let keeps = c.in_ok-parts.ensures.others in
    let known : 1 < b.count = omega (arith, c.requires.room.known 0 (omega (arith, c.requires.parts.0)), keeps.shape.count) in
    let blank = still_blank d b c.args.shape.parts keeps.kept (c.requires.blank told) in
    begun_image reading c.args.shape c.requires.parts b (g.D.Disks.view c.open_decisions.new.disks) (open_disk_err c.open_decisions.result) c.open_decisions.ensures.others c.in_ok-parts.parts.items c.in_ok-parts.ensures.made.0 c.in_ok-parts.ensures.made.1 (keeps.shape.told ∙ told) known
    (c.open_decisions.ensures.images_a blank) (c.open_decisions.ensures.images_b blank) image left

pub returns-in_err-decisions-clause-others : goal.returns-in_err-decisions-clause-others
returns-in_err-decisions-clause-others g c =
    let p = err_from_is_err_and c.from_residual-in_err-decisions.result c.from_residual-in_err-decisions.ensures.1 in
    rw (p.1, p.2) (wider_opened c.args.shape.parts (g.D.Disks.view c.args.disks.now) (g.D.Disks.view c.create_all.new.disks) (g.D.Disks.view c.open_decisions.new.disks) _ c.in_ok-parts.ensures.others c.in_err-decisions.ensures.others)

pub returns-clause-ok : goal.returns-clause-ok
returns-clause-ok g c =
    begins c.args.shape (g.D.Disks.view c.args.disks.now) (g.D.Disks.view c.create_all.new.disks) (g.D.Disks.view c.open_decisions.new.disks) _ c.in_ok-decisions.kept c.in_ok-parts.ensures.others c.in_ok-decisions.ensures.others c.requires.blank
    c.in_ok-parts.ensures.made.0 c.in_ok-parts.ensures.made.1 c.in_ok-decisions.ensures.ok

pub returns-clause-images : goal.returns-clause-images
returns-clause-images g c told image left =
    let d = g.D.Disks.view c.args.disks.now in
    let b = g.D.Disks.view c.create_all.new.disks in
    let keeps = c.in_ok-parts.ensures.others in
    let known : 1 < b.count = omega (arith, c.requires.room.known 0 (omega (arith, c.requires.parts.0)), keeps.shape.count) in
    let blank = still_blank d b c.args.shape.parts keeps.kept (c.requires.blank told) in
    begun_image reading c.args.shape c.requires.parts b (g.D.Disks.view c.open_decisions.new.disks) (open_disk_err c.open_decisions.result) c.open_decisions.ensures.others c.in_ok-parts.parts.items c.in_ok-parts.ensures.made.0 c.in_ok-parts.ensures.made.1 (keeps.shape.told ∙ told) known
    (c.open_decisions.ensures.images_a blank) (c.open_decisions.ensures.images_b blank) image left

pub returns-clause-others : goal.returns-clause-others
returns-clause-others g c = wider_opened c.args.shape.parts (g.D.Disks.view c.args.disks.now) (g.D.Disks.view c.create_all.new.disks) (g.D.Disks.view c.open_decisions.new.disks) None c.in_ok-parts.ensures.others c.in_ok-decisions.ensures.others

pub returns-in_err-parts-clause-full : goal.returns-in_err-parts-clause-full
returns-in_err-parts-clause-full g c told =
    let d = g.D.Disks.view c.args.disks.now in
    let b = g.D.Disks.view c.create_all.new.disks in
    let p = err_from_is_err_and c.from_residual.result c.from_residual.ensures.1 in
    rw (open_answer c.from_residual.result p.0 c.in_err-parts.field-0.0 p.1 p.2) (parts_full d b c.args.shape (Some c.in_err-parts.field-0.0) c.in_err-parts.ensures.others (c.requires.blank told) (c.in_err-parts.ensures.full told))

pub returns-in_err-decisions-clause-full : goal.returns-in_err-decisions-clause-full
returns-in_err-decisions-clause-full g c told =
    let told_b = c.in_ok-parts.ensures.others.shape.told ∙ told in
    let p = err_from_is_err_and c.from_residual-in_err-decisions.result c.from_residual-in_err-decisions.ensures.1 in
    rw (p.1, p.2) (decisions_full (g.D.Disks.view c.open_decisions.new.disks) c.args.shape c.in_err-decisions.field-0.0 (c.in_err-decisions.ensures.full told_b) (λ dev is. c.in_err-decisions.ensures.blank dev (ap Err is) told_b))

pub invariant_of-result : goal.invariant_of-result
invariant_of-result g c =
    let x : Store = record { decisions = c.in_ok-decisions.decisions; parts = c.in_ok-parts.parts.items; messages = None } in
    let opens =
    begins c.args.shape (g.D.Disks.view c.args.disks.now) (g.D.Disks.view c.create_all.new.disks) (g.D.Disks.view c.open_decisions.new.disks) x c.in_ok-decisions.kept c.in_ok-parts.ensures.others c.in_ok-decisions.ensures.others c.requires.blank
    c.in_ok-parts.ensures.made.0 c.in_ok-parts.ensures.made.1 c.in_ok-decisions.ensures.ok in
    as_many (g.D.Disks.view c.open_decisions.new.disks) x opens.which opens.c opens.v opens.is
