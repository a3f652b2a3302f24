use Rattle.salt_disk.specs.declared.disks.DiskErr.TheVariants.{Full}
use Rattle.salt_gatelog.proofs.Entries.{keeps_then}
use Rattle.salt_gatelog.specs.Pair.{pair_err_of}
use Rattle.salt_gatelog.specs.declared.pair.PairErr.TheVariants.{Disk}
use Rattle.salt_paged.proofs.Fulls.{none_full}
use Rattle.salt_paged.proofs.Opened.{found_why, named_all, named_settled, opened_images, opened_others, opens_as, others_all, read_why}
use Rattle.salt_paged.proofs.open.open_partition.Goals as goal
use Rattle.salt_stands.specs.Partition.{pages_device}
use Rattle.std.proofs.Common.{Err, None, Some, [], ap, ◌≡◌, ◌∙◌}
use Rattle.std.proofs.lemmas.Result.{err_from_is_err_and}

pub read_pages-requires-clause-found : goal.read_pages-requires-clause-found
read_pages-requires-clause-found g c = record { p = c.args.part; is = c.in_ok-found.ensures.found.0 }

pub read_pages-requires-clause-named : goal.read_pages-requires-clause-named
read_pages-requires-clause-named g c told =
    let d0 = g.D.Disks.view c.args.disks.now in
    let d1 = g.D.Disks.view c.find_log.new.disks in
    named_settled d0 d1 c.in_ok-found.found c.args.part c.in_ok-found.ensures.kept c.in_ok-found.ensures.found.0 c.requires.named told

pub redo-requires : goal.redo-requires
redo-requires g c = let r = c.in_ok-read.ensures.reads c.args.part c.in_ok-found.ensures.found.0 in record { p = c.args.part; v = r.view; is = r.is }

-- ITS LOG IS NOT FOUND

pub returns-in_err-found-clause-why : goal.returns-in_err-found-clause-why
returns-in_err-found-clause-why g c told =
    let p = err_from_is_err_and c.from_residual.result c.from_residual.ensures.1 in
    rw (p.1, p.2) (found_why (g.D.Disks.view c.args.disks.now).bytes c.args.boot c.args.decided.now c.args.part c.in_err-found.field-0.0 (c.in_err-found.ensures.why told))

pub returns-in_err-found-clause-images : goal.returns-in_err-found-clause-images
returns-in_err-found-clause-images g c told log counts =
    let d0 = g.D.Disks.view c.args.disks.now in
    let d1 = g.D.Disks.view c.find_log.new.disks in
    named_all log.header.sides d0 d1 (pages_device c.args.part) _ c.in_err-found.ensures.kept

pub returns-in_err-found-clause-others : goal.returns-in_err-found-clause-others
returns-in_err-found-clause-others g c =
    let d0 = g.D.Disks.view c.args.disks.now in
    let d1 = g.D.Disks.view c.find_log.new.disks in
    let p = err_from_is_err_and c.from_residual.result c.from_residual.ensures.1 in
    rw (p.1, p.2) (others_all d0 d1 (pages_device c.args.part) _ c.in_err-found.ensures.kept)

pub returns-in_err-found-clause-device : goal.returns-in_err-found-clause-device
returns-in_err-found-clause-device g c n is =
    let p = err_from_is_err_and c.from_residual.result c.from_residual.ensures.1 in
    let same : c.in_err-found.field-0.0 ≡ Disk (Full n) = cc (p.1, p.2, is) in
    absurd (none_full n (pair_err_of c.in_err-found.field-0.0) (ap pair_err_of same) c.in_err-found.ensures.answers)

-- ITS PAGES ARE NOT READ

pub returns-in_err-read-clause-why : goal.returns-in_err-read-clause-why
returns-in_err-read-clause-why g c told =
    let d0 = g.D.Disks.view c.args.disks.now in
    let d1 = g.D.Disks.view c.find_log.new.disks in
    let keeps = c.in_ok-found.ensures.kept in
    let p = err_from_is_err_and c.from_residual-in_err-read.result c.from_residual-in_err-read.ensures.1 in
    rw (p.1, p.2) (read_why d0 d1 c.args.boot c.args.decided.now c.args.part c.in_ok-found.found c.in_err-read.field-0.0 keeps c.in_ok-found.ensures.found.0 c.in_ok-found.ensures.found.1 told
    (c.in_err-read.ensures.why (keeps.shape.told ∙ told)))

pub returns-in_err-read-clause-images : goal.returns-in_err-read-clause-images
returns-in_err-read-clause-images g c told log counts =
    let d0 = g.D.Disks.view c.args.disks.now in
    let d1 = g.D.Disks.view c.find_log.new.disks in
    let d2 = g.D.Disks.view c.read_pages.new.disks in
    named_all log.header.sides d0 d2 (pages_device c.args.part) _ (keeps_then d0 d1 d2 _ c.in_ok-found.ensures.kept c.in_err-read.ensures.kept)

pub returns-in_err-read-clause-others : goal.returns-in_err-read-clause-others
returns-in_err-read-clause-others g c =
    let d0 = g.D.Disks.view c.args.disks.now in
    let d1 = g.D.Disks.view c.find_log.new.disks in
    let d2 = g.D.Disks.view c.read_pages.new.disks in
    let p = err_from_is_err_and c.from_residual-in_err-read.result c.from_residual-in_err-read.ensures.1 in
    rw (p.1, p.2) (others_all d0 d2 (pages_device c.args.part) _ (keeps_then d0 d1 d2 _ c.in_ok-found.ensures.kept c.in_err-read.ensures.kept))

pub returns-in_err-read-clause-device : goal.returns-in_err-read-clause-device
returns-in_err-read-clause-device g c n is =
    let p = err_from_is_err_and c.from_residual-in_err-read.result c.from_residual-in_err-read.ensures.1 in
    let same : c.in_err-read.field-0.0 ≡ Disk (Full n) = cc (p.1, p.2, is) in
    absurd (none_full n (pair_err_of c.in_err-read.field-0.0) (ap pair_err_of same) c.in_err-read.ensures.answers)

-- ITS UNITS ARE APPLIED, or not

pub returns-in-Ok-clause-opens : goal.returns-in-Ok-clause-opens
returns-in-Ok-clause-opens g c =
    let d0 = g.D.Disks.view c.args.disks.now in
    let d1 = g.D.Disks.view c.find_log.new.disks in
    let d2 = g.D.Disks.view c.read_pages.new.disks in
    let e = g.D.Disks.view c.redo.new.disks in
    let h = c.in_ok-found.ensures in
    let r = c.in_ok-read.ensures.reads c.args.part h.found.0 in
    opens_as d0 d1 d2 c.in_ok-found.found c.in_ok-read.read c.args.boot c.args.decided.now c.args.part h.kept c.in_ok-read.ensures.kept h.found.0 h.found.1 c.requires.named r e c.in-Ok.partition
    (c.in-Ok.ensures.ok c.args.part r.view r.is)

pub returns-in-Ok-clause-images : goal.returns-in-Ok-clause-images
returns-in-Ok-clause-images g c =
    let d0 = g.D.Disks.view c.args.disks.now in
    let d1 = g.D.Disks.view c.find_log.new.disks in
    let d2 = g.D.Disks.view c.read_pages.new.disks in
    let e = g.D.Disks.view c.redo.new.disks in
    let h = c.in_ok-found.ensures in
    let r = c.in_ok-read.ensures.reads c.args.part h.found.0 in
    opened_images d0 d1 d2 c.in_ok-found.found c.in_ok-read.read c.args.boot c.args.decided.now c.args.part h.kept c.in_ok-read.ensures.kept h.found.0 h.found.1 c.requires.named r e
    (c.redo.ensures.images c.args.part r.view r.is)

pub returns-in-Ok-clause-others : goal.returns-in-Ok-clause-others
returns-in-Ok-clause-others g c =
    let d0 = g.D.Disks.view c.args.disks.now in
    let d1 = g.D.Disks.view c.find_log.new.disks in
    let d2 = g.D.Disks.view c.read_pages.new.disks in
    let e = g.D.Disks.view c.redo.new.disks in
    let h = c.in_ok-found.ensures in
    let r = c.in_ok-read.ensures.reads c.args.part h.found.0 in
    opened_others d0 d1 d2 c.in_ok-found.found c.in_ok-read.read c.args.boot c.args.decided.now c.args.part h.kept c.in_ok-read.ensures.kept h.found.0 h.found.1 c.requires.named r e None c.in-Ok.ensures.others

pub returns-in-Err-clause-images : goal.returns-in-Err-clause-images
returns-in-Err-clause-images g c =
    let d0 = g.D.Disks.view c.args.disks.now in
    let d1 = g.D.Disks.view c.find_log.new.disks in
    let d2 = g.D.Disks.view c.read_pages.new.disks in
    let e = g.D.Disks.view c.redo.new.disks in
    let h = c.in_ok-found.ensures in
    let r = c.in_ok-read.ensures.reads c.args.part h.found.0 in
    opened_images d0 d1 d2 c.in_ok-found.found c.in_ok-read.read c.args.boot c.args.decided.now c.args.part h.kept c.in_ok-read.ensures.kept h.found.0 h.found.1 c.requires.named r e
    (c.redo.ensures.images c.args.part r.view r.is)

pub returns-in-Err-clause-others : goal.returns-in-Err-clause-others
returns-in-Err-clause-others g c =
    let d0 = g.D.Disks.view c.args.disks.now in
    let d1 = g.D.Disks.view c.find_log.new.disks in
    let d2 = g.D.Disks.view c.read_pages.new.disks in
    let e = g.D.Disks.view c.redo.new.disks in
    let h = c.in_ok-found.ensures in
    let r = c.in_ok-read.ensures.reads c.args.part h.found.0 in
    opened_others d0 d1 d2 c.in_ok-found.found c.in_ok-read.read c.args.boot c.args.decided.now c.args.part h.kept c.in_ok-read.ensures.kept h.found.0 h.found.1 c.requires.named r e (Some c.in-Err.e) c.in-Err.ensures.others

pub returns-in-Err-clause-device : goal.returns-in-Err-clause-device
returns-in-Err-clause-device g c n is =
    let r = c.in_ok-read.ensures.reads c.args.part c.in_ok-found.ensures.found.0 in
    let same : c.in-Err.e ≡ Full n = cc in
    c.in-Err.ensures.device n (ap Err same) ∙ ap pages_device (r.is.is []).part
