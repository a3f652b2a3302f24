use Rattle.salt_disk.specs.declared.disks.DiskErr.TheVariants.{Full}
use Rattle.salt_paged.proofs.Reopened.{again, last_still}
use Rattle.salt_paged.proofs.partition.Partition.reopen.Goals as goal
use Rattle.std.proofs.Common.{Err, ap, refl, ◌≡◌}
use Rattle.std.proofs.lemmas.Result.{err_from_is_err_and}

pub returns-clause-ok : goal.returns-clause-ok
returns-clause-ok g c p v applied now is goes same =
    let d = g.D.Disks.view c.args.disks.now in
    let e = g.D.Disks.view c.found_again.new.disks in
    let h = c.in_ok-opened.ensures in
    let x = c.args.self.now in
    again d e x c.in_ok-opened.opened c.args.boot c.args.decided.now now p v applied is h.opens h.same h.others.shape same _ is.part is.header is.which refl refl (last_still applied now v.log.prepared x.last goes is.last)

pub returns-in_err-opened-clause-device : goal.returns-in_err-opened-clause-device
returns-in_err-opened-clause-device g c n is =
    let p = err_from_is_err_and c.from_residual.result c.from_residual.ensures.1 in
    let same : c.in_err-opened.field-0.0 ≡ Full n = cc (p.1, p.2, is) in
    c.in_err-opened.ensures.device n (ap Err same)
