use Rattle.salt_disk.specs.Disks.{FullWhere}
use Rattle.salt_bytes.specs.Partition.{spell_prepared}
use Rattle.salt_partition.specs.Partitions.{prepared}
use Rattle.salt_shares.proofs.Sharing.{HasPrepared, Prepares, all_done, at_first, full_next, full_untouched, images_next, log_of_shares, one_more, others_all, share_read, this}
use Rattle.salt_shares.proofs.Undecided.{undecided_stand}
use Rattle.salt_shares.proofs.prepare.prepare_all.Goals as goal
use Rattle.salt_shares.specs.Prepares.{PassesLimit}
use Rattle.salt_shares.specs.Shares.{MayPrepareShare, share_at}
use Rattle.salt_disk.specs.declared.disks.DiskErr.TheVariants.{Full}
use Rattle.std.proofs.Common.{Err, None, Some, ap, arith, length, subst, sym, ◌<◌, ◌≡◌}
use Rattle.std.proofs.lemmas.Result.{err_from_is_err_and}
use Rattle.std.specs.Result.{result_err}

pub loop-number-init : goal.loop-number-init
loop-number-init g c = at_first (g.D.Disks.view c.args.disks.now) c.args.parts.now.items c.args.unit c.args.shares.now

pub prepare_share-requires : goal.prepare_share-requires
prepare_share-requires g c =
    let l = c.loop-number in
    let within : l.number < length l.parts.items = omega (arith, l.invariant.size) in
    let x = c.index_mut-part.result.now in
    let stand = c.requires.stand in
    let read = share_read c.args.shares.now l.number c.index-shares-number.result (omega (arith, within, l.invariant.size, c.requires.size)) c.index-shares-number.is in
    record {
      p = l.number;
      v = stand.v l.number;
      applied = stand.applied l.number;
      is = this (g.D.Disks.view c.args.disks.now) (g.D.Disks.view l.disks) c.args.parts.now.items l.parts.items c.args.unit c.args.shares.now l.number l.invariant x within c.index_mut-part.ensures.value stand.v stand.applied stand.are;
      may = subst (λ cs. MayPrepareShare (stand.v l.number) (stand.applied l.number) c.args.unit cs) read (stand.may.each l.number);
    }

pub returns-in_err-prepare_share-clause-images : goal.returns-in_err-prepare_share-clause-images
returns-in_err-prepare_share-clause-images g c =
    let l = c.loop-number in
    let d = g.D.Disks.view l.disks in
    let e = g.D.Disks.view c.prepare_share.new.disks in
    let within : l.number < length l.parts.items = omega (arith, l.invariant.size) in
    let x = c.index_mut-part.result.now in
    let read = share_read c.args.shares.now l.number c.index-shares-number.result (omega (arith, within, l.invariant.size, c.requires.size)) c.index-shares-number.is in
    let answer = result_err c.prepare_share.result in
    let says : Prepares d e x c.args.unit (share_at c.args.shares.now l.number) answer =
    subst (λ cs. Prepares d e x c.args.unit cs answer) (sym read) (record { images = c.prepare_share.ensures.images; others = c.prepare_share.ensures.others; full = c.prepare_share.ensures.full }) in
    images_next (g.D.Disks.view c.args.disks.now) d c.args.parts.now.items l.parts.items c.args.unit c.args.shares.now l.number l.invariant x within c.index_mut-part.ensures.value e answer says.others says.images

pub returns-in_err-prepare_share-clause-others : goal.returns-in_err-prepare_share-clause-others
returns-in_err-prepare_share-clause-others g c =
    let l = c.loop-number in
    let d = g.D.Disks.view l.disks in
    let e = g.D.Disks.view c.prepare_share.new.disks in
    let within : l.number < length l.parts.items = omega (arith, l.invariant.size) in
    let x = c.index_mut-part.result.now in
    let read = share_read c.args.shares.now l.number c.index-shares-number.result (omega (arith, within, l.invariant.size, c.requires.size)) c.index-shares-number.is in
    let answer = Some c.in_err-prepare_share.field-0.0 in
    let says : Prepares d e x c.args.unit (share_at c.args.shares.now l.number) answer =
    subst (λ cs. Prepares d e x c.args.unit cs answer) (sym read) (record { images = c.in_err-prepare_share.ensures.images; others = c.in_err-prepare_share.ensures.others; full = c.in_err-prepare_share.ensures.full }) in
    let p = err_from_is_err_and c.from_residual.result c.from_residual.ensures.1 in
    rw (p.1, p.2) (others_all (g.D.Disks.view c.args.disks.now) d c.args.parts.now.items l.parts.items c.args.unit c.args.shares.now l.number l.invariant x within c.index_mut-part.ensures.value e answer says.others says.images)

pub returns-in_err-prepare_share-clause-full : goal.returns-in_err-prepare_share-clause-full
returns-in_err-prepare_share-clause-full g c =
    let l = c.loop-number in
    let d = g.D.Disks.view l.disks in
    let e = g.D.Disks.view c.prepare_share.new.disks in
    let within : l.number < length l.parts.items = omega (arith, l.invariant.size) in
    let x = c.index_mut-part.result.now in
    let read = share_read c.args.shares.now l.number c.index-shares-number.result (omega (arith, within, l.invariant.size, c.requires.size)) c.index-shares-number.is in
    let answer = Some c.in_err-prepare_share.field-0.0 in
    let says : Prepares d e x c.args.unit (share_at c.args.shares.now l.number) answer =
    subst (λ cs. Prepares d e x c.args.unit cs answer) (sym read) (record { images = c.in_err-prepare_share.ensures.images; others = c.in_err-prepare_share.ensures.others; full = c.in_err-prepare_share.ensures.full }) in
    let p = err_from_is_err_and c.from_residual.result c.from_residual.ensures.1 in
    rw (p.1, p.2) (full_next (g.D.Disks.view c.args.disks.now) d c.args.parts.now.items l.parts.items c.args.unit c.args.shares.now l.number l.invariant x within c.index_mut-part.ensures.value e answer says.others says.images says.full)

pub loop-number-preserved : goal.loop-number-preserved
loop-number-preserved g c =
    let l = c.loop-number in
    let d = g.D.Disks.view l.disks in
    let e = g.D.Disks.view c.prepare_share.new.disks in
    let within : l.number < length l.parts.items = omega (arith, l.invariant.size) in
    let x = c.index_mut-part.result.now in
    let read = share_read c.args.shares.now l.number c.index-shares-number.result (omega (arith, within, l.invariant.size, c.requires.size)) c.index-shares-number.is in
    let own = share_at c.args.shares.now l.number in
    let says : Prepares d e x c.args.unit own None =
    subst (λ cs. Prepares d e x c.args.unit cs None) (sym read) (record { images = c.in_ok-prepare_share.ensures.images; others = c.in_ok-prepare_share.ensures.others; full = c.in_ok-prepare_share.ensures.full }) in
    let has : HasPrepared d e x c.prepare_share.new.part c.args.unit own =
    subst (λ cs. HasPrepared d e x c.prepare_share.new.part c.args.unit cs) (sym read) (record { cause = c.in_ok-prepare_share.ensures.cause; goes = c.in_ok-prepare_share.ensures.ok }) in
    one_more (g.D.Disks.view c.args.disks.now) d c.args.parts.now.items l.parts.items c.args.unit c.args.shares.now l.number l.invariant x within c.index_mut-part.ensures.value e c.prepare_share.new.part says.others has.cause says.images has.goes

pub returns-clause-ok : goal.returns-clause-ok
returns-clause-ok g c =
    let l = c.loop-number in
    all_done (g.D.Disks.view c.args.disks.now) (g.D.Disks.view l.disks) c.args.parts.now.items l.parts.items c.args.unit c.args.shares.now l.number l.invariant (omega (arith, l.invariant.size))

pub returns-in_err-prepare_share-clause-untouched : goal.returns-in_err-prepare_share-clause-untouched
returns-in_err-prepare_share-clause-untouched g c k is =
    let l = c.loop-number in
    let d = g.D.Disks.view l.disks in
    let e = g.D.Disks.view c.prepare_share.new.disks in
    let within : l.number < length l.parts.items = omega (arith, l.invariant.size) in
    let x = c.index_mut-part.result.now in
    let read = share_read c.args.shares.now l.number c.index-shares-number.result (omega (arith, within, l.invariant.size, c.requires.size)) c.index-shares-number.is in
    let stand = c.requires.stand in
    let p = err_from_is_err_and c.from_residual.result c.from_residual.ensures.1 in
    let same : c.in_err-prepare_share.field-0.0 ≡ Full k = cc in
    let full = subst (λ z. FullWhere (PassesLimit d.limit x c.args.unit c.index-shares-number.result) (Some z)) same c.in_err-prepare_share.ensures.full in
    full_untouched (g.D.Disks.view c.args.disks.now) d c.args.parts.now.items l.parts.items c.args.unit c.args.shares.now l.number l.invariant x within c.index_mut-part.ensures.value e
    stand.v stand.applied stand.are k full.log.device (c.in_err-prepare_share.ensures.untouched k (ap Err same))

-- WHAT STANDS, whatever it answers

pub returns-in_err-prepare_share-clause-stand : goal.returns-in_err-prepare_share-clause-stand
returns-in_err-prepare_share-clause-stand g c r which co v applied cs decided m conts decision told ready are size may spelled =
    let l = c.loop-number in
    let d0 = g.D.Disks.view c.args.disks.now in
    let d = g.D.Disks.view l.disks in
    let e = g.D.Disks.view c.prepare_share.new.disks in
    let parts = c.args.parts.now.items in
    let shares = c.args.shares.now in
    let within : l.number < length l.parts.items = omega (arith, l.invariant.size) in
    let x = c.index_mut-part.result.now in
    let at = c.index_mut-part.ensures.value in
    let read = share_read shares l.number c.index-shares-number.result (omega (arith, within, l.invariant.size, c.requires.size)) c.index-shares-number.is in
    let answer = result_err c.prepare_share.result in
    let says : Prepares d e x c.args.unit (share_at shares l.number) answer =
    subst (λ cs. Prepares d e x c.args.unit cs answer) (sym read) (record { images = c.prepare_share.ensures.images; others = c.prepare_share.ensures.others; full = c.prepare_share.ensures.full }) in
    let images = images_next d0 d parts l.parts.items c.args.unit shares l.number l.invariant x within at e answer says.others says.images v applied are in
    let others = others_all d0 d parts l.parts.items c.args.unit shares l.number l.invariant x within at e answer says.others says.images in
    undecided_stand r d0 which co v ready cs decided m conts decision (λ p. spell_prepared (prepared c.args.unit (share_at shares p))) may spelled e others.shape told
    (λ dev apart. others.images dev (λ t. log_of_shares d0 parts v applied are shares (length parts) dev t apart)) (λ p low. images p (omega (arith, low, size)))

pub returns-clause-stand : goal.returns-clause-stand
returns-clause-stand g c r which co v applied cs decided m conts decision told ready are size may spelled =
    let l = c.loop-number in
    let d0 = g.D.Disks.view c.args.disks.now in
    let parts = c.args.parts.now.items in
    let shares = c.args.shares.now in
    undecided_stand r d0 which co v ready cs decided m conts decision (λ p. spell_prepared (prepared c.args.unit (share_at shares p))) may spelled (g.D.Disks.view l.disks) l.invariant.others.shape told
    (λ dev apart. l.invariant.others.images dev (λ t. log_of_shares d0 parts v applied are shares l.number dev t apart)) (λ p low. l.invariant.images v applied are p (omega (arith, low, size)))
