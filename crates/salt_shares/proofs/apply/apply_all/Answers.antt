use Rattle.salt_shares.proofs.Applying.{Applies, HasApplied, all_applied, full_next, images_next, next_one, none_yet, one_applied, others_all}
use Rattle.salt_shares.proofs.Sharing.{share_read}
use Rattle.salt_shares.proofs.Standing.{pages_stand}
use Rattle.salt_shares.proofs.apply.apply_all.Goals as goal
use Rattle.salt_shares.specs.Applies.{IsShareLast}
use Rattle.salt_shares.specs.Shares.{share_at}
use Rattle.std.proofs.Common.{None, Some, arith, length, subst, sym, ◌<◌}
use Rattle.std.proofs.lemmas.Result.{err_from_is_err_and}
use Rattle.std.specs.Result.{result_err}

pub loop-number-init : goal.loop-number-init
loop-number-init g c = none_yet (g.D.Disks.view c.args.disks.now) c.args.parts.now.items c.args.unit c.args.shares.now

pub apply_share-requires : goal.apply_share-requires
apply_share-requires g c =
    let l = c.loop-number in
    let within : l.number < length l.parts.items = omega (arith, l.invariant.size) in
    let x = c.index_mut-part.result.now in
    let stand = c.requires.stand in
    let read = share_read c.args.shares.now l.number c.index-shares-number.result (omega (arith, within, l.invariant.size, c.requires.size)) c.index-shares-number.is in
    record {
      p = l.number;
      v = stand.v l.number;
      applied = stand.applied l.number;
      is = next_one (g.D.Disks.view c.args.disks.now) (g.D.Disks.view l.disks) c.args.parts.now.items l.parts.items c.args.unit c.args.shares.now l.number l.invariant x within c.index_mut-part.ensures.value stand.v stand.applied stand.are;
      last = subst (λ cs. IsShareLast (stand.v l.number) (stand.applied l.number) c.args.unit cs) read (stand.last.each l.number);
    }

pub returns-in_err-apply_share-clause-images : goal.returns-in_err-apply_share-clause-images
returns-in_err-apply_share-clause-images g c v applied are p =
    let l = c.loop-number in
    let d = g.D.Disks.view l.disks in
    let e = g.D.Disks.view c.apply_share.new.disks in
    let within : l.number < length l.parts.items = omega (arith, l.invariant.size) in
    let x = c.index_mut-part.result.now in
    let read = share_read c.args.shares.now l.number c.index-shares-number.result (omega (arith, within, l.invariant.size, c.requires.size)) c.index-shares-number.is in
    let answer = result_err c.apply_share.result in
    let says : Applies d e x c.args.unit (share_at c.args.shares.now l.number) answer =
    subst (λ cs. Applies d e x c.args.unit cs answer) (sym read) (record { images = c.apply_share.ensures.images; others = c.apply_share.ensures.others; full = c.apply_share.ensures.full }) in
    images_next (g.D.Disks.view c.args.disks.now) d c.args.parts.now.items l.parts.items c.args.unit c.args.shares.now l.number l.invariant x within c.index_mut-part.ensures.value e answer says.others says.images v applied are p

pub returns-in_err-apply_share-clause-others : goal.returns-in_err-apply_share-clause-others
returns-in_err-apply_share-clause-others g c =
    let l = c.loop-number in
    let d = g.D.Disks.view l.disks in
    let e = g.D.Disks.view c.apply_share.new.disks in
    let within : l.number < length l.parts.items = omega (arith, l.invariant.size) in
    let x = c.index_mut-part.result.now in
    let read = share_read c.args.shares.now l.number c.index-shares-number.result (omega (arith, within, l.invariant.size, c.requires.size)) c.index-shares-number.is in
    let answer = Some c.in_err-apply_share.field-0.0 in
    let says : Applies d e x c.args.unit (share_at c.args.shares.now l.number) answer =
    subst (λ cs. Applies d e x c.args.unit cs answer) (sym read) (record { images = c.in_err-apply_share.ensures.images; others = c.in_err-apply_share.ensures.others; full = c.in_err-apply_share.ensures.full }) in
    let p = err_from_is_err_and c.from_residual.result c.from_residual.ensures.1 in
    rw (p.1, p.2) (others_all (g.D.Disks.view c.args.disks.now) d c.args.parts.now.items l.parts.items c.args.unit c.args.shares.now l.number l.invariant x within c.index_mut-part.ensures.value e answer says.others)

pub returns-in_err-apply_share-clause-full : goal.returns-in_err-apply_share-clause-full
returns-in_err-apply_share-clause-full g c v applied are last told =
    let l = c.loop-number in
    let d = g.D.Disks.view l.disks in
    let e = g.D.Disks.view c.apply_share.new.disks in
    let within : l.number < length l.parts.items = omega (arith, l.invariant.size) in
    let x = c.index_mut-part.result.now in
    let read = share_read c.args.shares.now l.number c.index-shares-number.result (omega (arith, within, l.invariant.size, c.requires.size)) c.index-shares-number.is in
    let answer = Some c.in_err-apply_share.field-0.0 in
    let says : Applies d e x c.args.unit (share_at c.args.shares.now l.number) answer =
    subst (λ cs. Applies d e x c.args.unit cs answer) (sym read) (record { images = c.in_err-apply_share.ensures.images; others = c.in_err-apply_share.ensures.others; full = c.in_err-apply_share.ensures.full }) in
    let p = err_from_is_err_and c.from_residual.result c.from_residual.ensures.1 in
    rw (p.1, p.2) (full_next (g.D.Disks.view c.args.disks.now) d c.args.parts.now.items l.parts.items c.args.unit c.args.shares.now l.number l.invariant x within c.index_mut-part.ensures.value answer says.full v applied are last told)

pub loop-number-preserved : goal.loop-number-preserved
loop-number-preserved g c =
    let l = c.loop-number in
    let d = g.D.Disks.view l.disks in
    let e = g.D.Disks.view c.apply_share.new.disks in
    let within : l.number < length l.parts.items = omega (arith, l.invariant.size) in
    let x = c.index_mut-part.result.now in
    let read = share_read c.args.shares.now l.number c.index-shares-number.result (omega (arith, within, l.invariant.size, c.requires.size)) c.index-shares-number.is in
    let own = share_at c.args.shares.now l.number in
    let says : Applies d e x c.args.unit own None =
    subst (λ cs. Applies d e x c.args.unit cs None) (sym read) (record { images = c.in_ok-apply_share.ensures.images; others = c.in_ok-apply_share.ensures.others; full = c.in_ok-apply_share.ensures.full }) in
    let has : HasApplied d e x c.apply_share.new.part c.args.unit own =
    subst (λ cs. HasApplied d e x c.apply_share.new.part c.args.unit cs) (sym read) (record { cause = c.in_ok-apply_share.ensures.cause; goes = c.in_ok-apply_share.ensures.ok }) in
    one_applied (g.D.Disks.view c.args.disks.now) d c.args.parts.now.items l.parts.items c.args.unit c.args.shares.now l.number l.invariant x within c.index_mut-part.ensures.value e c.apply_share.new.part says.others has.cause says.images has.goes

pub returns-clause-ok : goal.returns-clause-ok
returns-clause-ok g c =
    let l = c.loop-number in
    all_applied (g.D.Disks.view c.args.disks.now) (g.D.Disks.view l.disks) c.args.parts.now.items l.parts.items c.args.unit c.args.shares.now l.number l.invariant (omega (arith, l.invariant.size))

pub returns-clause-images : goal.returns-clause-images
returns-clause-images g c v applied are p = c.loop-number.invariant.images v applied are p

-- WHAT STANDS, whatever it answers

pub returns-in_err-apply_share-clause-stand : goal.returns-in_err-apply_share-clause-stand
returns-in_err-apply_share-clause-stand g c r which co v applied ready are =
    let l = c.loop-number in
    let d0 = g.D.Disks.view c.args.disks.now in
    let d = g.D.Disks.view l.disks in
    let e = g.D.Disks.view c.apply_share.new.disks in
    let parts = c.args.parts.now.items in
    let shares = c.args.shares.now in
    let within : l.number < length l.parts.items = omega (arith, l.invariant.size) in
    let x = c.index_mut-part.result.now in
    let at = c.index_mut-part.ensures.value in
    let read = share_read shares l.number c.index-shares-number.result (omega (arith, within, l.invariant.size, c.requires.size)) c.index-shares-number.is in
    let answer = result_err c.apply_share.result in
    let says : Applies d e x c.args.unit (share_at shares l.number) answer =
    subst (λ cs. Applies d e x c.args.unit cs answer) (sym read) (record { images = c.apply_share.ensures.images; others = c.apply_share.ensures.others; full = c.apply_share.ensures.full }) in
    let others = others_all d0 d parts l.parts.items c.args.unit shares l.number l.invariant x within at e answer says.others in
    let pages = images_next d0 d parts l.parts.items c.args.unit shares l.number l.invariant x within at e answer says.others says.images v applied are in
    pages_stand r d0 e which co v ready parts shares (length parts) answer others pages

pub returns-clause-stand : goal.returns-clause-stand
returns-clause-stand g c r which co v applied ready are =
    let l = c.loop-number in
    pages_stand r (g.D.Disks.view c.args.disks.now) (g.D.Disks.view l.disks) which co v ready c.args.parts.now.items c.args.shares.now l.number None l.invariant.others (l.invariant.images v applied are)
