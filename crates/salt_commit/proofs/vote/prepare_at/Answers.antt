use Rattle.salt_commit.proofs.Voting.{err_is, ok_then, read_at}
use Rattle.salt_commit.proofs.vote.prepare_at.Goals as goal
use Rattle.salt_disk.specs.declared.disks.DiskErr.TheVariants.{Full}
use Rattle.salt_paged.specs.Partitions.{IsPartition}
use Rattle.salt_shares.proofs.Sharing.{Prepares, share_read}
use Rattle.salt_shares.specs.Prepares.{StandsForShare}
use Rattle.salt_shares.specs.Shares.{MayPrepareShare, share_at, with_share}
use Rattle.std.proofs.Common.{Some, ap, arith, refl, subst, sym, ◌∙◌}
use Rattle.std.proofs.lemmas.Option.{slice_get_within}
use Rattle.std.specs.Result.{result_err}

pub prepare_share-requires : goal.prepare_share-requires
prepare_share-requires g c =
    let h = c.requires.may in
    let d = g.D.Disks.view c.args.disks.now in
    let low = slice_get_within c.args.parts.now.items c.args.number h.x h.at in
    let same = read_at c.args.parts.now.items c.args.number h.x c.index_mut-part.result.now h.at c.index_mut-part.ensures.value in
    let read = share_read c.args.shares.now c.args.number c.index-shares-number.result (omega (arith, low, c.requires.size)) c.index-shares-number.is in
    subst (λ cs. StandsForShare d c.index_mut-part.result.now c.args.unit cs) read (subst (λ x. StandsForShare d x c.args.unit (share_at c.args.shares.now c.args.number)) (sym same) h.may)

pub returns : goal.returns
returns g c =
    let h = c.requires.may in
    let d = g.D.Disks.view c.args.disks.now in
    let e = g.D.Disks.view c.prepare_share.new.disks in
    let x = c.index_mut-part.result.now in
    let low = slice_get_within c.args.parts.now.items c.args.number h.x h.at in
    let same = read_at c.args.parts.now.items c.args.number h.x x h.at c.index_mut-part.ensures.value in
    let read = share_read c.args.shares.now c.args.number c.index-shares-number.result (omega (arith, low, c.requires.size)) c.index-shares-number.is in
    let own = share_at c.args.shares.now c.args.number in
    let answer = result_err c.prepare_share.result in
    let says_so : Prepares d e x c.args.unit own answer =
    subst (λ cs. Prepares d e x c.args.unit cs answer) (sym read) (record { images = c.prepare_share.ensures.images; others = c.prepare_share.ensures.others; full = c.prepare_share.ensures.full }) in
    record {
      x = x;
      y = c.prepare_share.new.part;
      at = h.at ∙ ap (λ z. Some z) (sym same);
      set = refl;
      goes = λ fine p v applied is may.
          let goes = ok_then c.prepare_share.result (IsPartition e c.prepare_share.new.part p (with_share c.args.unit c.index-shares-number.result v) applied) fine
          (c.prepare_share.ensures.ok p v applied is (subst (λ cs. MayPrepareShare v applied c.args.unit cs) read may)) in
          subst (λ cs. IsPartition e c.prepare_share.new.part p (with_share c.args.unit cs v) applied) (sym read) goes;
      images = says_so.images;
      others = says_so.others;
      cause = c.prepare_share.ensures.cause;
      full = says_so.full;
      untouched = λ k is. c.prepare_share.ensures.untouched k (err_is c.prepare_share.result (Full k) is);
    }
