use Rattle.salt_checkpoint.proofs.Torn.{keeps_all}
use Rattle.salt_paged.specs.Partitions.{page_count, pages_of}
use Rattle.salt_shares.proofs.Applying.{changes_there, full_within}
use Rattle.salt_shares.proofs.apply.apply_share.Goals as goal
use Rattle.std.specs.Result.{result_err}

pub returns-then-is_empty-clause-images : goal.returns-then-is_empty-clause-images
returns-then-is_empty-clause-images g c p v applied is =
    let d = g.D.Disks.view c.args.disks.now in
    keeps_all v.log.header.sides d d (pages_of c.args.part.now) (λ bytes left. left)

pub returns-clause-full : goal.returns-clause-full
returns-clause-full g c p v applied is last told =
    let d = g.D.Disks.view c.args.disks.now in
    let x = c.args.part.now in
    let own = last (changes_there c.is_empty.result c.args.share.now c.is_empty.ensures c.if-is_empty.false) in
    full_within d.limit x v applied c.args.unit own (page_count c.apply.new.self) (result_err c.apply.result) (c.apply.ensures.pages p v applied is own told) c.apply.ensures.full
