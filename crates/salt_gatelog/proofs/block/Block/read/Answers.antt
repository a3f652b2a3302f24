use Rattle.salt_disk.specs.Disks.{IsRead}
use Rattle.salt_gatelog.proofs.Blocks.{read_of}
use Rattle.salt_gatelog.proofs.block.Block.read.Goals as goal
use Rattle.salt_gatelog.specs.Block.{IsPiece}
use Rattle.std.proofs.Common.{List, subst, take, ℕ, ◌-◌, ◌∙◌}

pub returns-clause-bytes : goal.returns-clause-bytes
returns-clause-bytes g c told =
    let d = g.D.Disks.view c.args.disks.now in
    let block = c.reach.new.self in
    let keeps = c.in_ok-reach.ensures.kept in
    let piece : IsPiece (d.bytes c.args.dev) block = subst (λ (f : List ℕ). IsPiece f block) (keeps.kept c.args.dev (λ none. none)).bytes (c.in_ok-reach.ensures.block.piece (keeps.shape.told ∙ told)) in
    read_of (d.bytes c.args.dev) block piece c.args.at c.args.buf.now c.copy_from.new.buf c.copy_from.result c.in_ok-reach.ensures.from c.in_ok-reach.ensures.fits
    (subst (λ (bytes : List ℕ). IsRead (take block.count bytes) (c.args.at - block.from) c.args.buf.now c.copy_from.new.buf c.copy_from.result) c.deref.ensures.value c.copy_from.ensures.read)
