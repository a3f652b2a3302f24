use Rattle.salt_gatelog.proofs.Entries.{not_told, read_size}
use Rattle.salt_gatelog.proofs.entry.size_at.Goals as goal
use Rattle.salt_gatelog.proofs.entry.size_at.Goals.{then-count-lt8-via-else-count-lt8+then-size-end, then-count-lt8-via-then-count-lt8}
use Rattle.std.proofs.Common.{IsTrue, List, [], arith, refl, sym, ℕ, ◌∙◌, ◌∷◌}

abbrev zeros : List ℕ
zeros = 0 ∷ 0 ∷ 0 ∷ 0 ∷ 0 ∷ 0 ∷ 0 ∷ 0 ∷ []

pub rejected-requires-then-count-lt8 : goal.rejected-requires-then-count-lt8
rejected-requires-then-count-lt8 g c =
    let d0 = g.D.Disks.view c.args.disks.now in
    let bytes = d0.bytes c.args.dev in
    not_told (g.D.Disks.view c.read.new.disks).told (λ told'.
    let told : IsTrue d0.told = sym c.read.ensures.kept.shape.told ∙ told' in
    let here = c.requires.entry told in
    let r = read_size here.0 bytes zeros c.read.new.buf c.args.at c.args.end c.in_ok-count.count c.size_of-size.result here.1 c.ranges.end.fits c.size_of-size.type_inv refl (c.in_ok-count.ensures.bytes told) c.size_of-size.ensures in
    elim c.then-count-lt8.branch [
      | then-count-lt8-via-then-count-lt8 w ↦ absurd (omega (arith, r.0, w.if-count-lt8.true))
      | then-count-lt8-via-else-count-lt8+then-size-end w ↦ absurd (omega (arith, r.1, here.1.ends, w.if-size-end.true))
    ])

pub returns-clause-size : goal.returns-clause-size
returns-clause-size g c told payload here =
    let bytes = (g.D.Disks.view c.args.disks.now).bytes c.args.dev in
    (read_size payload bytes zeros c.read.new.buf c.args.at c.args.end c.in_ok-count.count c.size_of-size.result here c.ranges.end.fits c.size_of-size.type_inv refl (c.in_ok-count.ensures.bytes told) c.size_of-size.ensures).1
