use Rattle.salt_decisions.proofs.Pairing.{content_kept, has_pair}
use Rattle.salt_decisions.proofs.pair.read_pair.Goals as goal
use Rattle.salt_decisions.specs.Pair.{HasPair}
use Rattle.std.proofs.Common.{subst, sym}

pub returns-clause-pair : goal.returns-clause-pair
returns-clause-pair g c =
    let d = g.D.Disks.view c.read_device.new.disks in
    let e = g.D.Disks.view c.read_device-2.new.disks in
    subst (HasPair e) (sym c.choose.ensures) (has_pair e c.in_ok-a.a c.in_ok-b.b (content_kept d e 0 c.in_ok-a.a c.in_ok-b.ensures.kept c.in_ok-a.ensures.content) c.in_ok-b.ensures.content)
