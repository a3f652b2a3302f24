use Rattle.salt_loaded.proofs.Counted.{read_at}
use Rattle.salt_loaded.proofs.among.bytes_from.Goals as goal
use Rattle.std.proofs.Common.{pos}

pub returns : goal.returns
returns c = read_at c.args.bytes.now c.args.spots.now c.args.i (record { number = pos 0; at = 0; kind = 0 }) c.requires.spots c.requires.within
