use Rattle.salt_audit.proofs.telling.act.Goals as goal
use Rattle.std.proofs.Common.{refl}

pub returns : goal.returns
returns c = λ statement answer. record {
  opened = refl;
  schema = refl;
  programs = refl;
  conts = refl;
  units = λ u. c.in_ok-count.ensures u;
  bases = refl;
  accepted = refl;
  finished = refl;
}
