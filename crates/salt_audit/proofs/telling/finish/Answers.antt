use Rattle.salt_audit.proofs.telling.finish.Goals as goal
use Rattle.std.proofs.Common.{refl}

pub returns : goal.returns
returns c = record {
  opened = refl;
  schema = refl;
  programs = refl;
  conts = refl;
  units = λ u. refl;
  bases = refl;
  accepted = refl;
  finished = c.in_ok-push.ensures.ok;
}
