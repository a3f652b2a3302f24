use Rattle.salt_audit.proofs.telling.be_opened.Goals as goal
use Rattle.std.proofs.Common.{refl}

pub returns : goal.returns
returns c = λ boot n. record {
  opened = refl;
  schema = refl;
  programs = refl;
  conts = refl;
  units = λ u. refl;
  bases = refl;
  accepted = refl;
  finished = refl;
}
