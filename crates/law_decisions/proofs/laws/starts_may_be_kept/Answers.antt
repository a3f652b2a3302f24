use Rattle.law_decisions.proofs.Starting.{kept-later, next-boot, nothing-sound}
use Rattle.std.specs.Prelude.{◌+◌}
use Rattle.law_decisions.proofs.laws.starts_may_be_kept.Goals as goal

pub returns : goal.returns
returns c = record {
  nothing = nothing-sound c.definitions_keep_types.ensures.nothing;
  booted = λ k sound. kept-later k (k.boot + 1) (next-boot k.boot) sound;
  later = kept-later;
}
