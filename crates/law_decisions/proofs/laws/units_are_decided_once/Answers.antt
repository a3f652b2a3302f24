use Rattle.law_decisions.proofs.Naming.{may-be-before, may-no-more, open-may}
use Rattle.law_decisions.proofs.laws.units_are_decided_once.Goals as goal

pub returns : goal.returns
returns c = record {
  before = may-be-before;
  ended = may-no-more;
  opened = λ s boot n u may. may.0;
  now = λ s trace o end keeps sound named comes decides behind.
      open-may s o named (c.units_of_the_boot_are_named_so.ensures.decided s trace o.unit end keeps sound comes decides behind);
}
