use Rattle.law_decisions.proofs.Naming.{decided-boot, named-so}
use Rattle.law_decisions.proofs.laws.units_of_the_boot_are_named_so.Goals as goal

pub returns : goal.returns
returns c = record {
  open_units = λ s trace keeps sound. named-so trace sound s keeps (c.names_rise.ensures s trace keeps sound);
  decided = decided-boot;
}
