use Rattle.salt_audit.proofs.start.nothing_known.Goals as goal
use Rattle.salt_audit.specs.Knowing.{TellsUnit, stand_of}
use Rattle.salt_audit.specs.Retelling.{retold}
use Rattle.salt_values.specs.declared.cont.Cont.{Cont}
use Rattle.std.proofs.Common.{List, [], ap, map, refl, subst, sym}

pub returns : goal.returns
returns c = record {
  opened = refl;
  schema = sym c.new.ensures;
  programs = sym c.new-2.ensures;
  conts = ap (λ (cs : List Cont). map stand_of cs) (sym c.new-3.ensures);
  units = λ u. subst (TellsUnit (retold []) u) (sym (c.no_units.ensures u)) (record { there = refl; standing = refl });
  bases = sym c.new-4.ensures;
  accepted = sym c.new-5.ensures;
  finished = sym c.new-6.ensures;
}
