use Rattle.salt_cont.specs.Catalogues.{AllLeadOn}
use Rattle.salt_database.proofs.Draining.{leads-on}
use Rattle.salt_database.proofs.Found.{takes-on}
use Rattle.salt_database.proofs.opening.Opening.new.Goals as goal
use Rattle.std.proofs.Common.{refl, subst, sym}

pub new-known-requires : goal.new-known-requires
new-known-requires g c = let sound = c.requires.sound in subst AllLeadOn (sym sound.1.catalogue) (leads-on sound.0 sound.2)

pub returns-clause-is_new : goal.returns-clause-is_new
returns-clause-is_new g c = λ k is sound. record {
  taken = takes-on c.args.early c.args.found k c.new-known.result c.new.result _ _ is c.requires.unspent c.new-known.ensures (c.new.ensures k) refl refl;
  line = refl;
  none = refl;
}

pub returns-clause-found : goal.returns-clause-found
returns-clause-found g c = λ told now. tt
