use Rattle.std.proofs.Common.{refl}
use Rattle.salt_exprs.proofs.Numbers.{value_named-find}
use Rattle.salt_exprs.proofs.names.variable_value.Goals as goal

pub returns-in-Some : goal.returns-in-Some
returns-in-Some c = rw (value_named-find c.args.name.now c.args.vars.now, ← c.binding_of.ensures, c.in-Some.is) refl

pub returns-in-None : goal.returns-in-None
returns-in-None c = rw (value_named-find c.args.name.now c.args.vars.now, ← c.binding_of.ensures, c.in-None.is) refl
