use Rattle.salt_schema.proofs.Firsts.{first-definition, first-number, first-within}
use Rattle.salt_schema.proofs.definitions.Definitions.first_of.Goals as goal
use Rattle.salt_ast.specs.TokenSpelling.{same_bytes}
use Rattle.std.proofs.Common.{ap, sym, ◌∙◌}
use Rattle.std.specs.Option.{option_copied}

pub returns-then-is_same_name-clause-within : goal.returns-then-is_same_name-clause-within
returns-then-is_same_name-clause-within g c =
    first-within g.T.Named.name c.args.name.now c.args.self.now c.in_ok-def.def.now (sym (sym (ap option_copied c.in_ok-def.was) ∙ c.get.ensures.value))

pub returns-then-is_same_name-clause-number : goal.returns-then-is_same_name-clause-number
returns-then-is_same_name-clause-number g c =
    first-number g.T.Named.name c.args.name.now c.args.self.now c.in_ok-def.def.now (sym (sym (ap option_copied c.in_ok-def.was) ∙ c.get.ensures.value))
    (ap (same_bytes c.args.name.now) (sym c.name.ensures) ∙ sym c.is_same_name.ensures ∙ c.if-is_same_name.true)

pub returns-then-is_same_name-clause-named : goal.returns-then-is_same_name-clause-named
returns-then-is_same_name-clause-named g c =
    sym (first-definition g.T.Named.name c.args.name.now c.args.self.now c.in_ok-def.def.now (sym (sym (ap option_copied c.in_ok-def.was) ∙ c.get.ensures.value))
    (ap (same_bytes c.args.name.now) (sym c.name.ensures) ∙ sym c.is_same_name.ensures ∙ c.if-is_same_name.true))
