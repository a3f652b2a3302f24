use Rattle.salt_audit.proofs.Fewness.{few_parts}
use Rattle.salt_audit.proofs.formed.may_define.Goals as goal
use Rattle.law_definitions.specs.Texts.{definition_in}
use Rattle.std.proofs.Common.{refl, sym, ◌∙◌}

pub is_accepted-requires : goal.is_accepted-requires
is_accepted-requires c =
    few_parts c.limited_are_few.ensures c.args.text.now (λ d e. (c.definitions_are_read.ensures c.args.text.now d).0 e) c.in-Some.line (definition_in c.args.text.now) refl
    (sym c.in-Some.is ∙ c.in_ok-line.ensures)
