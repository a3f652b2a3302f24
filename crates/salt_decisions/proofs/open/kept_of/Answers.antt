use Rattle.salt_decisions.proofs.Keeping.{keeps_so}
use Rattle.salt_decisions.proofs.open.kept_of.Goals as goal
use Rattle.salt_decisions.specs.Header.{numbered_of}
use Rattle.salt_decisions.specs.Said.{text_of}
use Rattle.std.proofs.Common.{ap, ◌∙◌}
use Rattle.std.specs.Prelude.{map}

pub returns-clause-keeps : goal.returns-clause-keeps
returns-clause-keeps c l h = keeps_so c.args.log l c.device.result h c.in_ok-texts_of.field-0 (c.in_ok-texts_of.ensures ∙ ap (map (λ d. text_of (numbered_of d))) c.as_slice.ensures)
