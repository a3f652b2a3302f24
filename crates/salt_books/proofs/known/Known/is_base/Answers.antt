use Rattle.salt_books.proofs.known.Known.is_base.Goals as goal
use Rattle.salt_model.specs.Refusals.{is_base_program}
use Rattle.std.proofs.Common.{ap, ◌∙◌}

pub returns : goal.returns
returns c = λ k h. c.is_base_program.ensures ∙ ap is_base_program (c.program.ensures k h)
