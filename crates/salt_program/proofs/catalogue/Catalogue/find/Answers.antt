use Rattle.salt_program.proofs.Programs.{program_named-definition}
use Rattle.salt_program.proofs.catalogue.Catalogue.find.Goals as goal
use Rattle.std.proofs.Common.{◌∙◌}

pub returns : goal.returns
returns c = c.named.ensures ∙ rw c.self.view_is (program_named-definition c.args.self.now c.args.name.now)
