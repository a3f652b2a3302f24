use Rattle.salt_program.proofs.Refused.{program_refusal-IsAccepted}
use Rattle.salt_program.proofs.catalogue.Catalogue.define.Goals as goal

pub add-requires : goal.add-requires
add-requires c =
    let a = program_refusal-IsAccepted c.args.schema.now c.args.self.now c.args.def c.in_ok-judge.ensures in record { new = rw c.self.view_is a.new }
