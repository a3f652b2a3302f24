use Rattle.salt_program.proofs.Refused.{program_refusal-room}
use Rattle.salt_program.proofs.catalogue.Catalogue.judge.Goals as goal
use Rattle.std.proofs.Common.{arith, length, ◌<◌}

pub returns : goal.returns
returns c =
    let few : length c.args.self.now < 256 = omega (arith, c.count.ensures.count) in
    rw (program_refusal-room c.args.schema.now c.args.self.now c.args.def.now few, ← c.text_fault-fault.ensures, ← c.branch_fault.ensures) c.answer.ensures
