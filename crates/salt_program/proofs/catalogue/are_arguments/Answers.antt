use Rattle.salt_program.proofs.Programs.{are_arguments-length}
use Rattle.salt_program.proofs.catalogue.are_arguments.Goals as goal

pub returns-then-params-args : goal.returns-then-params-args
returns-then-params-args c = are_arguments-length c.args.params.now c.args.args.now c.if-params-args.true
