use Rattle.std.proofs.Common.{subst}
use Rattle.std.specs.Prelude.{Err, Ok}
use Rattle.salt_ast.specs.Limits.{value_passed}
use Rattle.salt_ast.specs.Words.{first_in}
use Rattle.salt_ast.specs.declared.limit.LimitName.TheVariants as limit
use Rattle.salt_script.proofs.Calls.{named_args, named_limit, short_name, long_name}
use Rattle.salt_script.proofs.act.named.Goals as goal
use Rattle.salt_script.specs.Answers.{GivesOrLimit}

pub returns-then-program-gt-NAME_MOST : goal.returns-then-program-gt-NAME_MOST
returns-then-program-gt-NAME_MOST c = λ read h.
    named_limit c.args.program.now c.args.args read limit.Name h (long_name c.args.program.now c.if-program-gt-NAME_MOST.true)

pub returns-in-Err : goal.returns-in-Err
returns-in-Err c = λ read h.
    named_args c.args.program.now (Err c.in-Err.limit) read (subst (λ r. GivesOrLimit (first_in value_passed) (Ok r) read) c.in-Err.is h)
    (short_name c.args.program.now c.if-program-gt-NAME_MOST.false)
