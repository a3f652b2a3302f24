use Rattle.std.proofs.lemmas.Result.{err_from_is_err_and}
use Rattle.std.specs.Prelude.{Err, Ok}
use Rattle.salt_script.proofs.Acts.{call_settles}
use Rattle.salt_script.proofs.act.call_act.Goals as goal
use Rattle.salt_script.specs.Answers.{GivesOrLimit}
use Rattle.salt_script.specs.Spelled.{call_at, call_passed}
use Rattle.salt_ast.specs.Symbols.{symbols_in}
use Rattle.std.proofs.Common.{subst}

pub returns-in-Ok : goal.returns-in-Ok
returns-in-Ok c = λ ts e. call_settles ts (symbols_in c.args.tokens.now) e (Ok (Ok (c.in-Ok.program, c.in-Ok.args)))
    (subst (λ r. GivesOrLimit call_passed (Ok r) (call_at (symbols_in c.args.tokens.now))) c.in-Ok.is c.in_ok-program.ensures)

pub returns-in-Err : goal.returns-in-Err
returns-in-Err c = λ ts e. call_settles ts (symbols_in c.args.tokens.now) e (Ok (Err c.in-Err.limit))
    (subst (λ r. GivesOrLimit call_passed (Ok r) (call_at (symbols_in c.args.tokens.now))) c.in-Err.is c.in_ok-program.ensures)

pub returns-in_err-program : goal.returns-in_err-program
returns-in_err-program c =
    let p = err_from_is_err_and c.from_residual.result c.from_residual.ensures.1 in
    rw (p.1, p.2) (λ ts e. call_settles ts (symbols_in c.args.tokens.now) e (Err c.in_err-program.field-0.0) c.in_err-program.ensures)
