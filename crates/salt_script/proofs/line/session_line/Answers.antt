use Rattle.std.proofs.Common.{subst, sym}
use Rattle.std.specs.Prelude.{Err}
use Rattle.salt_script.proofs.Acts.{IsSettled}
use Rattle.salt_script.proofs.Lines.{session_comes_first, session_fails, session_is_no_line, session_passes, session_within}
use Rattle.salt_script.proofs.line.session_line.Goals as goal
use Rattle.salt_ast.specs.Symbols.{symbols_in}

pub returns-in-Ok : goal.returns-in-Ok
returns-in-Ok c = λ ts e. session_within ts (symbols_in c.args.tokens.now) c.args.session c.in-Ok.act e (sym c.in-None.ensures) c.in-Ok.ensures

pub returns-in-Err : goal.returns-in-Err
returns-in-Err c = λ ts e. session_fails ts (symbols_in c.args.tokens.now) c.args.session c.in-Err.e e (sym c.in-None.ensures) c.in-Err.ensures

pub returns-in-Ok-act_in : goal.returns-in-Ok-act_in
returns-in-Ok-act_in c = λ ts e.
    session_passes ts (symbols_in c.args.tokens.now) c.args.session c.in-Ok-act_in._act c.in-Some.limit e (sym c.in-Some.ensures) c.in-Ok-act_in.ensures

pub returns-in-Err-Limit : goal.returns-in-Err-Limit
returns-in-Err-Limit c = λ ts e.
    session_comes_first ts (symbols_in c.args.tokens.now) c.args.session c.in-Err-Limit._later c.in-Some.limit e (sym c.in-Some.ensures)
    (subst (λ r. IsSettled (symbols_in c.args.tokens.now) (Err r)) c.in-Err-Limit.field-0-is c.in-Err-Limit.ensures)

pub returns-in-Err-Syntax : goal.returns-in-Err-Syntax
returns-in-Err-Syntax c = λ ts e. session_is_no_line ts (symbols_in c.args.tokens.now) c.args.session e
    (subst (λ r. IsSettled (symbols_in c.args.tokens.now) (Err r)) c.in-Err-Syntax.field-0-is c.in-Err-Syntax.ensures)
