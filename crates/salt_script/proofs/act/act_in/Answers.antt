use Rattle.std.proofs.Common.{subst, sym}
use Rattle.std.specs.Prelude.{Err, Ok}
use Rattle.salt_script.proofs.Acts.{IsSettled, statement_settles, word_settles}
use Rattle.salt_script.proofs.act.act_in.Goals as goal
use Rattle.salt_ast.specs.Symbols.{symbols_in}
use Rattle.salt_ast.specs.declared.lines.Act.TheVariants as act

pub returns-in-Begin : goal.returns-in-Begin
returns-in-Begin c = subst (IsSettled (symbols_in c.args.tokens.now)) (sym c.alone.ensures) (word_settles _ _ _ c.in-Begin.ensures)

pub returns-in-Commit : goal.returns-in-Commit
returns-in-Commit c = subst (IsSettled (symbols_in c.args.tokens.now)) (sym c.alone-in-Commit.ensures) (word_settles _ _ _ c.in-Commit.ensures)

pub returns-in-Rollback : goal.returns-in-Rollback
returns-in-Rollback c = subst (IsSettled (symbols_in c.args.tokens.now)) (sym c.alone-in-Rollback.ensures) (word_settles _ _ _ c.in-Rollback.ensures)

pub returns-in-Step : goal.returns-in-Step
returns-in-Step c = subst (IsSettled (symbols_in c.args.tokens.now)) (sym c.alone-in-Step.ensures) (word_settles _ _ _ c.in-Step.ensures)

pub returns-in_ok-new-in-Ok : goal.returns-in_ok-new-in-Ok
returns-in_ok-new-in-Ok c = subst (λ st. IsSettled (symbols_in c.args.tokens.now) (Ok (act.Do st))) (sym c.in_ok-new-in-Ok.ensures) (statement_settles (symbols_in c.args.tokens.now) (Ok c.in-Ok.statement) (sym c.in-Statement.ensures) c.in-Ok.ensures)

pub returns-in-Err : goal.returns-in-Err
returns-in-Err c = statement_settles (symbols_in c.args.tokens.now) (Err c.in-Err.e) (sym c.in-Statement.ensures) c.in-Err.ensures
