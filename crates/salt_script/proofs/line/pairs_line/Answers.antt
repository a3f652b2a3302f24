use Rattle.std.proofs.Common.{ap, subst, sym, ◌∙◌}
use Rattle.std.specs.Prelude.{Err, Ok}
use Rattle.salt_script.proofs.Lines.{IsLineSettled, no_pair_settles, none_left, pairs_settle, some_left}
use Rattle.salt_script.proofs.line.pairs_line.Goals as goal
use Rattle.salt_script.specs.Answers.{GivesOrLimit}
use Rattle.salt_script.specs.Forms.{pairs as begins_pairs}
use Rattle.salt_script.specs.Literals.{pairs_at, pairs_passed}
use Rattle.salt_ast.specs.Symbols.{symbols_in}

pub returns-then-is_empty : goal.returns-then-is_empty
returns-then-is_empty c = λ ts e.
    no_pair_settles ts c.args.armed (e ∙ ap (begins_pairs c.args.armed) (none_left c.args.tokens.now (sym c.is_empty.ensures ∙ c.if-is_empty.true)))

pub returns-in-Ok-Ok : goal.returns-in-Ok-Ok
returns-in-Ok-Ok c = λ ts e. subst (λ x. IsLineSettled ts (Ok x)) (sym c.line_of.ensures)
    (pairs_settle ts (symbols_in c.args.tokens.now) c.args.armed (Ok (Ok c.in-Ok-Ok.pairs)) e
    (some_left c.args.tokens.now (sym c.is_empty.ensures ∙ c.if-is_empty.false))
    (subst (λ r. GivesOrLimit (pairs_passed c.args.armed) (Ok r) (pairs_at (symbols_in c.args.tokens.now))) c.in-Ok-Ok.field-0-is c.in-Ok-Ok.ensures))

pub returns-in-Ok-Err : goal.returns-in-Ok-Err
returns-in-Ok-Err c = λ ts e. pairs_settle ts (symbols_in c.args.tokens.now) c.args.armed (Ok (Err c.in-Ok-Err.limit)) e
    (some_left c.args.tokens.now (sym c.is_empty.ensures ∙ c.if-is_empty.false))
    (subst (λ r. GivesOrLimit (pairs_passed c.args.armed) (Ok r) (pairs_at (symbols_in c.args.tokens.now))) c.in-Ok-Err.field-0-is c.in-Ok-Err.ensures)

pub returns-in-Err : goal.returns-in-Err
returns-in-Err c = λ ts e. pairs_settle ts (symbols_in c.args.tokens.now) c.args.armed (Err c.in-Err.e) e
    (some_left c.args.tokens.now (sym c.is_empty.ensures ∙ c.if-is_empty.false)) c.in-Err.ensures
