use Rattle.std.proofs.Common.{Err, ap}
use Rattle.std.proofs.lemmas.Result.{err_from_is_err_and}
use Rattle.salt_ast.specs.Limits.{statement_limit}
use Rattle.salt_parse.specs.Settling.{DeepStatement, ShallowStatement}
use Rattle.salt_parse.proofs.Whole.{is_found, is_limit, scan_limit, scan_none, spells_none}
use Rattle.salt_parse.proofs.read.read_statement.Goals as goal
use Rattle.salt_ast.specs.Symbols.{symbols_in}

pub returns-in_err-tokens-clause-limit : goal.returns-in_err-tokens-clause-limit
returns-in_err-tokens-clause-limit c =
    let p = err_from_is_err_and c.from_residual.result c.from_residual.ensures.1 in
    rw (p.1, p.2) (λ l is. scan_limit _ c.in_err-tokens.field-0.0 l is)

pub returns-in_err-tokens-clause-syntax : goal.returns-in_err-tokens-clause-syntax
returns-in_err-tokens-clause-syntax c =
    let p = err_from_is_err_and c.from_residual.result c.from_residual.ensures.1 in
    rw (p.1, p.2) (λ is x s. scan_none c.args.bytes.now DeepStatement c.in_err-tokens.field-0.0 (λ k. c.in_err-tokens.ensures.syntax (ap Err k)) is x s)

pub returns-clause-found : goal.returns-clause-found
returns-clause-found c = is_found c.one_row.ensures.pieces c.args.bytes.now statement_limit ShallowStatement DeepStatement (symbols_in c.in_ok-tokens.tokens.items) c.in_ok-tokens.ensures.found c.statement_in.result (rw c.as_slice.ensures.value at c.statement_in.ensures)

pub returns-clause-limit : goal.returns-clause-limit
returns-clause-limit c = is_limit c.one_row.ensures.pieces c.args.bytes.now statement_limit ShallowStatement DeepStatement (symbols_in c.in_ok-tokens.tokens.items) c.in_ok-tokens.ensures.found c.statement_in.result (rw c.as_slice.ensures.value at c.statement_in.ensures)

pub returns-clause-syntax : goal.returns-clause-syntax
returns-clause-syntax c = spells_none c.one_row.ensures.pieces c.args.bytes.now statement_limit ShallowStatement DeepStatement (symbols_in c.in_ok-tokens.tokens.items) c.in_ok-tokens.ensures.found c.statement_in.result (rw c.as_slice.ensures.value at c.statement_in.ensures)

pub statement_in-requires : goal.statement_in-requires
statement_in-requires c = rw c.as_slice.ensures.value (c.printable_symbols.ensures c.args.bytes.now _ c.in_ok-tokens.ensures.found)
