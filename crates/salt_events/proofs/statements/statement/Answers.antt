use Rattle.std.proofs.Common.{Err, ap, sym, ◌++◌, ◌∙◌, ◌≡◌}
use Rattle.salt_ast.specs.Texts.{statement_text}
use Rattle.salt_events.proofs.PartLaws.{same_back}
use Rattle.salt_events.proofs.StatementLaws.{Below, differs, found, not_same, passed, unspelled}
use Rattle.salt_ast.specs.TokenSpelling.{same_bytes}
use Rattle.salt_events.proofs.statements.statement.Goals as goal

pub returns-then-not-same_bytes : goal.returns-then-not-same_bytes
returns-then-not-same_bytes c =
    let laws : Below = record {
      read = λ text st e. (c.statements_are_read.ensures text st).0 e;
      back = λ text st e. (c.statements_are_read.ensures text st).1 e;
      canonical = c.canonical_statement.ensures;
      one = c.one_statement.ensures;
      deepens = c.row_statement.ensures.deepens;
    } in
    let printed : c.as_slice.result.now ≡ statement_text c.in-Ok.statement =
    c.as_slice.ensures.value ∙ c.in_ok-print_statement-in-Ok.ensures.ok ∙ ap (λ l. l ++ statement_text c.in-Ok.statement) c.new-text.ensures.items in
    differs laws c.args.bytes.now c.in-Ok.statement c.in-Ok.ensures.found
    (not_same (statement_text c.in-Ok.statement) c.args.bytes.now (ap (λ l. same_bytes l c.args.bytes.now) (sym printed) ∙ sym c.same_bytes.ensures ∙ c.if-not-same_bytes.true))

pub returns-else-not-same_bytes : goal.returns-else-not-same_bytes
returns-else-not-same_bytes c =
    let laws : Below = record {
      read = λ text st e. (c.statements_are_read.ensures text st).0 e;
      back = λ text st e. (c.statements_are_read.ensures text st).1 e;
      canonical = c.canonical_statement.ensures;
      one = c.one_statement.ensures;
      deepens = c.row_statement.ensures.deepens;
    } in
    let printed : c.as_slice.result.now ≡ statement_text c.in-Ok.statement =
    c.as_slice.ensures.value ∙ c.in_ok-print_statement-in-Ok.ensures.ok ∙ ap (λ l. l ++ statement_text c.in-Ok.statement) c.new-text.ensures.items in
    found laws c.args.bytes.now c.in-Ok.statement c.in-Ok.ensures.found
    (same_back (statement_text c.in-Ok.statement) c.args.bytes.now (ap (λ l. same_bytes l c.args.bytes.now) (sym printed) ∙ sym c.same_bytes.ensures ∙ c.if-not-same_bytes.false))

pub returns-in-Err-Syntax : goal.returns-in-Err-Syntax
returns-in-Err-Syntax c =
    let laws : Below = record {
      read = λ text st e. (c.statements_are_read.ensures text st).0 e;
      back = λ text st e. (c.statements_are_read.ensures text st).1 e;
      canonical = c.canonical_statement.ensures;
      one = c.one_statement.ensures;
      deepens = c.row_statement.ensures.deepens;
    } in
    unspelled laws c.args.bytes.now (c.read_statement.ensures.syntax (c.in-Err-Syntax.is ∙ ap (λ e. Err e) c.in-Err-Syntax.field-0-is))

pub returns-in-Err-Limit : goal.returns-in-Err-Limit
returns-in-Err-Limit c =
    let laws : Below = record {
      read = λ text st e. (c.statements_are_read.ensures text st).0 e;
      back = λ text st e. (c.statements_are_read.ensures text st).1 e;
      canonical = c.canonical_statement.ensures;
      one = c.one_statement.ensures;
      deepens = c.row_statement.ensures.deepens;
    } in
    let over = c.read_statement.ensures.limit c.in-Err-Limit._limit (c.in-Err-Limit.is ∙ ap (λ e. Err e) c.in-Err-Limit.field-0-is) in
    passed laws c.args.bytes.now c.in-Err-Limit._limit over.0 over.1 over.2
