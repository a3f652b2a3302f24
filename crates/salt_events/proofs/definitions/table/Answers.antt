use Rattle.std.proofs.Common.{Err, ap, false, sym, true, ◌++◌, ◌∙◌, ◌≡◌}
use Rattle.salt_ast.specs.Texts.{table_text}
use Rattle.salt_events.proofs.TreeLaws.{OfTables, table_passed, table_told, table_unspelled}
use Rattle.salt_ast.specs.TokenSpelling.{same_bytes}
use Rattle.salt_events.proofs.definitions.table.Goals as goal

pub returns-then-not-same_bytes : goal.returns-then-not-same_bytes
returns-then-not-same_bytes c =
    let laws : OfTables = record { canonical = c.canonical_table.ensures; one = c.one_table.ensures; deepens = c.row_table.ensures.deepens } in
    let printed : c.as_slice.result.now ≡ table_text c.in-Ok.table =
    c.as_slice.ensures.value ∙ c.in_ok-print_table-in-Ok.ensures.ok ∙ ap (λ l. l ++ table_text c.in-Ok.table) c.new-text.ensures.items in
    table_told laws c.args.bytes.now c.in-Ok.table c.in-Ok.ensures.found false (ap (λ l. same_bytes l c.args.bytes.now) (sym printed) ∙ sym c.same_bytes.ensures ∙ c.if-not-same_bytes.true)

pub returns-else-not-same_bytes : goal.returns-else-not-same_bytes
returns-else-not-same_bytes c =
    let laws : OfTables = record { canonical = c.canonical_table.ensures; one = c.one_table.ensures; deepens = c.row_table.ensures.deepens } in
    let printed : c.as_slice.result.now ≡ table_text c.in-Ok.table =
    c.as_slice.ensures.value ∙ c.in_ok-print_table-in-Ok.ensures.ok ∙ ap (λ l. l ++ table_text c.in-Ok.table) c.new-text.ensures.items in
    table_told laws c.args.bytes.now c.in-Ok.table c.in-Ok.ensures.found true (ap (λ l. same_bytes l c.args.bytes.now) (sym printed) ∙ sym c.same_bytes.ensures ∙ c.if-not-same_bytes.false)

pub returns-in-Err-Syntax : goal.returns-in-Err-Syntax
returns-in-Err-Syntax c =
    let laws : OfTables = record { canonical = c.canonical_table.ensures; one = c.one_table.ensures; deepens = c.row_table.ensures.deepens } in
    table_unspelled laws c.args.bytes.now (c.read_table.ensures.syntax (c.in-Err-Syntax.is ∙ ap (λ e. Err e) c.in-Err-Syntax.field-0-is))

pub returns-in-Err-Limit : goal.returns-in-Err-Limit
returns-in-Err-Limit c =
    let laws : OfTables = record { canonical = c.canonical_table.ensures; one = c.one_table.ensures; deepens = c.row_table.ensures.deepens } in
    let over = c.read_table.ensures.limit c.in-Err-Limit._limit (c.in-Err-Limit.is ∙ ap (λ e. Err e) c.in-Err-Limit.field-0-is) in
    table_passed laws c.args.bytes.now c.in-Err-Limit._limit over.0 over.1 over.2
