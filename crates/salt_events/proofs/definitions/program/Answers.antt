use Rattle.std.proofs.Common.{Err, ap, false, sym, true, ◌++◌, ◌∙◌, ◌≡◌}
use Rattle.salt_ast.specs.ProgramTexts.{program_text}
use Rattle.salt_events.proofs.TreeLaws.{OfPrograms, program_passed, program_told, program_unspelled}
use Rattle.salt_ast.specs.TokenSpelling.{same_bytes}
use Rattle.salt_events.proofs.definitions.program.Goals as goal

pub returns-then-not-same_bytes : goal.returns-then-not-same_bytes
returns-then-not-same_bytes c =
    let laws : OfPrograms = record { canonical = c.canonical_program.ensures; one = c.one_program.ensures; deepens = c.row_program.ensures.deepens } in
    let printed : c.as_slice.result.now ≡ program_text c.in-Ok.program =
    c.as_slice.ensures.value ∙ c.in_ok-print_program-in-Ok.ensures.ok ∙ ap (λ l. l ++ program_text c.in-Ok.program) c.new-text.ensures.items in
    program_told laws c.args.bytes.now c.in-Ok.program c.in-Ok.ensures.found false (ap (λ l. same_bytes l c.args.bytes.now) (sym printed) ∙ sym c.same_bytes.ensures ∙ c.if-not-same_bytes.true)

pub returns-else-not-same_bytes : goal.returns-else-not-same_bytes
returns-else-not-same_bytes c =
    let laws : OfPrograms = record { canonical = c.canonical_program.ensures; one = c.one_program.ensures; deepens = c.row_program.ensures.deepens } in
    let printed : c.as_slice.result.now ≡ program_text c.in-Ok.program =
    c.as_slice.ensures.value ∙ c.in_ok-print_program-in-Ok.ensures.ok ∙ ap (λ l. l ++ program_text c.in-Ok.program) c.new-text.ensures.items in
    program_told laws c.args.bytes.now c.in-Ok.program c.in-Ok.ensures.found true (ap (λ l. same_bytes l c.args.bytes.now) (sym printed) ∙ sym c.same_bytes.ensures ∙ c.if-not-same_bytes.false)

pub returns-in-Err-Syntax : goal.returns-in-Err-Syntax
returns-in-Err-Syntax c =
    let laws : OfPrograms = record { canonical = c.canonical_program.ensures; one = c.one_program.ensures; deepens = c.row_program.ensures.deepens } in
    program_unspelled laws c.args.bytes.now (c.read_program.ensures.syntax (c.in-Err-Syntax.is ∙ ap (λ e. Err e) c.in-Err-Syntax.field-0-is))

pub returns-in-Err-Limit : goal.returns-in-Err-Limit
returns-in-Err-Limit c =
    let laws : OfPrograms = record { canonical = c.canonical_program.ensures; one = c.one_program.ensures; deepens = c.row_program.ensures.deepens } in
    let over = c.read_program.ensures.limit c.in-Err-Limit._limit (c.in-Err-Limit.is ∙ ap (λ e. Err e) c.in-Err-Limit.field-0-is) in
    program_passed laws c.args.bytes.now c.in-Err-Limit._limit over.0 over.1 over.2
