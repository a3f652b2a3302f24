use Rattle.salt_ast.specs.ProgramLimits.{program_limit}
use Rattle.salt_ast.specs.ProgramTexts.{program_text}
use Rattle.salt_found.proofs.Spelled.{deep, no_limit, no_other, no_syntax, other_is, same_is}
use Rattle.salt_found.proofs.reads.program_in.Goals as goal
use Rattle.salt_parse.specs.Settling.{DeepProgram, ShallowProgram}
use Rattle.std.proofs.Common.{Err, ap, sym, ◌∙◌}

pub returns-then-branch : goal.returns-then-branch
returns-then-branch c =
    let f = c.in-Ok.ensures.found in (
      record {
        text = c.args.text.now;
        spells = deep program_limit ShallowProgram DeepProgram program_text c.row_program.ensures.deepens c.one_program.ensures c.canonical_program.ensures c.args.text.now c.in-Ok.def f.parentheses;
        within = f.tree;
      },
      same_is c.args.text.now (program_text c.in-Ok.def) (sym c.in_ok-is_program_text-in-Ok.ensures ∙ c.if-branch.true),
    )

pub returns-else-branch : goal.returns-else-branch
returns-else-branch c d h =
    no_other program_limit ShallowProgram DeepProgram program_text c.row_program.ensures.deepens c.one_program.ensures c.canonical_program.ensures c.args.text.now d h.0.text h.0.spells h.0.within h.1
    c.in-Ok.def c.in-Ok.ensures.found.parentheses (other_is c.args.text.now (program_text c.in-Ok.def) (sym c.in_ok-is_program_text-in-Ok.ensures ∙ c.if-branch.false))

pub returns-in-Err-Syntax : goal.returns-in-Err-Syntax
returns-in-Err-Syntax c d h =
    no_syntax program_limit ShallowProgram DeepProgram program_text c.row_program.ensures.deepens c.one_program.ensures c.canonical_program.ensures c.args.text.now d h.0.text h.0.spells h.0.within h.1
    (c.in-Err-Syntax.ensures.syntax (ap Err c.in-Err-Syntax.field-0-is))

pub returns-in-Err-Limit : goal.returns-in-Err-Limit
returns-in-Err-Limit c d h =
    let told = c.in-Err-Limit.ensures.limit c.in-Err-Limit._limit (ap Err c.in-Err-Limit.field-0-is) in
    no_limit program_limit ShallowProgram DeepProgram program_text c.row_program.ensures.deepens c.one_program.ensures c.canonical_program.ensures c.args.text.now d h.0.text h.0.spells h.0.within h.1
    told.0 c.in-Err-Limit._limit told.1 told.2
