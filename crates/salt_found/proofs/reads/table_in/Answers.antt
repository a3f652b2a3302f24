use Rattle.salt_ast.specs.Limits.{table_limit}
use Rattle.salt_ast.specs.Texts.{table_text}
use Rattle.salt_found.proofs.Spelled.{deep, no_limit, no_other, no_syntax, other_is, same_is}
use Rattle.salt_found.proofs.reads.table_in.Goals as goal
use Rattle.salt_parse.specs.Settling.{DeepTable, ShallowTable}
use Rattle.std.proofs.Common.{Err, ap, sym, ◌∙◌}

pub returns-then-branch : goal.returns-then-branch
returns-then-branch c =
    let f = c.in-Ok.ensures.found in (
      record {
        text = c.args.text.now;
        spells = deep table_limit ShallowTable DeepTable table_text c.row_table.ensures.deepens c.one_table.ensures c.canonical_table.ensures c.args.text.now c.in-Ok.def f.parentheses;
        within = f.tree;
      },
      same_is c.args.text.now (table_text c.in-Ok.def) (sym c.in_ok-is_table_text-in-Ok.ensures ∙ c.if-branch.true),
    )

pub returns-else-branch : goal.returns-else-branch
returns-else-branch c d h =
    no_other table_limit ShallowTable DeepTable table_text c.row_table.ensures.deepens c.one_table.ensures c.canonical_table.ensures c.args.text.now d h.0.text h.0.spells h.0.within h.1
    c.in-Ok.def c.in-Ok.ensures.found.parentheses (other_is c.args.text.now (table_text c.in-Ok.def) (sym c.in_ok-is_table_text-in-Ok.ensures ∙ c.if-branch.false))

pub returns-in-Err-Syntax : goal.returns-in-Err-Syntax
returns-in-Err-Syntax c d h =
    no_syntax table_limit ShallowTable DeepTable table_text c.row_table.ensures.deepens c.one_table.ensures c.canonical_table.ensures c.args.text.now d h.0.text h.0.spells h.0.within h.1
    (c.in-Err-Syntax.ensures.syntax (ap Err c.in-Err-Syntax.field-0-is))

pub returns-in-Err-Limit : goal.returns-in-Err-Limit
returns-in-Err-Limit c d h =
    let told = c.in-Err-Limit.ensures.limit c.in-Err-Limit._limit (ap Err c.in-Err-Limit.field-0-is) in
    no_limit table_limit ShallowTable DeepTable table_text c.row_table.ensures.deepens c.one_table.ensures c.canonical_table.ensures c.args.text.now d h.0.text h.0.spells h.0.within h.1
    told.0 c.in-Err-Limit._limit told.1 told.2
