use Rattle.salt_ast.specs.declared.trees.TableDef.{TableDef}
use Rattle.salt_books.proofs.Numbering.{numbers_all, numbers_more}
use Rattle.salt_books.proofs.tables.base_tables.Goals as goal
use Rattle.salt_model.specs.Locks.{names_table, numbers_from}
use Rattle.std.proofs.Common.{Bool, Option, ap, append-nil, arith, false, sym, ◌∙◌}
use Rattle.std.specs.List.{list_any}
use Rattle.std.specs.Option.{option_map_or}

pub loop-number-preserved : goal.loop-number-preserved
loop-number-preserved c =
    let test : TableDef → Bool = λ d. list_any (names_table d.name) c.args.catalogue.now in
    let tables = c.args.schema.now in
    numbers_more test tables c.loop-number.number c.is_base_table-is_base.result c.loop-number.numbers.items c.add_if.new.numbers.items (numbers_from 0 test tables)
    c.loop-number.invariant
    (c.is_base_table-is_base.ensures ∙ ap (λ (o : Option TableDef). option_map_or test o false) c.table.ensures.value)
    c.in_ok-add_if.ensures

pub returns : goal.returns
returns c =
    let test : TableDef → Bool = λ d. list_any (names_table d.name) c.args.catalogue.now in
    let tables = c.args.schema.now in
    sym (append-nil c.loop-number.numbers.items)
    ∙ numbers_all test tables c.loop-number.number c.loop-number.numbers.items (numbers_from 0 test tables) c.loop-number.invariant
    (omega (arith, c.loop-number-test.false, c.count-count.ensures.count))
