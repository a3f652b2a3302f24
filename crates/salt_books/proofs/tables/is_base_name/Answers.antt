use Rattle.salt_ast.specs.declared.programs.ProgramDef.{ProgramDef}
use Rattle.salt_books.proofs.Numbering.{any_behind, any_here, none_behind}
use Rattle.salt_books.proofs.tables.is_base_name.Goals as goal
use Rattle.salt_model.specs.Locks.{names_table}
use Rattle.std.proofs.Common.{Bool, Option, ap, arith, false, sym, ◌∙◌}
use Rattle.std.specs.Option.{option_map_or}

pub returns-then-is_named_by : goal.returns-then-is_named_by
returns-then-is_named_by c =
    let test : ProgramDef → Bool = names_table c.args.name.now in
    sym (any_here test c.args.catalogue.now c.loop-number.number c.loop-number.invariant
    (ap (λ (o : Option ProgramDef). option_map_or test o false) (sym c.numbered.ensures.value) ∙ (sym c.is_named_by.ensures ∙ c.if-is_named_by.true)))

pub loop-number-preserved : goal.loop-number-preserved
loop-number-preserved c =
    let test : ProgramDef → Bool = names_table c.args.name.now in
    any_behind test c.args.catalogue.now c.loop-number.number c.loop-number.invariant
    (ap (λ (o : Option ProgramDef). option_map_or test o false) (sym c.numbered.ensures.value) ∙ (sym c.is_named_by.ensures ∙ c.if-is_named_by.false))

pub returns : goal.returns
returns c =
    sym (none_behind (names_table c.args.name.now) c.args.catalogue.now c.loop-number.number c.loop-number.invariant
    (omega (arith, c.loop-number-test.false, c.count-count.ensures.count)))
