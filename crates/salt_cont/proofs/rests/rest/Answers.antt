use Rattle.salt_ast.specs.Paths.{rest_of, rests}
use Rattle.salt_ast.specs.declared.programs.PartDef.{PartDef}
use Rattle.salt_cont.proofs.Numbers.{all_at_number, number_within}
use Rattle.salt_cont.proofs.Told.{rest_by_table, rest_nowhere, rest_there}
use Rattle.salt_cont.proofs.rests.rest.Goals as goal
use Rattle.salt_cont.specs.Moves.{standing}
use Rattle.salt_cont.specs.Rests.{AreFew}
use Rattle.salt_values.specs.declared.limits.TheConstants.{STATEMENTS_MOST}
use Rattle.std.proofs.Common.{Some, ap, drop, length, refl, subst, suc, sym, ◌∙◌, ◌≤◌}
use Rattle.std.specs.Option.{option_copied}

pub rests_behind-rests-requires-clause-within : goal.rests_behind-rests-requires-clause-within
rests_behind-rests-requires-clause-within c =
    number_within c.parts_named-parts.result.now c.args.cont.now.next c.in-Some.part.now (sym c.at_number.ensures ∙ ap option_copied c.in-Some.is)

pub part_rest-requires-clause-block : goal.part_rest-requires-clause-block
part_rest-requires-clause-block c =
    let few : AreFew c.parts_named-parts.result.now = subst AreFew (sym c.parts_named-parts.ensures) c.requires in
    all_at_number (λ (p : PartDef). length p.block ≤ STATEMENTS_MOST) c.parts_named-parts.result.now c.args.cont.now.next c.in-Some.part.now few.blocks
    (sym c.at_number.ensures ∙ ap option_copied c.in-Some.is)

pub returns-in-Some : goal.returns-in-Some
returns-in-Some c =
    let parts = c.parts_named-parts.result.now in
    let cont = c.args.cont.now in
    rest_by_table (length parts) cont.next cont.next c.in-Some.part.now cont.tries cont.tries c.rests_behind-rests.result
    (rests (length parts) (suc cont.next) (drop cont.next parts)) c.part_rest.result refl refl c.rests_behind-rests.ensures.told c.part_rest.ensures
    ∙ sym (rest_there (length parts) cont.next parts (standing cont) c.in-Some.part.now refl (sym c.at_number.ensures ∙ ap option_copied c.in-Some.is))
    ∙ ap (λ ps. rest_of ps (Some (standing cont))) c.parts_named-parts.ensures

pub returns-in-None : goal.returns-in-None
returns-in-None c =
    let parts = c.parts_named-parts.result.now in
    let cont = c.args.cont.now in
    sym (rest_nowhere (length parts) cont.next parts (standing cont) refl (sym c.at_number.ensures ∙ ap option_copied c.in-None.is))
    ∙ ap (λ ps. rest_of ps (Some (standing cont))) c.parts_named-parts.ensures
