use Rattle.salt_ast.specs.ProgramJudgement.{program_named}
use Rattle.salt_audit.proofs.Moving.{at_part, later_goes, later_stays}
use Rattle.salt_audit.proofs.conts.later.Goals as goal
use Rattle.salt_audit.specs.Standing.{cont_named}
use Rattle.salt_cont.specs.Move.{Move}
use Rattle.salt_cont.specs.Continued.{after_move}
use Rattle.salt_cont.specs.Moves.{move_on}
use Rattle.salt_values.specs.declared.cont.Cont.{Cont}
use Rattle.std.proofs.Common.{None, Some, ap, option_and_then, sym, ◌∙◌, ◌≡◌}
use Rattle.std.specs.Option.{option_copied}

pub advance-requires : goal.advance-requires
advance-requires c = c.named_leads_on.ensures c.args.catalogue.now c.in_ok-from.from.program c.requires

pub returns-in_default : goal.returns-in_default
returns-in_default c =
    let none : cont_named c.args.base c.args.conts.now ≡ None = ap (cont_named c.args.base) (sym c.as_slice.ensures) ∙ sym c.cont_named.ensures ∙ ap option_copied c.in_default.is in
    later_stays c.args.failed c.args.catalogue.now c.args.base c.args.part c.args.conts.now
    (ap (option_and_then (λ (d : Cont). program_named c.args.catalogue.now d.program)) none)

pub returns-in_default-find : goal.returns-in_default-find
returns-in_default-find c =
    let cont = c.in-Some.cont.now in
    let here : cont_named c.args.base c.args.conts.now ≡ Some cont = ap (cont_named c.args.base) (sym c.as_slice.ensures) ∙ sym c.cont_named.ensures ∙ ap option_copied c.in-Some.is in
    let undefined : program_named c.args.catalogue.now cont.program ≡ None = sym c.find.ensures ∙ ap option_copied c.in_default-find.is in
    later_stays c.args.failed c.args.catalogue.now c.args.base c.args.part c.args.conts.now
    (ap (option_and_then (λ (d : Cont). program_named c.args.catalogue.now d.program)) here ∙ undefined)

pub returns : goal.returns
returns c =
    let cont = c.in-Some.cont.now in
    let def = c.in-Some-find._def.now in
    let cs = c.args.conts.now in
    let here : cont_named c.args.base cs ≡ Some cont = ap (cont_named c.args.base) (sym c.as_slice.ensures) ∙ sym c.cont_named.ensures ∙ ap option_copied c.in-Some.is in
    let defined : program_named c.args.catalogue.now cont.program ≡ Some def = sym c.find.ensures ∙ ap option_copied c.in-Some-find.is in
    let placed : c.in_ok-from.from ≡ at_part cont c.args.part = c.in_ok-from.ensures in
    let made : c.in_ok-made.made ≡ move_on c.args.catalogue.now (at_part cont c.args.part) cont.vars c.args.failed =
    c.in_ok-made.ensures ∙ (λ i. move_on c.args.catalogue.now (placed i) (placed i).vars c.args.failed) in
    c.put.ensures ∙ ap (λ (m : Move). after_move c.args.base m cs) made
    ∙ later_goes c.args.failed c.args.catalogue.now c.args.base c.args.part cs cont def here defined
