use Rattle.salt_ast.specs.ProgramJudgement.{program_named}
use Rattle.salt_ast.specs.declared.programs.ProgramDef.{ProgramDef}
use Rattle.salt_audit.specs.Standing.{cont_named}
use Rattle.salt_audit.specs.Telling.{program_by}
use Rattle.salt_model.specs.Kept.{change_cont}
use Rattle.salt_values.specs.declared.cont.Cont.{Cont}
use Rattle.salt_values.specs.declared.value.Value.{Value}
use Rattle.salt_verdict.proofs.goings.put_for.Goals as goal
use Rattle.salt_verdict.specs.Goings.{put_for, with_values}
use Rattle.std.proofs.Common.{List, None, Option, Some, ap, option_and_then, sym, ◌∙◌, ◌≡◌}
use Rattle.std.specs.Option.{option_copied}

pub returns-in_default : goal.returns-in_default
returns-in_default c =
    let cs = c.args.conts.now in
    let none : cont_named c.args.base cs ≡ None = ap (cont_named c.args.base) (sym c.as_slice.ensures) ∙ sym c.cont_named.ensures ∙ ap option_copied c.in_default.is in
    sym (ap (λ (o : Option Cont). put_for c.args.base c.args.vars.now (option_and_then (λ (d : Cont). program_named c.args.catalogue.now d.program) o) cs) none)

pub returns-in_default-find : goal.returns-in_default-find
returns-in_default-find c =
    let cs = c.args.conts.now in
    let cont = c.in-Some.cont.now in
    let here : cont_named c.args.base cs ≡ Some cont = ap (cont_named c.args.base) (sym c.as_slice.ensures) ∙ sym c.cont_named.ensures ∙ ap option_copied c.in-Some.is in
    let undefined : program_named c.args.catalogue.now cont.program ≡ None = sym c.find.ensures ∙ ap option_copied c.in_default-find.is in
    let none : program_by c.args.catalogue.now cs c.args.base ≡ None = ap (option_and_then (λ (d : Cont). program_named c.args.catalogue.now d.program)) here ∙ undefined in
    sym (ap (λ (o : Option ProgramDef). put_for c.args.base c.args.vars.now o cs) none)

pub returns : goal.returns
returns c =
    let cs = c.args.conts.now in
    let cont = c.in-Some.cont.now in
    let def = c.in-Some-find.def.now in
    let here : cont_named c.args.base cs ≡ Some cont = ap (cont_named c.args.base) (sym c.as_slice.ensures) ∙ sym c.cont_named.ensures ∙ ap option_copied c.in-Some.is in
    let defined : program_named c.args.catalogue.now cont.program ≡ Some def = sym c.find.ensures ∙ ap option_copied c.in-Some-find.is in
    let some : program_by c.args.catalogue.now cs c.args.base ≡ Some def = ap (option_and_then (λ (d : Cont). program_named c.args.catalogue.now d.program)) here ∙ defined in
    c.in_ok-change_values.ensures
    ∙ ap (λ (values : List Value). change_cont c.args.base (with_values values) cs) c.in_ok-values.ensures
    ∙ sym (ap (λ (o : Option ProgramDef). put_for c.args.base c.args.vars.now o cs) some)
