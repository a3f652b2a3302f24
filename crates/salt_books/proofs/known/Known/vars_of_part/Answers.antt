use Rattle.salt_ast.specs.declared.programs.ProgramDef.{ProgramDef}
use Rattle.salt_model.specs.Kept.{kept_program, vars_at_cont}
use Rattle.salt_model.specs.declared.vars.Binding.{Binding}
use Rattle.salt_books.proofs.known.Known.vars_of_part.Goals as goal
use Rattle.salt_values.specs.declared.cont.Cont.{Cont}
use Rattle.std.proofs.Common.{List, None, Option, Some, [], ap, sym, ◌∙◌}
use Rattle.std.proofs.lemmas.Result.{IfOk-weaker}
use Rattle.std.specs.Option.{option_copied}

pub returns-in-Some-program : goal.returns-in-Some-program
returns-in-Some-program c = IfOk-weaker c.vars_at_cont.result _ _ (λ vars e k part same.
    let cont = c.in-Some.cont.now in
    e ∙ ap (λ (o : Option ProgramDef). elim o as (λ _. List Binding) [ None ↦ [] | Some p ↦ vars_at_cont p cont ])
    (sym (ap option_copied c.in-Some-program.is) ∙ c.program.ensures k same)
    ∙ ap (λ (o : Option Cont). elim o as (λ _. List Binding)
    [ None ↦ [] | Some x ↦ elim (kept_program x.program k) as (λ _. List Binding) [ None ↦ [] | Some p ↦ vars_at_cont p x ] ])
    (sym (ap option_copied c.in-Some.is) ∙ c.cont.ensures k same)) c.vars_at_cont.ensures
