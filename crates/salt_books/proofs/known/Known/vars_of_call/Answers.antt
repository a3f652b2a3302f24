use Rattle.salt_ast.specs.declared.programs.ProgramDef.{ProgramDef}
use Rattle.salt_model.specs.Kept.{vars_at_call}
use Rattle.salt_model.specs.declared.vars.Binding.{Binding}
use Rattle.salt_books.proofs.known.Known.vars_of_call.Goals as goal
use Rattle.std.proofs.Common.{List, None, Option, Some, [], ap, sym, ◌∙◌}
use Rattle.std.proofs.lemmas.Result.{IfOk-weaker}
use Rattle.std.specs.Option.{option_copied}

pub returns-in-Some : goal.returns-in-Some
returns-in-Some c = IfOk-weaker c.vars_at_call.result _ _ (λ vars e k session same.
    e ∙ ap (λ (o : Option ProgramDef). elim o as (λ _. List Binding) [ None ↦ [] | Some p ↦ vars_at_call p c.args.args.now ])
    (sym (ap option_copied c.in-Some.is) ∙ c.program.ensures k same)) c.vars_at_call.ensures
