use Rattle.salt_ast.specs.ProgramJudgement.{program_named}
use Rattle.salt_ast.specs.declared.programs.ProgramDef.{ProgramDef}
use Rattle.salt_cont.specs.Moves.{move_on}
use Rattle.salt_books.proofs.Found.{cont_in-find}
use Rattle.salt_books.proofs.Moving.{goes_on, stays}
use Rattle.salt_books.proofs.moves.move_of_part.Goals as goal
use Rattle.salt_model.specs.Kept.{cont_in, cont_of, kept_program, values_kept}
use Rattle.salt_stands.specs.OpenConts.{make_move}
use Rattle.salt_values.specs.declared.cont.Cont.{Cont}
use Rattle.std.proofs.Common.{List, None, Some, ap, sym, ◌∙◌, ◌≡◌}
use Rattle.std.proofs.lemmas.Result.{IfOk-weaker}
use Rattle.std.specs.Option.{option_copied}
use Rattle.std.specs.Prelude.{Option, option_and_then}

pub returns-in_default : goal.returns-in_default
returns-in_default c = λ k number part cat same next rise.
    let none : cont_of c.args.base k ≡ None =
    ap (λ (cs : List Cont). cont_in c.args.base cs) (sym same) ∙ sym (cont_in-find c.args.base c.args.conts.now) ∙ sym c.cont_among.ensures ∙ ap option_copied c.in_default.is in
    ap (λ (l : List Cont). Some l)
    (stays c.args.failed k number c.args.base part c.args.vars.now (ap (λ (o : Option Cont). option_and_then (λ (c : Cont). kept_program c.program k) o) none))

pub returns-in_default-find : goal.returns-in_default-find
returns-in_default-find c = λ k number part cat same next rise.
    let cont = c.in-Some.cont.now in
    let there : cont_of c.args.base k ≡ Some cont =
    ap (λ (cs : List Cont). cont_in c.args.base cs) (sym same) ∙ sym (cont_in-find c.args.base c.args.conts.now) ∙ sym c.cont_among.ensures ∙ ap option_copied c.in-Some.is in
    let undefined : kept_program cont.program k ≡ None =
    ap (λ (ps : List ProgramDef). program_named ps cont.program) (sym cat) ∙ sym c.find.ensures ∙ ap option_copied c.in_default-find.is in
    ap (λ (l : List Cont). Some l)
    (stays c.args.failed k number c.args.base part c.args.vars.now (ap (λ (o : Option Cont). option_and_then (λ (c : Cont). kept_program c.program k) o) there ∙ undefined))

pub returns : goal.returns
returns c = IfOk-weaker c.advance.result _ _ (λ made e k number part cat same next rise.
    let cont = c.in-Some.cont.now in
    let def = c.in-Some-find.def.now in
    let there : cont_of c.args.base k ≡ Some cont =
    ap (λ (cs : List Cont). cont_in c.args.base cs) (sym same) ∙ sym (cont_in-find c.args.base c.args.conts.now) ∙ sym c.cont_among.ensures ∙ ap option_copied c.in-Some.is in
    let defined : kept_program cont.program k ≡ Some def =
    ap (λ (ps : List ProgramDef). program_named ps cont.program) (sym cat) ∙ sym c.find.ensures ∙ ap option_copied c.in-Some-find.is in
    let values = c.in_ok-values.ensures ∙ ap (values_kept def) c.as_slice.ensures in
    ap (make_move k.conts) (e ∙ (λ i. move_on (cat i) cont (values i) c.args.failed))
    ∙ goes_on c.args.failed k number c.args.base part c.args.vars.now cont def (record { kept = there; defined = defined }) (next cont there) rise) c.advance.ensures
