use Rattle.salt_ast.specs.ProgramJudgement.{program_named}
use Rattle.salt_ast.specs.declared.programs.ProgramDef.{ProgramDef}
use Rattle.salt_cont.specs.Moves.{move_on}
use Rattle.salt_books.proofs.Moving.{at_first, begins, found-own}
use Rattle.salt_books.proofs.moves.move_of_first.Goals as goal
use Rattle.salt_books.specs.Moves.{begun}
use Rattle.salt_model.specs.Kept.{begun_cont, kept_program, parts_of}
use Rattle.salt_stands.specs.OpenConts.{make_move}
use Rattle.salt_values.specs.declared.cont.Cont.{Cont}
use Rattle.std.proofs.Common.{List, None, Option, Some, ap, sym, ◌∙◌, ◌≡◌}
use Rattle.std.specs.Option.{option_copied}
use Rattle.std.specs.Prelude.{false}
use Rattle.salt_ast.specs.Paths.{next_on_commit}

pub returns : goal.returns
returns c = λ k session cat number can.
    let b = c.args.base in
    let n = c.args.number in
    let def = c.in-Some.def.now in
    let args = c.args.args.now in
    let vars = c.args.vars.now in
    let defined : kept_program c.args.program.now k ≡ Some def =
    ap (λ (ps : List ProgramDef). program_named ps c.args.program.now) (sym cat) ∙ sym c.find.ensures ∙ ap option_copied c.in-Some.is in
    let cont : c.in_ok-cont.cont ≡ at_first b n def args vars = c.in_ok-cont.ensures in
    ap (make_move k.conts) (c.begun.ensures ∙ ap begun c.in_ok-made.ensures ∙ (λ i. begun (move_on (cat i) (cont i) (cont i).vars false)))
    ∙ begins k b n def args vars (found-own k c.args.program.now def defined) number can.new can.accepted
    ∙ ap (λ (l : List Cont). Some l)
    (sym (ap (λ (o : Option ProgramDef). elim o as (λ _. List Cont) [ None ↦ k.conts | Some p ↦ begun_cont b n p args vars (next_on_commit (parts_of p) 1) k.conts ]) defined))
