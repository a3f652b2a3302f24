use Rattle.salt_ast.specs.ProgramJudgement.{program_named}
use Rattle.salt_ast.specs.declared.programs.ProgramDef.{ProgramDef}
use Rattle.salt_audit.proofs.Moving.{at_first, first_goes}
use Rattle.salt_audit.proofs.conts.first.Goals as goal
use Rattle.salt_audit.specs.Telling.{first_by, with_last}
use Rattle.salt_cont.specs.Move.{Move}
use Rattle.salt_cont.specs.Moves.{move_on}
use Rattle.std.proofs.Common.{None, Option, Some, [], ap, sym, ◌∙◌, ◌≡◌}
use Rattle.std.specs.Option.{option_copied}
use Rattle.std.specs.Prelude.{false}

pub advance-requires : goal.advance-requires
advance-requires c = c.named_leads_on.ensures c.args.catalogue.now c.in_ok-cont.cont.program c.requires

pub returns-in_default : goal.returns-in_default
returns-in_default c =
    let none : program_named c.args.catalogue.now c.args.program.now ≡ None = sym c.find.ensures ∙ ap option_copied c.in_default.is in
    sym (ap (λ (o : Option ProgramDef). first_by c.args.base c.args.number c.args.args.now o c.args.conts.now) none)

pub returns : goal.returns
returns c =
    let def = c.in-Some.def.now in
    let cs = c.args.conts.now in
    let defined : program_named c.args.catalogue.now c.args.program.now ≡ Some def = sym c.find.ensures ∙ ap option_copied c.in-Some.is in
    let cont : c.in_ok-cont.cont ≡ at_first c.args.base c.args.number def c.args.args.now = c.in_ok-cont.ensures in
    let made : c.in_ok-made.made ≡ move_on c.args.catalogue.now (at_first c.args.base c.args.number def c.args.args.now) [] false =
    c.in_ok-made.ensures ∙ (λ i. move_on c.args.catalogue.now (cont i) (cont i).vars false) in
    c.in_ok-put_last.ensures ∙ ap (λ (m : Move). with_last m cs) made
    ∙ first_goes c.args.base c.args.number c.args.catalogue.now c.args.program.now c.args.args.now def cs defined
