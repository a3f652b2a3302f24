use Rattle.salt_audit.proofs.Firsts.{cont_gone, first_found, first_within, none_gone}
use Rattle.salt_audit.proofs.conts.leave.Goals as goal
use Rattle.salt_audit.specs.Standing.{is_of}
use Rattle.std.proofs.Common.{None, Some, ap, sym, ◌∙◌, ◌≡◌}
use Rattle.std.specs.List.{position_from}

pub remove-cont-requires : goal.remove-cont-requires
remove-cont-requires c =
    let found : position_from (is_of c.args.base) 0 c.args.conts.now ≡ Some c.in-Some.at =
    ap (position_from (is_of c.args.base) 0) (sym c.as_slice.ensures) ∙ sym c.place_of.ensures ∙ c.in-Some.is in
    first_within (is_of c.args.base) c.args.conts.now c.in-Some.at (first_found (is_of c.args.base) c.args.conts.now c.in-Some.at found)

pub returns-in-Some : goal.returns-in-Some
returns-in-Some c =
    let found : position_from (is_of c.args.base) 0 c.args.conts.now ≡ Some c.in-Some.at =
    ap (position_from (is_of c.args.base) 0) (sym c.as_slice.ensures) ∙ sym c.place_of.ensures ∙ c.in-Some.is in
    c.remove-cont.ensures.rest ∙ cont_gone c.args.base c.args.conts.now c.in-Some.at found

pub returns-in_default : goal.returns-in_default
returns-in_default c =
    let none : position_from (is_of c.args.base) 0 c.args.conts.now ≡ None =
    ap (position_from (is_of c.args.base) 0) (sym c.as_slice.ensures) ∙ sym c.place_of.ensures ∙ c.in_default.is in
    sym (none_gone c.args.base 0 c.args.conts.now none)
