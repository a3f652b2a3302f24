use Rattle.salt_audit.proofs.Firsts.{cont_changed, first_found, first_within, none_changed}
use Rattle.salt_audit.proofs.conts.change.Goals as goal
use Rattle.salt_audit.specs.Standing.{is_of}
use Rattle.std.proofs.Common.{None, Some, ap, sym, ◌∙◌, ◌≡◌}
use Rattle.std.specs.List.{position_from}

pub set-requires : goal.set-requires
set-requires c =
    let found : position_from (is_of c.args.base) 0 c.args.conts.now ≡ Some c.in-Some.at =
    ap (position_from (is_of c.args.base) 0) (sym c.as_slice.ensures) ∙ sym c.place_of.ensures ∙ c.in-Some.is in
    first_within (is_of c.args.base) c.args.conts.now c.in-Some.at (first_found (is_of c.args.base) c.args.conts.now c.in-Some.at found)

pub returns-in-Some : goal.returns-in-Some
returns-in-Some c =
    let found : position_from (is_of c.args.base) 0 c.args.conts.now ≡ Some c.in-Some.at =
    ap (position_from (is_of c.args.base) 0) (sym c.as_slice.ensures) ∙ sym c.place_of.ensures ∙ c.in-Some.is in
    c.set.ensures ∙ cont_changed c.args.base c.args.cont c.args.conts.now c.in-Some.at found

pub returns-in_default : goal.returns-in_default
returns-in_default c =
    let none : position_from (is_of c.args.base) 0 c.args.conts.now ≡ None =
    ap (position_from (is_of c.args.base) 0) (sym c.as_slice.ensures) ∙ sym c.place_of.ensures ∙ c.in_default.is in
    sym (none_changed c.args.base (λ d. c.args.cont) 0 c.args.conts.now none)
