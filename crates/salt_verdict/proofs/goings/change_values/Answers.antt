use Rattle.salt_audit.specs.Standing.{is_of}
use Rattle.salt_verdict.proofs.Putting.{none_first, set_first}
use Rattle.salt_verdict.proofs.goings.change_values.Goals as goal
use Rattle.std.proofs.Common.{None, Some, ap, sym, ◌∙◌, ◌≡◌}
use Rattle.std.proofs.lemmas.Result.{on_ok_weaker}
use Rattle.std.specs.List.{position_from}

pub returns-in-Some : goal.returns-in-Some
returns-in-Some c =
    let found : position_from (is_of c.args.base) 0 c.args.conts.now ≡ Some c.in-Some.at =
    ap (position_from (is_of c.args.base) 0) (sym c.as_slice.ensures) ∙ sym c.place_of.ensures ∙ c.in-Some.is in
    on_ok_weaker c.set_values.result (λ e. e ∙ set_first c.args.base c.args.values c.args.conts.now c.in-Some.at found) c.set_values.ensures

pub returns-in-None : goal.returns-in-None
returns-in-None c =
    let none : position_from (is_of c.args.base) 0 c.args.conts.now ≡ None =
    ap (position_from (is_of c.args.base) 0) (sym c.as_slice.ensures) ∙ sym c.place_of.ensures ∙ c.in-None.is in
    none_first c.args.base c.args.values c.args.conts.now none
