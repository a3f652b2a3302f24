use Rattle.salt_exprs.specs.Names.{is_named}
use Rattle.salt_units.proofs.Variables.{set-at, set-none}
use Rattle.salt_units.proofs.storing.set_var.Goals as goal
use Rattle.std.proofs.Common.{List, Some, ap, arith, length, slice_set, sym, ℕ, ◌+◌, ◌<◌, ◌∙◌, ◌≡◌}
use Rattle.std.specs.List.{position_from}

pub set-requires : goal.set-requires
set-requires c =
    let found : position_from (is_named c.args.binding.name) 0 c.args.vars.now ≡ Some c.in-Some.at =
    ap (λ (n : List ℕ). position_from (is_named n) 0 c.args.vars.now) (sym c.as_slice-2.ensures) ∙ ap (position_from (is_named c.as_slice-2.result.now) 0) (sym c.as_slice.ensures) ∙ sym c.position_of.ensures ∙ c.in-Some.is in
    let f = set-at 0 c.args.binding c.args.vars.now c.in-Some.at found in
    let at : c.in-Some.at ≡ 0 + f.0 = f.1 in
    let within : f.0 < length c.args.vars.now = f.2 in
    omega arith

pub returns-in-Some : goal.returns-in-Some
returns-in-Some c =
    let found : position_from (is_named c.args.binding.name) 0 c.args.vars.now ≡ Some c.in-Some.at =
    ap (λ (n : List ℕ). position_from (is_named n) 0 c.args.vars.now) (sym c.as_slice-2.ensures) ∙ ap (position_from (is_named c.as_slice-2.result.now) 0) (sym c.as_slice.ensures) ∙ sym c.position_of.ensures ∙ c.in-Some.is in
    let f = set-at 0 c.args.binding c.args.vars.now c.in-Some.at found in
    let at : c.in-Some.at ≡ 0 + f.0 = f.1 in
    let same : c.in-Some.at ≡ f.0 = omega arith in
    c.set.ensures ∙ ap (λ (n : ℕ). slice_set c.args.vars.now n c.args.binding) same ∙ sym f.3

pub returns-in_default : goal.returns-in_default
returns-in_default c =
    sym (set-none 0 c.args.binding c.args.vars.now
    (ap (λ (n : List ℕ). position_from (is_named n) 0 c.args.vars.now) (sym c.as_slice-2.ensures) ∙ ap (position_from (is_named c.as_slice-2.result.now) 0) (sym c.as_slice.ensures) ∙ sym c.position_of.ensures ∙ c.in_default.is))
