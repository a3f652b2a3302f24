use Rattle.salt_eval.proofs.Tabled.{reach-known, reach-none, reach-unknown}
use Rattle.salt_eval.proofs.reaches.reach.Goals as goal
use Rattle.salt_model.specs.Reaches.{reach_in, table_in}
use Rattle.std.proofs.Common.{IfOk, Some, ap, subst, sym, ◌∙◌, ◌≡◌}
use Rattle.std.specs.Option.{option_copied}

pub returns-in_default : goal.returns-in_default
returns-in_default c = reach-none c.args.schema.now c.args.vars.now c.args.statement.now (sym c.table_in.ensures ∙ ap option_copied c.in_default.is)

pub returns-in_default-number : goal.returns-in_default-number
returns-in_default-number c =
    reach-unknown c.args.schema.now c.args.vars.now c.args.statement.now c.in-Some.name.now (sym c.table_in.ensures ∙ ap option_copied c.in-Some.is) (sym c.number.ensures ∙ c.in_default-number.is)

pub returns : goal.returns
returns c =
    let name : table_in c.args.statement.now ≡ Some c.in-Some.name.now = sym c.table_in.ensures ∙ ap option_copied c.in-Some.is in
    let known = reach-known c.args.schema.now c.args.vars.now c.args.statement.now c.in-Some.name.now c.in-Some-number.table name (sym c.number.ensures ∙ c.in-Some-number.is) in
    subst (λ found. IfOk c.reach_in.result (λ reach. reach ≡ found)) known
    (subst (λ vars. IfOk c.reach_in.result (λ reach. reach ≡ reach_in c.in-Some-number.table vars c.args.statement.now)) c.as_slice.ensures c.reach_in.ensures)
