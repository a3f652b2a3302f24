use Rattle.salt_eval.proofs.reaches.reach_in.Goals as goal
use Rattle.salt_model.specs.Eval.{value_of}
use Rattle.salt_model.specs.Reaches.{first_value, key_reached, no_row, range_of, reach_in}
use Rattle.salt_model.specs.declared.locks.Mode.TheVariants.{Write}
use Rattle.std.proofs.Common.{IfOk, subst, sym, ◌≡◌}

pub returns-in-Insert : goal.returns-in-Insert
returns-in-Insert c = subst (λ st. IfOk c.key_reached.result (λ r. r ≡ reach_in c.args.table c.args.vars.now st)) (sym c.in-Insert.is) (subst (λ values. IfOk c.key_reached.result (λ r. r ≡ key_reached c.args.table Write (first_value c.args.vars.now values))) c.as_slice.ensures (c.key_reached.ensures (first_value c.args.vars.now c.as_slice.result.now) c.first_value-key.ensures))

pub returns-in-Select : goal.returns-in-Select
returns-in-Select c = subst (λ st. IfOk c.range_reached.result (λ r. r ≡ reach_in c.args.table c.args.vars.now st)) (sym c.in-Select.is) (c.range_reached.ensures (range_of c.args.vars.now c.in-Select.scan.bound) c.range_of-range.ensures)

pub returns-in-SelectInto : goal.returns-in-SelectInto
returns-in-SelectInto c = subst (λ st. IfOk c.key_reached-in-SelectInto.result (λ r. r ≡ reach_in c.args.table c.args.vars.now st)) (sym c.in-SelectInto.is) (c.key_reached-in-SelectInto.ensures (value_of (no_row c.args.vars.now) c.in-SelectInto.key) c.value_outside-key.ensures)

pub returns-in-Update : goal.returns-in-Update
returns-in-Update c = subst (λ st. IfOk c.range_reached-in-Update.result (λ r. r ≡ reach_in c.args.table c.args.vars.now st)) (sym c.in-Update.is) (c.range_reached-in-Update.ensures (range_of c.args.vars.now c.in-Update.scan.bound) c.range_of-range-in-Update.ensures)

pub returns-in-Delete : goal.returns-in-Delete
returns-in-Delete c = subst (λ st. IfOk c.range_reached-in-Delete.result (λ r. r ≡ reach_in c.args.table c.args.vars.now st)) (sym c.in-Delete.is) (c.range_reached-in-Delete.ensures (range_of c.args.vars.now c.in-Delete.scan.bound) c.range_of-range-in-Delete.ensures)
