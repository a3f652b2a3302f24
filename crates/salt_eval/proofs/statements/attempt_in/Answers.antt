use Rattle.salt_eval.proofs.statements.attempt_in.Goals as goal
use Rattle.salt_ast.specs.declared.trees.Statement.TheVariants.{Insert, Update}
use Rattle.salt_eval.specs.Effects.{table_effect}
use Rattle.salt_eval.specs.Scans.{GivesMeant}
use Rattle.std.proofs.Common.{subst, sym}

pub returns-in-Insert-clause-done : goal.returns-in-Insert-clause-done
returns-in-Insert-clause-done g c = subst (λ st. GivesMeant (table_effect c.args.table c.args.def.now c.args.vars.now st (g.V.RowView.tables c.args.view.now)) c.insert.result) (sym c.in-Insert.is) (subst (λ values. GivesMeant (table_effect c.args.table c.args.def.now c.args.vars.now (Insert c.in-Insert.table values) (g.V.RowView.tables c.args.view.now)) c.insert.result) c.as_slice.ensures (c.insert.ensures.done c.in-Insert.table))

pub returns-in-Select-clause-done : goal.returns-in-Select-clause-done
returns-in-Select-clause-done g c = subst (λ st. GivesMeant (table_effect c.args.table c.args.def.now c.args.vars.now st (g.V.RowView.tables c.args.view.now)) c.select.result) (sym c.in-Select.is) (c.select.ensures.done c.in-Select.table)

pub returns-in-SelectInto-clause-done : goal.returns-in-SelectInto-clause-done
returns-in-SelectInto-clause-done g c = subst (λ st. GivesMeant (table_effect c.args.table c.args.def.now c.args.vars.now st (g.V.RowView.tables c.args.view.now)) c.select_into.result) (sym c.in-SelectInto.is) (c.select_into.ensures.done c.in-SelectInto.table c.in-SelectInto.var)

pub returns-in-Update-clause-done : goal.returns-in-Update-clause-done
returns-in-Update-clause-done g c = subst (λ st. GivesMeant (table_effect c.args.table c.args.def.now c.args.vars.now st (g.V.RowView.tables c.args.view.now)) c.update.result) (sym c.in-Update.is) (subst (λ sets. GivesMeant (table_effect c.args.table c.args.def.now c.args.vars.now (Update c.in-Update.table sets c.in-Update.scan) (g.V.RowView.tables c.args.view.now)) c.update.result) c.as_slice-in-Update.ensures (c.update.ensures.done c.in-Update.table))

pub returns-in-Delete-clause-done : goal.returns-in-Delete-clause-done
returns-in-Delete-clause-done g c = subst (λ st. GivesMeant (table_effect c.args.table c.args.def.now c.args.vars.now st (g.V.RowView.tables c.args.view.now)) c.delete.result) (sym c.in-Delete.is) (c.delete.ensures.done c.in-Delete.table)

pub returns-in-Ensure-clause-faults : goal.returns-in-Ensure-clause-faults
returns-in-Ensure-clause-faults g c = c.ensure.ensures.faults (g.V.RowView.faults c.args.view.now)
