use Rattle.salt_books.proofs.held.Held.belongs_to_program.Goals as goal
use Rattle.salt_books.specs.Held.{is_of_program}
use Rattle.salt_model.specs.Units.{program_of_kind}
use Rattle.salt_model.specs.declared.events.UnitKind.{UnitKind}
use Rattle.salt_values.specs.Id.{is_same_id}
use Rattle.std.proofs.Common.{Bool, None, Some, ap, false, sym, ◌∙◌}

pub returns-in-First : goal.returns-in-First
unfolding is_of_program
returns-in-First c = c.is_same_id.ensures ∙ ap (λ (kind : UnitKind). elim (program_of_kind kind) as (λ _. Bool) [ None ↦ false | Some b ↦ is_same_id c.args.base b ]) (sym c.in-First.is)

pub returns-in-Later : goal.returns-in-Later
unfolding is_of_program
returns-in-Later c = c.is_same_id-in-Later.ensures ∙ ap (λ (kind : UnitKind). elim (program_of_kind kind) as (λ _. Bool) [ None ↦ false | Some b ↦ is_same_id c.args.base b ]) (sym c.in-Later.is)

pub returns-in-Acid : goal.returns-in-Acid
unfolding is_of_program
returns-in-Acid c = ap (λ (kind : UnitKind). elim (program_of_kind kind) as (λ _. Bool) [ None ↦ false | Some b ↦ is_same_id c.args.base b ]) (sym c.in-Acid.is)

pub returns-in-Call : goal.returns-in-Call
unfolding is_of_program
returns-in-Call c = ap (λ (kind : UnitKind). elim (program_of_kind kind) as (λ _. Bool) [ None ↦ false | Some b ↦ is_same_id c.args.base b ]) (sym c.in-Call.is)
