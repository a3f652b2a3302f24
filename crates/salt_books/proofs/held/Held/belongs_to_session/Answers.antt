use Rattle.salt_books.proofs.held.Held.belongs_to_session.Goals as goal
use Rattle.salt_books.specs.Held.{is_of_session}
use Rattle.salt_model.specs.Units.{session_of_kind}
use Rattle.salt_model.specs.declared.events.UnitKind.{UnitKind}
use Rattle.std.proofs.Common.{Bool, None, Some, ap, false, sym}
use Rattle.std.specs.Prelude.{◌==◌}

pub returns-in-Acid : goal.returns-in-Acid
unfolding is_of_session
returns-in-Acid c = ap (λ (kind : UnitKind). elim (session_of_kind kind) as (λ _. Bool) [ None ↦ false | Some t ↦ c.args.session == t ]) (sym c.in-Acid.is)

pub returns-in-Call : goal.returns-in-Call
unfolding is_of_session
returns-in-Call c = ap (λ (kind : UnitKind). elim (session_of_kind kind) as (λ _. Bool) [ None ↦ false | Some t ↦ c.args.session == t ]) (sym c.in-Call.is)

pub returns-in-First : goal.returns-in-First
unfolding is_of_session
returns-in-First c = ap (λ (kind : UnitKind). elim (session_of_kind kind) as (λ _. Bool) [ None ↦ false | Some t ↦ c.args.session == t ]) (sym c.in-First.is)

pub returns-in-Later : goal.returns-in-Later
unfolding is_of_session
returns-in-Later c = ap (λ (kind : UnitKind). elim (session_of_kind kind) as (λ _. Bool) [ None ↦ false | Some t ↦ c.args.session == t ]) (sym c.in-Later.is)
