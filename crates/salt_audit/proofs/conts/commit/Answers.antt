use Rattle.salt_audit.proofs.conts.commit.Goals as goal
use Rattle.salt_audit.specs.Telling.{committed_by}
use Rattle.salt_model.specs.declared.events.UnitKind.{UnitKind}
use Rattle.std.proofs.Common.{ap, sym, ◌∙◌}
use Rattle.std.proofs.lemmas.Result.{on_ok_weaker}

pub returns-in-First : goal.returns-in-First
returns-in-First c =
    on_ok_weaker c.first.result (λ e. e ∙ sym (ap (λ (kind : UnitKind). committed_by c.args.catalogue.now c.args.number kind c.args.conts.now) c.in-First.is)) c.first.ensures

pub returns-in-Later : goal.returns-in-Later
returns-in-Later c =
    on_ok_weaker c.later.result (λ e. e ∙ sym (ap (λ (kind : UnitKind). committed_by c.args.catalogue.now c.args.number kind c.args.conts.now) c.in-Later.is)) c.later.ensures
