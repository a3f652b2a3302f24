use Rattle.salt_audit.proofs.Quiet.{unchanged}
use Rattle.salt_audit.proofs.telling.tell.Goals as goal
use Rattle.salt_audit.specs.Telling.{IsBehind, is_quiet}
use Rattle.salt_cont.specs.Catalogues.{AllLeadOn}
use Rattle.salt_model.specs.declared.events.Event.TheVariants as event
use Rattle.std.proofs.Common.{ap, subst, sym, ◌∙◌}
use Rattle.std.proofs.lemmas.Result.{on_ok_weaker}

pub returns-in-Began-clause-behind : goal.returns-in-Began-clause-behind
returns-in-Began-clause-behind c =
    on_ok_weaker c.begin.result (λ (b : IsBehind c.args.state.now c.begin.new.state (event.Began c.in-Began.unit c.in-Began.kind)). subst (IsBehind c.args.state.now c.begin.new.state) (sym c.in-Began.is) b) c.begin.ensures

pub returns-in-Began-clause-leads : goal.returns-in-Began-clause-leads
returns-in-Began-clause-leads c =
    on_ok_weaker c.begin.result (λ (b : IsBehind c.args.state.now c.begin.new.state (event.Began c.in-Began.unit c.in-Began.kind)). subst AllLeadOn (sym b.programs) c.requires.leads) c.begin.ensures

pub returns-in-Ended-clause-behind : goal.returns-in-Ended-clause-behind
returns-in-Ended-clause-behind c =
    on_ok_weaker c.end_unit.result (λ (b : IsBehind c.args.state.now c.end_unit.new.state (event.Ended c.in-Ended.unit c.in-Ended.how)). subst (IsBehind c.args.state.now c.end_unit.new.state) (sym c.in-Ended.is) b) c.end_unit.ensures

pub returns-in-Ended-clause-leads : goal.returns-in-Ended-clause-leads
returns-in-Ended-clause-leads c =
    on_ok_weaker c.end_unit.result (λ (b : IsBehind c.args.state.now c.end_unit.new.state (event.Ended c.in-Ended.unit c.in-Ended.how)). subst AllLeadOn (sym b.programs) c.requires.leads) c.end_unit.ensures

pub returns-in-Accepted-clause-behind : goal.returns-in-Accepted-clause-behind
returns-in-Accepted-clause-behind c =
    on_ok_weaker c.accept.result (λ (b : IsBehind c.args.state.now c.accept.new.state (event.Accepted c.in-Accepted.base)). subst (IsBehind c.args.state.now c.accept.new.state) (sym c.in-Accepted.is) b) c.accept.ensures

pub returns-in-Accepted-clause-leads : goal.returns-in-Accepted-clause-leads
returns-in-Accepted-clause-leads c =
    on_ok_weaker c.accept.result (λ (b : IsBehind c.args.state.now c.accept.new.state (event.Accepted c.in-Accepted.base)). subst AllLeadOn (sym b.programs) c.requires.leads) c.accept.ensures

pub returns-in-Finished-clause-behind : goal.returns-in-Finished-clause-behind
returns-in-Finished-clause-behind c =
    on_ok_weaker c.finish.result (λ (b : IsBehind c.args.state.now c.finish.new.state (event.Finished c.in-Finished.base)). subst (IsBehind c.args.state.now c.finish.new.state) (sym c.in-Finished.is) b) c.finish.ensures

pub returns-in-Finished-clause-leads : goal.returns-in-Finished-clause-leads
returns-in-Finished-clause-leads c =
    on_ok_weaker c.finish.result (λ (b : IsBehind c.args.state.now c.finish.new.state (event.Finished c.in-Finished.base)). subst AllLeadOn (sym b.programs) c.requires.leads) c.finish.ensures

pub returns-in-Did-clause-behind : goal.returns-in-Did-clause-behind
returns-in-Did-clause-behind c =
    on_ok_weaker c.act.result (λ b. subst (IsBehind c.args.state.now c.act.new.state) (sym c.in-Did.is) (b c.in-Did.statement c.in-Did.answer)) c.act.ensures

pub returns-in-Did-clause-leads : goal.returns-in-Did-clause-leads
returns-in-Did-clause-leads c =
    on_ok_weaker c.act.result (λ b. subst AllLeadOn (sym (b c.in-Did.statement c.in-Did.answer).programs) c.requires.leads) c.act.ensures

pub returns-in-Opened-clause-behind : goal.returns-in-Opened-clause-behind
returns-in-Opened-clause-behind c =
    subst (IsBehind c.args.state.now c.be_opened.new.state) (sym c.in-Opened.is) (c.be_opened.ensures c.in-Opened.boot c.in-Opened.decisions)

pub returns-in-Opened-clause-leads : goal.returns-in-Opened-clause-leads
returns-in-Opened-clause-leads c = subst AllLeadOn (sym (c.be_opened.ensures c.in-Opened.boot c.in-Opened.decisions).programs) c.requires.leads

pub returns-in-Defined-clause-behind : goal.returns-in-Defined-clause-behind
returns-in-Defined-clause-behind c =
    on_ok_weaker c.define.result (λ b. subst (IsBehind c.args.state.now c.define.new.state)
    ((λ i. event.Defined c.in-Defined.number (c.as_slice.ensures i)) ∙ sym c.in-Defined.is) (b c.in-Defined.number)) c.define.ensures.behind

pub returns-in-Defined-clause-leads : goal.returns-in-Defined-clause-leads
returns-in-Defined-clause-leads c = on_ok_weaker c.define.result (λ f. f c.requires.leads) c.define.ensures.leads

pub returns-in-Waits-clause-behind : goal.returns-in-Waits-clause-behind
returns-in-Waits-clause-behind c = unchanged c.args.state.now c.args.event.now (ap is_quiet c.in-Waits.is)

pub returns-in-Released-clause-behind : goal.returns-in-Released-clause-behind
returns-in-Released-clause-behind c = unchanged c.args.state.now c.args.event.now (ap is_quiet c.in-Released.is)

pub returns-in-Early-clause-behind : goal.returns-in-Early-clause-behind
returns-in-Early-clause-behind c = unchanged c.args.state.now c.args.event.now (ap is_quiet c.in-Early.is)

pub returns-in-Down-clause-behind : goal.returns-in-Down-clause-behind
returns-in-Down-clause-behind c = unchanged c.args.state.now c.args.event.now (ap is_quiet c.in-Down.is)

pub returns-in-Ready-clause-behind : goal.returns-in-Ready-clause-behind
returns-in-Ready-clause-behind c = unchanged c.args.state.now c.args.event.now (ap is_quiet c.in-Ready.is)

pub returns-in-Refused-clause-behind : goal.returns-in-Refused-clause-behind
returns-in-Refused-clause-behind c = unchanged c.args.state.now c.args.event.now (ap is_quiet c.in-Refused.is)

pub returns-in-Armed-clause-behind : goal.returns-in-Armed-clause-behind
returns-in-Armed-clause-behind c = unchanged c.args.state.now c.args.event.now (ap is_quiet c.in-Armed.is)

pub returns-in-Shown-clause-behind : goal.returns-in-Shown-clause-behind
returns-in-Shown-clause-behind c = unchanged c.args.state.now c.args.event.now (ap is_quiet c.in-Shown.is)
