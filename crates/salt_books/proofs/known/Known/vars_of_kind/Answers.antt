use Rattle.salt_model.specs.Kept.{vars_of_kind}
use Rattle.salt_books.proofs.known.Known.vars_of_kind.Goals as goal
use Rattle.std.proofs.Common.{ap, sym, ◌∙◌}
use Rattle.std.proofs.lemmas.Result.{IfOk-weaker}

pub returns-in-Call : goal.returns-in-Call
returns-in-Call c =
    IfOk-weaker c.vars_of_call.result _ _ (λ vars f k same. f k c.in-Call.session same ∙ sym (ap (vars_of_kind k) c.in-Call.is)) c.vars_of_call.ensures

pub returns-in-First : goal.returns-in-First
returns-in-First c =
    IfOk-weaker c.vars_of_call-in-First.result _ _ (λ vars f k same. f k c.in-First.session same ∙ sym (ap (vars_of_kind k) c.in-First.is))
    c.vars_of_call-in-First.ensures

pub returns-in-Later : goal.returns-in-Later
returns-in-Later c =
    IfOk-weaker c.vars_of_part.result _ _ (λ vars f k same. f k c.in-Later.part same ∙ sym (ap (vars_of_kind k) c.in-Later.is)) c.vars_of_part.ensures
