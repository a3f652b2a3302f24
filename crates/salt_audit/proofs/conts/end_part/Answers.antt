use Rattle.salt_audit.proofs.Moving.{ends_none}
use Rattle.salt_audit.proofs.conts.end_part.Goals as goal
use Rattle.salt_audit.specs.Telling.{conts_ended}
use Rattle.salt_audit.specs.declared.state.Begun.{Begun}
use Rattle.std.proofs.Common.{Option, ap, sym, ◌∙◌}
use Rattle.std.proofs.lemmas.Result.{on_ok_weaker}
use Rattle.std.specs.Option.{option_copied}

pub returns-in_default : goal.returns-in_default
returns-in_default c =
    ends_none c.args.catalogue.now c.args.how.now c.args.conts.now
    ∙ sym (ap (λ (o : Option Begun). conts_ended c.args.catalogue.now c.args.how.now o c.args.conts.now) (ap option_copied c.in_default.is))

pub returns-in-Committed : goal.returns-in-Committed
returns-in-Committed c =
    on_ok_weaker c.commit.result (λ e. e ∙ sym (λ i. conts_ended c.args.catalogue.now (c.in-Committed.is i) (option_copied (c.in-Some.is i)) c.args.conts.now)) c.commit.ensures

pub returns-in-Branched : goal.returns-in-Branched
returns-in-Branched c =
    on_ok_weaker c.branch-alloc.result (λ e. e ∙ sym (λ i. conts_ended c.args.catalogue.now (c.in-Branched.is i) (option_copied (c.in-Some.is i)) c.args.conts.now)) c.branch-alloc.ensures
