use Rattle.salt_audit.proofs.conts.put_last.Goals as goal
use Rattle.salt_audit.specs.Telling.{with_last}
use Rattle.salt_cont.specs.Move.{Move}
use Rattle.std.proofs.Common.{ap, sym, ◌∙◌}
use Rattle.std.proofs.lemmas.Result.{on_ok_weaker}

pub returns-in-Continue : goal.returns-in-Continue
returns-in-Continue c = on_ok_weaker c.push.result (λ e. e ∙ sym (ap (λ (m : Move). with_last m c.args.conts.now) c.in-Continue.is)) c.push.ensures.ok
