use Rattle.salt_decisions.proofs.Appended.{before_or_with, ok_appended}
use Rattle.salt_decisions.proofs.decisions.append_entry.Goals as goal
use Rattle.salt_gatelog.specs.Log.{payload_in}
use Rattle.std.proofs.Common.{sym, ◌∙◌}

pub returns-clause-ok : goal.returns-clause-ok
returns-clause-ok g c which log entry now h reads tells =
    ok_appended (g.D.Disks.view c.args.disks.now) (g.D.Disks.view c.append_frame.new.disks) c.args.gate.now (payload_in c.args.frame.items) which log h c.append_frame.new.self entry now reads tells c.append_frame.ensures.device
    c.append_frame.result c.append_frame.ensures.others (c.append_frame.ensures.ok h.entries h.is_log)

pub returns-clause-images : goal.returns-clause-images
returns-clause-images g c which log h =
    before_or_with (g.D.Disks.view c.args.disks.now) (g.D.Disks.view c.append_frame.new.disks) c.args.gate.now (payload_in c.args.frame.items) which log h (λ told. sym c.append_frame.ensures.others.shape.told ∙ told)
    (c.append_frame.ensures.images h.entries h.is_log)
