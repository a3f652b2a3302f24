use Rattle.salt_disk.proofs.Coming.{none_come}
use Rattle.salt_devices.proofs.held.reject.Goals as goal

pub returns-clause-kept : goal.returns-clause-kept
returns-clause-kept g c = record { shape = c.reject.ensures.kept.shape; kept = tt; images = λ dev other. (c.reject.ensures.kept.each dev).images }

pub returns-clause-cause : goal.returns-clause-cause
returns-clause-cause g c = record { later = c.reject.ensures.later; failed = λ is. c.reject.ensures.faults; stops = none_come (g.D.Disks.view c.args.disks.now).armed (g.D.Disks.view c.reject.new.self).armed c.reject.ensures.stops }
