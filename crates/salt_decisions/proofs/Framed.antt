-- What layers above the coordinator's log rest on.
use Rattle.salt_bytes.specs.Generations.{LogA, LogB, WhichLog}
use Rattle.salt_bytes.specs.Log.{entries_in}
use Rattle.salt_decisions.specs.Decisions.{IsDecisions}
use Rattle.salt_decisions.specs.declared.decisions.Decisions.{Decisions}
use Rattle.salt_disk.specs.Disks.{IsUnchanged, SameShape, View}
use Rattle.salt_gatelog.proofs.Frame.{log_kept}
use Rattle.salt_stands.proofs.Pairs.{pair_same}
use Rattle.salt_stands.specs.Coordinator.{device_of}
use Rattle.salt_stands.specs.CoordinatorLog.{CoordinatorLog, coordinator_generation, coordinator_in}
use Rattle.salt_stands.specs.Pieces.{other_log}
use Rattle.salt_stands.specs.Stands.{logs_of}
use Rattle.std.proofs.Common.{ap, arith, subst, sym, ◌∙◌}

-- the coordinator's log is as it was where its devices are
pub decisions_kept : (d e : View) (x : Decisions) (which : WhichLog) (log : CoordinatorLog) → SameShape d e → IsUnchanged d e 0 → IsUnchanged d e 1 → IsDecisions d x which log → IsDecisions e x which log
decisions_kept d e x which log shape first second is = record {
  own = is.own;
  holds = is.holds;
  counting = record {
    entries = is.counting.entries;
    is_log = log_kept d e x.gate is.counting.entries shape (subst (IsUnchanged d e) (sym is.counting.device) (at which)) is.counting.is_log;
    device = is.counting.device;
    known = omega (arith, is.counting.known, shape.count);
    other = λ c left. is.counting.other c ((at (other_log which)).images c left) ∙ sym (at (other_log which)).bytes;
    counts = λ told. pair_same coordinator_generation coordinator_in 0 (logs_of d.bytes) (logs_of e.bytes) (ap entries_in first.bytes) (ap entries_in second.bytes) ∙ is.counting.counts (sym shape.told ∙ told);
  };
}
  where
    at : (w : WhichLog) → IsUnchanged d e (device_of 0 w)
    at LogA = first
    at LogB = second
