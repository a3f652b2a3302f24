-- What layers above a log rest on.
use Rattle.std.proofs.Common.{◌≡◌, ℕ, List, [], Some, sym, ◌∙◌, subst, arith}
use Rattle.salt_disk.specs.Disks.{View, SameShape, IsUnchanged, EachImage}
use Rattle.salt_bytes.specs.Log.{entries_in}
use Rattle.salt_gatelog.specs.Log.{EndsClosed, IsLog}
use Rattle.salt_gatelog.specs.declared.log.GateLog.{GateLog}
use Rattle.salt_gatelog.proofs.Appends.{at_start}
use Rattle.salt_gatelog.proofs.Blocks.{block_of_stays}

-- a log is as it was where its device is
pub log_kept : (d e : View) (log : GateLog) (entries : List (List ℕ)) → SameShape d e → IsUnchanged d e log.dev → IsLog d log entries → IsLog e log entries
log_kept d e log entries shape kept is = record {
  known = omega (arith, is.known, shape.count);
  end = is.end;
  room = is.room;
  count = is.count;
  file = λ told. subst (EndsClosed entries) (sym kept.bytes) (is.file (sym shape.told ∙ told));
  settled = λ c left. is.settled c (kept.images c left) ∙ sym kept.bytes;
  next = is.next;
  within = is.within;
  place = λ told. is.place (sym shape.told ∙ told);
  block = block_of_stays d e log.dev log.block shape.told kept.bytes is.block;
}

-- each image stands for its entries
pub log_images : (d : View) (log : GateLog) (entries : List (List ℕ)) → IsLog d log entries → EachImage d log.dev (λ c. entries_in c ≡ Some entries)
log_images d log entries is = at_start entries [] log d (omega (arith, is.room)) is
