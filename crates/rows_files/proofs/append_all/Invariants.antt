use Rattle.rows_files.proofs.append_all.Given as goal
use Rattle.salt_gatelog.specs.Log.{IsLog}
use Rattle.std.proofs.Common.{List, ℕ, ◌≡◌}

abbrev pub invariant-loop-payload : goal.invariant-loop-payload
invariant-loop-payload g l = record {
  is_log : (entries : List (List ℕ)) × IsLog (g.D.Disks.view l.disks) l.log entries;
  count : (g.D.Disks.view l.disks).count ≡ (g.D.Disks.view l.fn.disks).count;
}
