use Rattle.salt_engine.proofs.lines.arm_each.Given as goal
use Rattle.salt_engine.specs.Stored.{Stored}
use Rattle.law_states.specs.OpenUnits.{UnitState}
use Rattle.salt_storage.specs.Staying.{StaysWithin}
use Rattle.std.proofs.Common.{take, ◌++◌, ◌≡◌}

abbrev pub invariant-loop-pair : goal.invariant-loop-pair
invariant-loop-pair g l = record {
  stored :
      (s : UnitState) → Stored (g.S.Storage.holds (g.D.Disks.view l.fn.disks) l.fn.storage) (g.S.Storage.is_new (g.D.Disks.view l.fn.disks) l.fn.storage) s →
      Stored (g.S.Storage.holds (g.D.Disks.view l.disks) l.storage) (g.S.Storage.is_new (g.D.Disks.view l.disks) l.storage) s;
  stops : (g.D.Disks.view l.disks).armed ≡ (g.D.Disks.view l.fn.disks).armed ++ take l.pair-index l.pairs;
  faults : (g.D.Disks.view l.disks).faults ≡ (g.D.Disks.view l.fn.disks).faults;
  net : g.S.Storage.net l.storage ≡ g.S.Storage.net l.fn.storage;
  able : g.S.Storage.able (g.D.Disks.view l.fn.disks) l.fn.storage → g.S.Storage.able (g.D.Disks.view l.disks) l.storage;
  within : StaysWithin (g.S.Storage.asked l.fn.storage) (g.S.Storage.asked l.storage) (g.D.Disks.view l.fn.disks) (g.D.Disks.view l.disks);
}
