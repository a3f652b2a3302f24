use Rattle.salt_disk.specs.Disks.{stops_left}
use Rattle.salt_model.specs.Kept.{Kept}
use Rattle.salt_driver.proofs.finding.find.Given as goal
use Rattle.salt_driver.specs.Counting.{CountsOpening}
use Rattle.salt_driver.specs.Opening.{IsUnfound}
use Rattle.salt_storage.specs.Answers.{IsRefusal}
use Rattle.salt_storage.specs.Writing.{FindsNoMore}
use Rattle.salt_storage.specs.Staying.{StaysWithin}
use Rattle.salt_storage.specs.OpenErr.{OpenErr}
use Rattle.std.specs.Prelude.{IsTrue, None, [], ◌≡◌, ◌⊎◌}

abbrev pub invariant-stops : goal.invariant-stops
invariant-stops g l = record {
  unopened : g.S.Storage.unopened l.storage;
  settled : g.S.Storage.settled (g.D.Disks.view l.disks) l.storage;
  unfound : IsUnfound l.story;
  less : FindsNoMore (g.S.Storage.refuses (g.D.Disks.view l.fn.disks) l.fn.storage) (g.S.Storage.finds (g.D.Disks.view l.fn.disks) l.fn.storage)
      (g.S.Storage.refuses (g.D.Disks.view l.disks) l.storage) (g.S.Storage.finds (g.D.Disks.view l.disks) l.storage);
  counts : CountsOpening (g.D.Disks.view l.fn.disks) (g.D.Disks.view l.disks) None [] l.story;
  untold : (l.story ≡ []) ⊎ g.S.Storage.tried (g.D.Disks.view l.disks) l.storage;
  finds : (k : Kept) → g.S.Storage.finds (g.D.Disks.view l.fn.disks) l.fn.storage k → g.S.Storage.finds (g.D.Disks.view l.disks) l.storage k;
  untouched : ((l.disks ≡ l.fn.disks) × (l.storage ≡ l.fn.storage) × (l.story ≡ [])) ⊎
      ((refusal : OpenErr) → IsRefusal refusal → g.S.Storage.refuses (g.D.Disks.view l.fn.disks) l.fn.storage refusal → IsTrue (g.D.Disks.view l.fn.disks).told → ⊥);
  within : StaysWithin (g.S.Storage.asked l.fn.storage) (g.S.Storage.asked l.storage) (g.D.Disks.view l.fn.disks) (g.D.Disks.view l.disks);
}

abbrev pub decreases-stops : goal.decreases-stops
decreases-stops g l = stops_left (g.D.Disks.view l.disks)
