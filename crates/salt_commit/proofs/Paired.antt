-- What a pair of logs answers, as an opening of the store answers it.
use Rattle.salt_disk.specs.Disks.{FullWhere}
use Rattle.salt_bytes.specs.Generations.{BothBlank, Pair}
use Rattle.salt_commit.specs.Openings.{OpeningFails}
use Rattle.salt_commit.specs.Stores.{reading}
use Rattle.salt_gatelog.specs.Answers.{open_disk_err_of, open_disk_err, open_err_of_pair}
use Rattle.salt_decisions.specs.Opened.{PeekFails, Peeks}
use Rattle.salt_decisions.specs.declared.kept.Kept.{Kept}
use Rattle.salt_gatelog.specs.declared.unopened.OpenErr.{OpenErr}
use Rattle.salt_disk.specs.declared.disks.DiskErr.TheVariants.{Failed, Full, Memory, Stopped}
use Rattle.salt_gatelog.specs.Pair.{pair_err_of}
use Rattle.salt_gatelog.specs.declared.pair.PairErr.TheVariants.{Disk, NotSalt}
use Rattle.salt_gatelog.specs.declared.pair.PairErr.{PairErr}
use Rattle.salt_place.specs.declared.placement.Shape.{Shape}
use Rattle.salt_stands.specs.Coordinator.{coordinator_pair, judge_coordinator}
use Rattle.salt_stands.specs.CoordinatorLog.{CoordinatorLog}
use Rattle.salt_stands.specs.Stands as opening
use Rattle.salt_stands.specs.Stands.{logs_of, of_coordinator}
use Rattle.std.proofs.Common.{Err, List, None, Ok, Option, Result, Some, ap, false, refl, sym, true, ℕ, ◌≡◌, ◌∙◌}
use Rattle.std.specs.Option.{is_some}

pub err_of_pair : (e : PairErr) → open_disk_err_of (open_err_of_pair e) ≡ pair_err_of e
err_of_pair (NotSalt dev) = refl
err_of_pair (Disk Failed) = refl
err_of_pair (Disk Stopped) = refl
err_of_pair (Disk (Full dev)) = refl
err_of_pair (Disk Memory) = refl

pub pair_answer : {T : Type 0} (result : Result T OpenErr) (s : OpenErr) (e : PairErr) → result ≡ Err s → s ≡ open_err_of_pair e → open_disk_err result ≡ pair_err_of e
pair_answer result s e is from = ap open_disk_err is ∙ ap open_disk_err_of from ∙ err_of_pair e

-- the coordinator's
pub peek_refused : (asked : Shape) (bytes : ℕ → List ℕ) (e : PairErr) → PeekFails e (coordinator_pair (logs_of bytes)) → OpeningFails asked bytes (open_err_of_pair e)
peek_refused asked bytes (NotSalt dev) f = ap (λ pr. of_coordinator reading bytes asked (judge_coordinator reading pr)) f.is ∙ ap opening.NotSalt (sym f.device)
peek_refused asked bytes (Disk Failed) f = tt
peek_refused asked bytes (Disk Stopped) f = absurd f
peek_refused asked bytes (Disk (Full dev)) f = absurd f
peek_refused asked bytes (Disk Memory) f = tt

-- nothing is written
pub peek_full : (P : ℕ → Type 0) (pair : Pair CoordinatorLog) (e : PairErr) → PeekFails e pair → FullWhere P (pair_err_of e)
peek_full P pair (NotSalt dev) f = tt
peek_full P pair (Disk Failed) f = tt
peek_full P pair (Disk Stopped) f = absurd f
peek_full P pair (Disk (Full dev)) f = absurd f
peek_full P pair (Disk Memory) f = tt

-- where no log is found
pub none_found : (o : Option (Shape × Kept)) (pair : Pair CoordinatorLog) → is_some o ≡ false → Peeks (Ok o) pair → pair ≡ BothBlank
none_found None pair none h = h
none_found (Some found) pair none h = absurd (wrong none)
  where
    wrong : true ≡ false → ⊥
    wrong e = cc
