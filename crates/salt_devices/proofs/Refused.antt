-- Where an opening refuses what stands on the devices, it writes nothing.
use Rattle.salt_bytes.specs.Generations.{BothBlank}
use Rattle.salt_commit.specs.Openings.{LeavesStanding, MayWrite}
use Rattle.salt_commit.specs.Stores.{reading}
use Rattle.salt_model.specs.Kept.{Definition}
use Rattle.salt_devices.specs.Refusing.{RefusedAs}
use Rattle.salt_disk.specs.Disks.{KeepsAll, View}
use Rattle.salt_disk.specs.declared.disks.DiskErr.TheVariants as disk
use Rattle.salt_disk.specs.declared.disks.DiskErr.{DiskErr}
use Rattle.salt_stands.specs.Coordinator.{coordinator_pair, judge_coordinator}
use Rattle.salt_stands.specs.Stands as opening
use Rattle.salt_stands.specs.Stands.{Found, logs_of, nothing_found, of_coordinator, opening_of}
use Rattle.salt_storage.specs.Answers.{IsRefusal, WritesNothing, open_disk_err_of}
use Rattle.salt_storage.specs.OpenErr.TheVariants as open_err
use Rattle.salt_storage.specs.OpenErr.TheVariants.{NotSalt, NumbersSpent, OtherShape}
use Rattle.salt_storage.specs.OpenErr.{OpenErr}
use Rattle.salt_place.specs.declared.placement.Shape.{Shape}
use Rattle.std.proofs.Common.{List, Option, Some, ap, inl, inr, refl, sym, ℕ, ◌≡◌, ◌∙◌}

-- blank devices are refused by nothing
module _ (shape : Shape) (bytes : ℕ → List ℕ) (blank : coordinator_pair (logs_of bytes) ≡ BothBlank) where
  opens : opening_of reading bytes shape ≡ opening.Stands (nothing_found shape)
  opens = ap (λ pair. of_coordinator reading bytes shape (judge_coordinator reading pair)) blank

  not_refused : (refusal : OpenErr) → IsRefusal refusal → RefusedAs shape bytes refusal → ⊥
  not_refused (NotSalt dev) is told = let both : opening.Stands (nothing_found shape) ≡ opening.NotSalt dev = sym opens ∙ told in cc
  not_refused (OtherShape kept asked) is told = let both : opening.Stands (nothing_found shape) ≡ opening.OtherShape kept asked = sym opens ∙ told in cc
  not_refused (NumbersSpent boot decisions) is told = let both : opening.Stands (nothing_found shape) ≡ opening.NumbersSpent boot decisions = sym opens ∙ told in cc
  not_refused open_err.Failed is told = is
  not_refused open_err.Stopped is told = is
  not_refused (open_err.Full dev) is told = is
  not_refused open_err.Memory is told = is

-- nor is what opens
module _ (shape : Shape) (bytes : ℕ → List ℕ) (found : Found Definition) (stands : opening_of reading bytes shape ≡ opening.Stands found) where
  pub opened_not_refused : (refusal : OpenErr) → IsRefusal refusal → RefusedAs shape bytes refusal → ⊥
  opened_not_refused (NotSalt dev) is told = let both : opening.Stands found ≡ opening.NotSalt dev = sym stands ∙ told in cc
  opened_not_refused (OtherShape kept asked) is told = let both : opening.Stands found ≡ opening.OtherShape kept asked = sym stands ∙ told in cc
  opened_not_refused (NumbersSpent boot decisions) is told = let both : opening.Stands found ≡ opening.NumbersSpent boot decisions = sym stands ∙ told in cc
  opened_not_refused open_err.Failed is told = is
  opened_not_refused open_err.Stopped is told = is
  opened_not_refused (open_err.Full dev) is told = is
  opened_not_refused open_err.Memory is told = is

-- what an opening may write on is refused by nothing
pub may_write : (shape : Shape) (bytes : ℕ → List ℕ) → MayWrite shape bytes → (refusal : OpenErr) → IsRefusal refusal → RefusedAs shape bytes refusal → ⊥
may_write shape bytes (inl blank) refusal is refused = not_refused shape bytes blank refusal is refused
may_write shape bytes (inr stands) refusal is refused = opened_not_refused shape bytes stands.0 stands.1 refusal is refused

-- and on others no opening writes
pub writes_nothing : (d e : View) (shape : Shape) (answer : Option DiskErr) (refusal : OpenErr) → IsRefusal refusal → RefusedAs shape d.bytes refusal
    → (¬ (coordinator_pair (logs_of d.bytes) ≡ BothBlank) → LeavesStanding d e shape answer) → (answer ≡ Some disk.Stopped → MayWrite shape d.bytes) → ((dev : ℕ) → answer ≡ Some (disk.Full dev) → MayWrite shape d.bytes) → WritesNothing d e answer
writes_nothing d e shape answer refusal is refused leaves stopped full = record {
  keeps = by (leaves (λ blank. not_refused shape d.bytes blank refusal is refused));
  unstopped = λ stop. may_write shape d.bytes (stopped stop) refusal is refused;
  not_full = λ dev is_full. may_write shape d.bytes (full dev is_full) refusal is refused;
}
  where
    by : LeavesStanding d e shape answer → KeepsAll d e answer
    by (inl keeps) = keeps
    by (inr s) = absurd (opened_not_refused shape d.bytes s.found s.opens refusal is refused)

pub stopped_err : (err : OpenErr) → open_disk_err_of err ≡ Some disk.Stopped → err ≡ open_err.Stopped
stopped_err (NotSalt dev) stop = absurd (cc stop)
stopped_err (OtherShape kept asked) stop = absurd (cc stop)
stopped_err (NumbersSpent boot decisions) stop = absurd (cc stop)
stopped_err open_err.Failed stop = absurd (cc stop)
stopped_err open_err.Stopped stop = refl
stopped_err (open_err.Full dev) stop = absurd (cc stop)
stopped_err open_err.Memory stop = absurd (cc stop)

pub full_err : (err : OpenErr) (dev : ℕ) → open_disk_err_of err ≡ Some (disk.Full dev) → err ≡ open_err.Full dev
full_err (NotSalt k) dev full = absurd (cc full)
full_err (OtherShape kept asked) dev full = absurd (cc full)
full_err (NumbersSpent boot decisions) dev full = absurd (cc full)
full_err open_err.Failed dev full = absurd (cc full)
full_err open_err.Stopped dev full = absurd (cc full)
full_err (open_err.Full k) dev full = cc full
full_err open_err.Memory dev full = absurd (cc full)
