-- What calls leave, one after another.
use Rattle.salt_disk.specs.Disks.{IsUnchanged, KeepsAll, UnlessDown, View}
use Rattle.salt_disk.specs.declared.disks.DiskErr.TheVariants.{Failed, Full, Memory, Stopped}
use Rattle.salt_disk.specs.declared.disks.DiskErr.{DiskErr}
use Rattle.salt_bytes.specs.Partition.{Prepared}
use Rattle.salt_disk.specs.Disks.{HasCause, KeepsBut}
use Rattle.salt_gatelog.specs.Entry.{HasMoved}
use Rattle.salt_gatelog.specs.Log.{IsLog}
use Rattle.salt_gatelog.specs.declared.log.GateLog.{GateLog}
use Rattle.salt_bytes.specs.Spellable.{Every}
use Rattle.salt_partition.specs.Contents.{ArePut}
use Rattle.salt_stands.specs.PartitionLog.{gathered}
use Rattle.std.proofs.Common.{Bool, IsTrue, List, [], drop, Err, None, Ok, Option, Result, Some, ℕ, ◌≡◌}
use Rattle.std.specs.Prelude.{OnOk}
use Rattle.std.specs.Result.{result_err}

pub on_ok : {A : Type 0} (touched : ℕ → Type 0) (d e : View) (r : Result A DiskErr) (P Q : Type 0) → OnOk r P → KeepsBut touched d e (result_err r) → (P → KeepsBut touched d e None → Q) → OnOk r Q
on_ok touched d e (Ok a) P Q h others f = f h others
on_ok touched d e (Err error) P Q h others f = tt

-- after a call that writes nothing each device is as it was
pub unchanged : (d e : View) → KeepsAll d e None → (dev : ℕ) → IsUnchanged d e dev
unchanged d e keeps dev = keeps.kept dev (λ none. none)

pub unless : (d e : View) (answer : Option DiskErr) (P Q : Type 0) → KeepsAll d e answer → UnlessDown answer P → (((dev : ℕ) → IsUnchanged d e dev) → P → Q) → UnlessDown answer Q
unless d e None P Q keeps h f = f (λ dev. keeps.kept dev (λ none. none)) h
unless d e (Some Failed) P Q keeps h f = tt
unless d e (Some Stopped) P Q keeps h f = tt
unless d e (Some (Full n)) P Q keeps h f = f (λ dev. keeps.kept dev (λ none. none)) h
unless d e (Some Memory) P Q keeps h f = f (λ dev. keeps.kept dev (λ none. none)) h

-- how far the entries of a log are read
pub record ReadSoFar (d0 d : View) (log now : GateLog) (nulls : Bool) (units : List Prepared) (i : ℕ) : Type 0 where
  pub is_log : (entries : List (List ℕ)) → IsLog d0 log entries → IsLog d now entries
  pub same : HasMoved log now
  pub keeps : KeepsAll d0 d None
  pub cause : HasCause d0 d None
  pub put : Every ArePut units
  pub so_far : (entries : List (List ℕ)) → IsLog d0 log entries → IsTrue d0.told → gathered nulls (Some units) (drop i entries) ≡ gathered nulls (Some []) (drop 1 entries)
