-- All of it together: what an engine keeps of locks, waits and programs.
use Rattle.law_states.specs.KeptLocks.{AreBelow, KeepsLocks, Numbered}
use Rattle.law_states.specs.KeptSources.{Dependencies, KeepsDependencies, no_dependencies}
use Rattle.law_states.specs.KeptWaits.{Asker, waiting}
use Rattle.salt_model.specs.Locks.{held}
use Rattle.salt_model.specs.Programs.{unreleased}
use Rattle.salt_model.specs.Trace.{Trace}
use Rattle.salt_values.specs.declared.id.Id.{Id}
use Rattle.std.specs.Prelude.{List, [], ℕ, ◌≡◌}

-- a table of numbered locks and how many were taken, the waiting units, the unreleased programs, and writers, pairs and finished programs
pub record Watch : Type 0 where
  pub table : List Numbered
  pub taken : ℕ
  pub waits : List Asker
  pub programs : List Id
  pub dependencies : Dependencies

-- it is that of a trace
pub record Watches (w : Watch) (trace : Trace) : Type 0 where
  pub locks : KeepsLocks w.table (held trace)
  pub numbers : AreBelow w.taken w.table
  pub waits : waiting trace ≡ w.waits
  pub programs : unreleased trace ≡ w.programs
  pub dependencies : KeepsDependencies w.dependencies trace

-- nothing is watched, whatever the next number is
abbrev pub empty_watch : ℕ → Watch
empty_watch n = record { table = []; taken = n; waits = []; programs = []; dependencies = no_dependencies }
