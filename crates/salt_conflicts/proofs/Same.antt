-- A watch is the one that is kept, but for the statements of the units that wait.
use Rattle.law_states.proofs.Closures.{same-bool}
use Rattle.law_states.specs.DependencyCalls.{AreSame}
use Rattle.law_states.specs.KeptSources.{Dependencies}
use Rattle.law_states.specs.KeptWaits.{Asker}
use Rattle.law_states.specs.Watches.{Watch}
use Rattle.salt_conflicts.specs.Watched.{IsWatchBeside}
use Rattle.salt_conflicts.specs.declared.watching.Watching.{Watching}
use Rattle.std.specs.Prelude.{List, refl, ◌≡◌}

-- what has the same tests is the same
pub same-dependencies : (d e : Dependencies) → AreSame d e → e ≡ d
same-dependencies d e s = λ i. record {
  writer = λ q. s.writer q i;
  reads = λ x y. same-bool (e.reads x y) (d.reads x y) (s.reads x y).0 (s.reads x y).1 i;
  finished = λ b. same-bool (e.finished b) (d.finished b) (s.finished b).0 (s.finished b).1 i;
}

pub itself : (d : Dependencies) → AreSame d d
itself d = record { writer = λ q. refl; reads = λ x y. ((λ h. h), (λ h. h)); finished = λ b. ((λ h. h), (λ h. h)) }

abbrev pub watch_beside : Dependencies → Watching → List Asker → Watch
watch_beside d x ws = record { table = x.locks; taken = x.taken; waits = ws; programs = x.programs; dependencies = d }

pub same-watch : (d : Dependencies) (x : Watching) (w : Watch) → IsWatchBeside d x w → w ≡ watch_beside d x w.waits
same-watch d x w s = λ i. record {
  table = s.table i;
  taken = s.taken i;
  waits = w.waits;
  programs = s.programs i;
  dependencies = same-dependencies d w.dependencies s.dependencies i;
}
