-- What is kept of locks, waits and programs, as the state of an engine has it.
use Rattle.salt_deps.specs.Kept.{dependencies}
use Rattle.law_states.specs.DependencyCalls.{AreSame, marked}
use Rattle.law_states.specs.KeptSources.{Dependencies, Through}
use Rattle.law_states.specs.Members.{In}
use Rattle.law_states.specs.UnitFacts.{UnitFacts}
use Rattle.law_states.specs.WatchSteps.{WatchBy}
use Rattle.law_states.specs.Watches.{Watch}
use Rattle.salt_model.specs.Tables.{place}
use Rattle.salt_model.specs.declared.events.Event.{Event}
use Rattle.salt_model.specs.declared.events.Event.TheVariants.{Accepted, Did, Early, Ended, Finished, Ready, Released, Waits}
use Rattle.salt_model.specs.declared.places.Place.{Place}
use Rattle.salt_values.specs.declared.change.Change.{Change}
use Rattle.salt_values.specs.declared.id.Id.{Id}
use Rattle.salt_conflicts.specs.Waiters.{waiter_of}
use Rattle.salt_conflicts.specs.declared.waiters.Waiter.{Waiter}
use Rattle.salt_conflicts.specs.declared.watching.Watching.{Watching}
use Rattle.std.specs.Prelude.{List, map, ⊤, ◌↔◌, ◌≡◌}

-- its waiting units, the longest first
abbrev pub waiters_of : Watching → List Waiter
waiters_of x = x.waits

-- it is that watch, but for writers, pairs and finished programs, which are these
pub record IsWatchBeside (d : Dependencies) (x : Watching) (w : Watch) : Type 0 where
  pub table : w.table ≡ x.locks
  pub taken : w.taken ≡ x.taken
  pub waits : map waiter_of w.waits ≡ waiters_of x
  pub programs : w.programs ≡ x.programs
  pub dependencies : AreSame d w.dependencies

abbrev pub IsWatch : Watching → Watch → Type 0
IsWatch x w = IsWatchBeside (dependencies x.deps) x w

-- it is that watch but for the mark of a program that has come to its end, which is set when the releases are asked for
abbrev pub IsFinishing : Id → Watching → Watch → Type 0
IsFinishing b x w = IsWatchBeside (marked b (dependencies x.deps)) x w

-- after an event of a unit with these facts
abbrev pub GoesBy : UnitFacts → Event → Watch → Watching → Type 0
GoesBy f e old x = (new : Watch) × WatchBy f e old new × IsWatch x new

-- events that change no lock, wait or program
abbrev pub IsOfNoWatch : Event → Type 0
IsOfNoWatch (Did u st a) = ⊥
IsOfNoWatch (Waits u os) = ⊥
IsOfNoWatch (Ended u end) = ⊥
IsOfNoWatch (Accepted b) = ⊥
IsOfNoWatch (Finished b) = ⊥
IsOfNoWatch (Released bs) = ⊥
IsOfNoWatch Ready = ⊥
IsOfNoWatch (Early bs) = ⊥
IsOfNoWatch e = ⊤

abbrev pub place_of : Change → Place
place_of c = place c.table c.key

-- lists of the programs that each comes to by kept pairs
abbrev pub AreSourcesOf : Dependencies → (Id → List Id) → Type 0
AreSourcesOf d sources = (c b : Id) → In b (sources c) ↔ Through d.reads c b
