-- What is kept of writers, readers and finished programs: of the programs that are neither released nor given up, and no others.
use Rattle.law_states.specs.Members.{In}
use Rattle.salt_model.specs.Programs.{finished_in, passed_in, released_in}
use Rattle.salt_model.specs.Reads.{last_writer, read_directly}
use Rattle.salt_model.specs.Tables.{place}
use Rattle.salt_model.specs.Trace.{Trace, from, ◌asks◌, ◌says◌, ◌turns◌}
use Rattle.salt_model.specs.Units.{kind_of, program_begun, program_of, units_begun}
use Rattle.salt_model.specs.declared.events.End.{End}
use Rattle.salt_model.specs.declared.events.End.TheVariants.{Committed}
use Rattle.salt_model.specs.declared.events.Event.{Event}
use Rattle.salt_model.specs.declared.events.Event.TheVariants.{Early, Ended, Finished, Ready, Released}
use Rattle.salt_model.specs.declared.locks.Reach.{Reach}
use Rattle.salt_model.specs.declared.places.Place.{Place}
use Rattle.salt_ranges.specs.Ranges.{has_key}
use Rattle.salt_values.specs.Id.{has_id}
use Rattle.salt_values.specs.declared.id.Id.{Id}
use Rattle.salt_values.specs.declared.value.Value.{Value}
use Rattle.std.specs.Bool.{then_some}
use Rattle.std.specs.Prelude.{Bool, IsTrue, List, None, Option, Some, [], false, if◌then◌else◌, not, option_and_then, true, ◌++◌, ◌↔◌, ◌∷◌, ◌≡◌, ◌⊎◌}

-- the program that an end gives up: that of a first part which does not commit
abbrev pub given_up : End → Option Id → List Id
given_up (Committed n) p = []
given_up end None = []
given_up end (Some b) = b ∷ []

abbrev pub first_of : Id → Trace → Option Id
first_of u trace = option_and_then program_begun (kind_of u trace)

-- programs whose first part ended without a commit
abbrev pub abandoned_in : Trace → List Id
abandoned_in (from k) = []
abandoned_in (trace asks asked) = abandoned_in trace
abandoned_in (trace turns b) = abandoned_in trace
abandoned_in (trace says Ended u end) = abandoned_in trace ++ given_up end (first_of u trace)
abandoned_in (trace says e) = abandoned_in trace

-- released, or found and not named by an early opening
abbrev pub gone_in : Trace → List Id
gone_in trace = passed_in trace ++ released_in trace

-- neither of them, and not given up
pub record IsKnown (trace : Trace) (b : Id) : Type 0 where
  pub unreleased : has_id b (gone_in trace) ≡ false
  pub kept : has_id b (abandoned_in trace) ≡ false

-- the units that began before the last early opening
abbrev pub begun_early : Trace → List Id
begun_early (from k) = []
begun_early (trace asks asked) = begun_early trace
begun_early (trace turns b) = begun_early trace
begun_early (trace says Early bs) = units_begun trace
begun_early (trace says e) = begun_early trace

-- the program of a unit, until that is released; of a unit that began before an early opening none
abbrev pub live_program : Trace → Id → Option Id
live_program trace u =
    if has_id u (begun_early trace) then None else option_and_then (λ b. then_some (not (has_id b (released_in trace))) b) (program_of u trace)

-- the program that wrote a key last; none where an ACID unit or a released program did
abbrev pub live_writer : Trace → Place → Option Id
live_writer trace p = option_and_then (live_program trace) (last_writer trace p)

-- x reads from y, directly, and neither is forgotten
pub record ReadsLive (trace : Trace) (x y : Id) : Type 0 where
  pub reads : In y (read_directly x trace)
  pub reader : IsKnown trace x
  pub source : has_id y (gone_in trace) ≡ false

-- finished, and not gone
pub record FinishedLive (trace : Trace) (b : Id) : Type 0 where
  pub finished : In b (finished_in trace)
  pub unreleased : has_id b (gone_in trace) ≡ false

-- what an engine keeps of them, seen by tests
pub record Dependencies : Type 0 where
  pub writer : Place → Option Id
  pub reads : Id → Id → Bool
  pub finished : Id → Bool

pub record KeepsDependencies (d : Dependencies) (trace : Trace) : Type 0 where
  pub writer : (p : Place) → d.writer p ≡ live_writer trace p
  pub reads : (x y : Id) → IsTrue (d.reads x y) ↔ ReadsLive trace x y
  pub finished : (b : Id) → IsTrue (d.finished b) ↔ FinishedLive trace b

-- nothing is kept
abbrev pub no_dependencies : Dependencies
no_dependencies = record { writer = λ p. None; reads = λ x y. false; finished = λ b. false }

abbrev pub unless_among : List Id → Option Id → Option Id
unless_among bs o = option_and_then (λ b. then_some (not (has_id b bs)) b) o

-- y is the last writer of a key in the reach
abbrev pub WritesIn : (Place → Option Id) → Option Reach → Id → Type 0
WritesIn writer None y = ⊥
WritesIn writer (Some r) y = (k : Value) × (has_key r.range k ≡ true) × (writer (place r.table k) ≡ Some y)

-- finished programs after an event
abbrev pub FinishedAfter : Event → Dependencies → Id → Type 0
FinishedAfter (Finished c) old b = (c ≡ b) ⊎ IsTrue (old.finished b)
FinishedAfter (Released bs) old b = IsTrue (old.finished b) × (has_id b bs ≡ false)
FinishedAfter Ready old b = ⊥
FinishedAfter (Early bs) old b = ⊥
FinishedAfter e old b = IsTrue (old.finished b)

-- b is c, or reads from it by kept pairs
pub data Through (reads : Id → Id → Bool) : Id → Id → Type 0 where
  itself : {b : Id} → Through reads b b
  through : {b c d : Id} → IsTrue (reads b c) → Through reads c d → Through reads b d

-- b is finished, and so is every program that it reads from by kept pairs
pub record IsDue (d : Dependencies) (b : Id) : Type 0 where
  pub finished : IsTrue (d.finished b)
  pub sources : (c : Id) → Through d.reads b c → IsTrue (d.finished c)
