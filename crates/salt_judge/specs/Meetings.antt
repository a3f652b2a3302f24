-- What is known of what statements done reached, who met it, and which units have committed.
use Rattle.salt_audit.specs.Laws as law
use Rattle.salt_audit.specs.Order.{id_cmp}
use Rattle.salt_model.specs.Isolation.{is_committed_standing}
use Rattle.salt_model.specs.Locks as locks
use Rattle.salt_model.specs.Locks.{taken_in, touches}
use Rattle.salt_model.specs.Trace.{Trace}
use Rattle.salt_model.specs.Units.{Never, Over, Standing, kind_of, program_of, standing}
use Rattle.salt_model.specs.Words.{Every}
use Rattle.salt_model.specs.declared.events.End.TheVariants.{Committed}
use Rattle.salt_model.specs.declared.events.End.{End}
use Rattle.salt_model.specs.declared.events.Event.TheVariants.{Began, Did, Ended, Ready, Released, Waits}
use Rattle.salt_model.specs.declared.events.Event.{Event}
use Rattle.salt_model.specs.declared.locks.Reach.{Reach}
use Rattle.salt_values.specs.Id.{is_same_id}
use Rattle.salt_values.specs.declared.id.Id.{Id}
use Rattle.salt_judge.specs.ReadAfter.{reach_by}
use Rattle.salt_judge.specs.Reads.{is_free, program_in}
use Rattle.salt_verdict.specs.declared.ledger.Ledger.{Ledger}
use Rattle.salt_judge.specs.declared.met.Ending.{Ending}
use Rattle.salt_judge.specs.declared.met.Meetings.{Meetings}
use Rattle.salt_judge.specs.declared.met.Met.{Met}
use Rattle.salt_judge.specs.declared.met.Touch.{Touch}
use Rattle.salt_judge.specs.declared.reads.Reads.{Reads}
use Rattle.std.specs.BTreeMap.{BTreeMap, get}
use Rattle.std.specs.List.{filter}
use Rattle.std.specs.Prelude.{Bool, List, None, Option, Some, [], false, if◌then◌else◌, is_none, is_some, map, not, true, ◌++◌, ◌∷◌, ◌≡◌}

abbrev pub touch_told : Touch → locks.Taken
touch_told t = record { unit = t.unit; reach = t.reach }

abbrev pub met_told : Met → law.Meeting
met_told m = record { acid = m.acid; part = m.part }

abbrev pub is_ending : Option Ending → Bool
is_ending None = false
is_ending (Some d) = d.committed

-- the unit's last event is its commit
abbrev pub has_committed : BTreeMap Id Ending → Id → Bool
has_committed endings u = is_ending (get id_cmp endings u)

-- the unit has ended, and not by a commit
abbrev pub is_given_up : Standing → Bool
is_given_up (Over (Committed n)) = false
is_given_up (Over end) = true
is_given_up s = false

-- what the unit has done may still count, or does
abbrev pub counts : Trace → Id → Bool
counts trace u = not (is_given_up (standing u trace))

abbrev pub counts_met : Trace → law.Meeting → Bool
counts_met trace x = counts trace x.part

-- what was reached that counts
abbrev pub counted : Trace → List locks.Taken
counted trace = filter (λ (t : locks.Taken). counts trace t.unit) (taken_in trace)

-- what the statements of parts of programs reached that are not released
abbrev pub live : Trace → List locks.Taken
live trace = filter (λ (t : locks.Taken). law.is_unreleased trace (program_of t.unit trace)) (counted trace)

abbrev pub HasBegun : Trace → locks.Taken → Type 0
HasBegun trace t = is_some (kind_of t.unit trace) ≡ true

pub record HoldsMeetings (m : Meetings) (trace : Trace) : Type 0 where
  pub taken : live trace ≡ map touch_told m.taken.items
  pub begun : Every (HasBegun trace) (taken_in trace)
  pub fresh : (u : Id) → kind_of u trace ≡ None → standing u trace ≡ Never
  pub met : filter (counts_met trace) (law.meetings trace) ≡ filter (counts_met trace) (map met_told m.met)
  pub committed : (u : Id) → is_committed_standing (standing u trace) ≡ has_committed m.endings u

-- THE STEP

abbrev pub touches_of : Id → Option Reach → List Touch
touches_of u None = []
touches_of u (Some r) = record { unit = u; reach = r } ∷ []

abbrev pub met_as : Id → Touch → Met
met_as a t = record { acid = a; part = t.unit }

-- a statement that reaches this meets what others have done
abbrev pub met_of : Id → Option Reach → List Touch → List Met
met_of a None taken = []
met_of a (Some r) taken = map (met_as a) (filter (λ (t : Touch). touches t.reach r) taken)

abbrev pub met_if_acid : Ledger → Id → Option Reach → List Touch → List Met
met_if_acid l a reach taken = if is_none (program_in l a) then met_of a reach taken else []

-- the program of what has been done is not released, by what is known behind an event
abbrev pub is_live : Ledger → Reads → Touch → Bool
is_live l s t = not (is_free s.released (program_in l t.unit))

abbrev pub is_commit : End → Bool
is_commit (Committed n) = true
is_commit end = false

-- a part that is given up is met no more
abbrev pub taken_by : Event → Ledger → Reads → List Touch → List Touch
taken_by (Ended v end) l s taken = if is_commit end then taken else filter (λ (t : Touch). not (is_same_id t.unit v)) taken
taken_by (Did u st x) l s taken = taken ++ (if is_free s.released (program_in l u) then [] else touches_of u (reach_by l u st))
taken_by (Released bs) l s taken = filter (is_live l s) taken
taken_by Ready l s taken = filter (is_live l s) taken
taken_by e l s taken = taken

abbrev pub met_by : Event → Ledger → List Touch → List Met → List Met
met_by (Did a st x) l taken met = met_if_acid l a (reach_by l a st) taken ++ met
met_by e l taken met = met

abbrev pub committed_by : Event → BTreeMap Id Ending → Id → Bool
committed_by (Began v kind) endings u = if is_same_id u v then false else has_committed endings u
committed_by (Did v st x) endings u = if is_same_id u v then false else has_committed endings u
committed_by (Waits v owners) endings u = if is_same_id u v then false else has_committed endings u
committed_by (Ended v end) endings u = if is_same_id u v then is_commit end else has_committed endings u
committed_by e endings u = has_committed endings u

-- by what was known before an event, and behind it of what is released
pub record IsMetAfter (l : Ledger) (s : Reads) (m n : Meetings) (e : Event) : Type 0 where
  pub taken : n.taken.items ≡ taken_by e l s m.taken.items
  pub met : n.met ≡ met_by e l m.taken.items m.met
  pub committed : (u : Id) → has_committed n.endings u ≡ committed_by e m.endings u

-- THE JUDGE

-- the ACID units that met what a part has done that has committed
abbrev pub unwhole_by : Meetings → List Id
unwhole_by m = map (λ (x : Met). x.acid) (filter (λ (x : Met). has_committed m.endings x.part) m.met)
