-- Which units break a law at an event: the printed answers, what ACID units read, and what they see of programs in parts.
use Rattle.salt_model.specs.Tables.{is_within}
use Rattle.std.specs.Option.{option_map_or}
use Rattle.salt_audit.specs.Retelling.{told}
use Rattle.salt_model.specs.After.{reach_now, run_of}
use Rattle.salt_model.specs.EventTexts.{cause_text}
use Rattle.salt_model.specs.Honest.{cause_among}
use Rattle.salt_model.specs.Isolation.{is_committed_standing, is_program_released}
use Rattle.salt_model.specs.Locks.{taken_in, touches}
use Rattle.salt_model.specs.Reads.{Written, last_of_each, written_at}
use Rattle.salt_model.specs.Trace.{Trace, from, ◌asks◌, ◌says◌, ◌turns◌}
use Rattle.salt_model.specs.Units.{answers_of, open_units, program_of, standing, units_begun, is_of_program}
use Rattle.salt_model.specs.Waiting.{is_acid}
use Rattle.salt_model.specs.Words.{first_of_list, widened}
use Rattle.salt_model.specs.declared.events.Answer.TheVariants as answer
use Rattle.salt_model.specs.declared.events.Answer.{Answer}
use Rattle.salt_model.specs.declared.events.Cause.{Cause}
use Rattle.salt_model.specs.declared.events.End.TheVariants as end
use Rattle.salt_model.specs.declared.events.End.{End}
use Rattle.salt_model.specs.declared.events.Event.TheVariants.{Did, Ended}
use Rattle.salt_model.specs.declared.events.Event.{Event}
use Rattle.salt_model.specs.declared.locks.Reach.{Reach}
use Rattle.salt_model.specs.declared.places.Place.{Place}
use Rattle.salt_ast.specs.TokenSpelling.{same_bytes}
use Rattle.salt_values.specs.Id.{has_id, in_order, is_same_id}
use Rattle.salt_values.specs.Value.{is_same_value}
use Rattle.salt_values.specs.declared.id.Id.{Id}
use Rattle.salt_values.specs.declared.value.Value.{Value}
use Rattle.std.specs.List.{filter, list_all}
use Rattle.std.specs.Prelude.{Bool, IsTrue, List, None, Option, Some, [], false, if◌then◌else◌, is_none, is_some, length, map, not, true, ⊤, ◌&&◌, ◌++◌, ◌==◌, ◌||◌, ◌∷◌}

-- HONEST

abbrev pub is_same_cell : Option Value → Option Value → Bool
is_same_cell None None = true
is_same_cell (Some v) (Some w) = is_same_value v w
is_same_cell None (Some w) = false
is_same_cell (Some v) None = false

abbrev pub same_all : {A : Type 0} → (A → A → Bool) → List A → List A → Bool
same_all same [] [] = true
same_all same (x ∷ xs) (y ∷ ys) = same x y && same_all same xs ys
same_all same [] (y ∷ ys) = false
same_all same (x ∷ xs) [] = false

abbrev pub is_same_cause : Cause → Cause → Bool
is_same_cause c d = same_bytes (cause_text c) (cause_text d)

abbrev pub is_same_answer : Answer → Answer → Bool
is_same_answer (answer.Count n) (answer.Count m) = n == m
is_same_answer (answer.Rows rows) (answer.Rows others) = same_all (same_all is_same_value) rows others
is_same_answer (answer.Cell v) (answer.Cell w) = is_same_cell v w
is_same_answer (answer.Stored v) (answer.Stored w) = is_same_value v w
is_same_answer answer.Held answer.Held = true
is_same_answer (answer.Failed c) (answer.Failed d) = is_same_cause c d
is_same_answer a b = false

-- the unit's answers are those of doing its statements one after another on the tables of the commits so far
abbrev pub replays : Trace → Id → Bool
replays trace u = same_all is_same_answer (answers_of u trace) (run_of u trace).answers

abbrev pub fits_end : End → Option Cause → Bool
fits_end (end.Committed n) cause = is_none cause
fits_end (end.Failed c) None = false
fits_end (end.Failed c) (Some d) = is_same_cause c d
fits_end (end.Branched n c) None = false
fits_end (end.Branched n c) (Some d) = is_same_cause c d
fits_end end.Cut cause = true
fits_end end.RolledBack cause = is_none cause
fits_end end.Victim cause = is_none cause

-- a failed answer is a unit's last, and its end says so
abbrev pub fails_amiss : Trace → Event → List Id
fails_amiss trace (Did u st a) = if is_some (cause_among (answers_of u trace)) then u ∷ [] else []
fails_amiss trace (Ended u e) = if fits_end e (cause_among (answers_of u trace)) then [] else u ∷ []
fails_amiss trace e = []

abbrev pub dishonest : Trace → Event → List Id
dishonest trace e = let after = told trace e in filter (λ u. not (replays after u)) (open_units after) ++ fails_amiss trace e

-- SALTED: who wrote a key last is told by the changes that committed units made, done anew where they committed.

abbrev pub written_from : Id → List (Place × Option (List Value)) → List Written
written_from u edits = map (λ d. record { unit = u; table = d.0.table; key = d.0.key }) edits

-- the keys changed by commits, the latest first
abbrev pub changed_in : Trace → List Written
changed_in (from k) = []
changed_in (trace asks asked) = changed_in trace
changed_in (trace turns b) = changed_in trace
changed_in (trace says Ended u (end.Committed n)) = written_from u (run_of u trace).changes.list ++ changed_in trace
changed_in (trace says e) = changed_in trace

-- the last writers of the keys in a reach
abbrev pub changers_in : Trace → Option Reach → List Id
changers_in trace None = []
changers_in trace (Some r) = map (λ w. w.unit) (filter (λ w. is_within r (written_at w)) (last_of_each (changed_in trace)))

-- the units that u reads from
abbrev pub read_from : Id → Trace → List Id
read_from u (from k) = []
read_from u (trace asks asked) = read_from u trace
read_from u (trace turns b) = read_from u trace
read_from u (trace says Did v st a) = if is_same_id u v then changers_in trace (reach_now v trace st) ++ read_from u trace else read_from u trace
read_from u (trace says e) = read_from u trace

-- u reads from v, or they are subtransactions of one program
abbrev pub is_tied : Trace → Id → Id → Bool
is_tied trace u v = has_id v (read_from u trace) || option_map_or (λ b. is_of_program b trace v) (program_of u trace) false

-- a chain from u: each unit is tied to the next
abbrev pub Tied : Trace → Id → List Id → Type 0
Tied trace u [] = ⊤
Tied trace u (v ∷ vs) = IsTrue (is_tied trace u v) × Tied trace v vs

-- each program with a subtransaction in a chain from a is released before the event
abbrev pub ReadsWhatIsReleased : Trace → Event → Type 0
ReadsWhatIsReleased trace (Did a st x) =
    IsTrue (is_acid trace a) → (chain : List Id) → Tied (trace says Did a st x) a chain →
    IsTrue (list_all (λ u. is_program_released trace (program_of u trace)) chain)
ReadsWhatIsReleased trace e = ⊤

-- the same as a test: the units in all chains from a
abbrev pub in_chains : Trace → Id → List Id
in_chains trace a = widened (λ u. filter (is_tied trace u) (units_begun trace)) (length (units_begun trace)) (a ∷ [])

abbrev pub unsalted : Trace → Event → List Id
unsalted trace (Did a st x) =
    if is_acid trace a && not (list_all (λ u. is_program_released trace (program_of u trace)) (in_chains (trace says Did a st x) a)) then a ∷ [] else []
unsalted trace e = []

-- WHOLE: an ACID unit's statement met what a part had done, of a program that was not released there.

pub record Meeting : Type 0 where
  pub acid : Id
  pub part : Id

abbrev pub is_unreleased : Trace → Option Id → Bool
is_unreleased trace p = not (is_program_released trace p)

abbrev pub met_by : Trace → Id → Option Reach → List Meeting
met_by trace a None = []
met_by trace a (Some r) =
    map (λ t. record { acid = a; part = t.unit }) (filter (λ t. touches t.reach r && is_unreleased trace (program_of t.unit trace)) (taken_in trace))

abbrev pub meetings : Trace → List Meeting
meetings (from k) = []
meetings (trace asks asked) = meetings trace
meetings (trace turns b) = meetings trace
meetings (trace says Did a st x) = if is_acid trace a then met_by trace a (reach_now a trace st) ++ meetings trace else meetings trace
meetings (trace says e) = meetings trace

-- the part has committed, before or behind the meeting
abbrev pub is_of_committed : Trace → Meeting → Bool
is_of_committed trace m = is_committed_standing (standing m.part trace)

abbrev pub unwhole : Trace → Event → List Id
unwhole trace e = let after = told trace e in map (λ m. m.acid) (filter (is_of_committed after) (meetings after))

abbrev pub least_of : List Id → Option Id
least_of ids = first_of_list (in_order ids)
