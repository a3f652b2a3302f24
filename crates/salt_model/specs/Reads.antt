-- Who wrote last, who reads from whom, and what is releasable.
use Rattle.salt_model.specs.After.{changes_now, reach_now}
use Rattle.salt_model.specs.Programs.{accepted_in, finished_in, left_out, released_in}
use Rattle.salt_model.specs.Tables.{is_within, place, place_cmp}
use Rattle.salt_model.specs.Trace.{Trace, over_events}
use Rattle.salt_model.specs.Units.{is_of_program, program_of}
use Rattle.salt_model.specs.Words.{shrink, widened}
use Rattle.salt_model.specs.declared.events.End.TheVariants.{Committed}
use Rattle.salt_model.specs.declared.events.Event.TheVariants.{Did, Early, Ended}
use Rattle.salt_model.specs.declared.locks.Reach.{Reach}
use Rattle.salt_model.specs.declared.places.Place.{Place}
use Rattle.salt_values.specs.Id.{has_id, in_order, is_same_id, without}
use Rattle.salt_values.specs.declared.change.Change.{Change}
use Rattle.salt_values.specs.declared.id.Id.{Id}
use Rattle.salt_values.specs.declared.value.Value.{Value}
use Rattle.std.specs.List.{filter, filter_map, find, list_all}
use Rattle.std.specs.Ordering.{is_eq}
use Rattle.std.specs.Prelude.{Bool, List, Option, [], if◌then◌else◌, length, map, not, option_map, ℕ, ◌++◌, ◌||◌, ◌∷◌}
use Rattle.std.specs.Option.{option_map_or}

-- a key that a committed unit changed
pub record Written : Type 0 where
  pub unit : Id
  pub table : ℕ
  pub key : Value

abbrev pub written_by : Id → List Change → List Written
written_by u changes = map (λ c. record { unit = u; table = c.table; key = c.key }) changes

-- the keys that a unit's statements changed, where they were done
abbrev pub wrote_of : Id → Trace → List Written
wrote_of u = over_events (λ k. []) (λ trace e keys. elim e
    [ Did v st answer ↦ (if is_same_id u v then written_by u (changes_now v trace st) ++ keys else keys) | _ ↦ keys ])

-- the keys changed by commits, the latest first
abbrev pub written_in : Trace → List Written
written_in = over_events (λ k. []) (λ trace e keys. elim e [ Ended u (Committed n) ↦ wrote_of u trace ++ keys | _ ↦ keys ])

abbrev pub written_at : Written → Place
written_at w = place w.table w.key

abbrev pub is_written_at : Place → Written → Bool
is_written_at p w = is_eq (place_cmp p (written_at w))

-- who wrote a key last: of the committed units whose statements changed it the one that committed last
abbrev pub last_writer : Trace → Place → Option Id
last_writer trace p = option_map (λ w. w.unit) (find (is_written_at p) (written_in trace))

-- of each key its last writing alone
abbrev pub last_of_each : List Written → List Written
last_of_each [] = []
last_of_each (w ∷ ws) = w ∷ filter (λ v. not (is_written_at (written_at w) v)) (last_of_each ws)

-- the last writers of the keys in a reach
abbrev pub writers_in : Trace → Option Reach → List Id
writers_in trace o = option_map_or (λ r. map (λ w. w.unit) (filter (λ w. is_within r (written_at w)) (last_of_each (written_in trace)))) o []

-- the programs whose subtransactions are among these units
abbrev pub programs_among : Trace → List Id → List Id
programs_among trace us = filter_map (λ u. program_of u trace) us

-- the programs that program b reads from, directly; those that an early opening names count as read from by one another
abbrev pub read_directly : Id → Trace → List Id
read_directly b = over_events (λ k. []) (λ trace e bs. elim e [
  | Did u st answer ↦ (if is_of_program b trace u then without (b ∷ []) (programs_among trace (writers_in trace (reach_now u trace st))) ++ bs else bs)
  | Early names ↦ (if has_id b names then without (b ∷ []) names ++ bs else bs)
  | _ ↦ bs
])

-- b and the programs that it reads from, directly or through programs; a way to one needs no more steps than programs are accepted
abbrev pub sources : Trace → Id → List Id
sources trace b = widened (λ c. read_directly c trace) (length (accepted_in trace)) (b ∷ [])

abbrev pub is_finished : Trace → Id → Bool
is_finished trace b = has_id b (finished_in trace)

-- all that b reads from directly is in bs or released
abbrev pub reads_within : Trace → List Id → Id → Bool
reads_within trace bs b = list_all (λ c. has_id c bs || has_id c (released_in trace)) (read_directly b trace)

-- the finished programs not yet released, in order of names, without those that read from a program that stays out
abbrev pub releasable : Trace → List Id
releasable trace =
    let due = in_order (without (released_in trace) (finished_in trace)) in
    shrink (reads_within trace) (length due) due

-- without those that an early opening leaves out
abbrev pub to_release : Trace → List Id
to_release trace = without (left_out trace) (releasable trace)
