-- Locks that are taken, clash, become a program's, and go.
use Rattle.law_states.specs.KeptLocks.{Numbered}
use Rattle.salt_locks.specs.Places.{is_near}
use Rattle.salt_locks.specs.Tables.{is_of_another, locks_in, numbers_in, owners_against, put, salted}
use Rattle.salt_locks.specs.Turns.{locks_in_turn}
use Rattle.salt_model.specs.Locks.{lock_of}
use Rattle.salt_model.specs.declared.events.Owner.TheVariants.{Base, Unit}
use Rattle.salt_model.specs.declared.events.Owner.{Owner}
use Rattle.salt_model.specs.declared.locks.Family.TheVariants.{Acid, Alkaline}
use Rattle.salt_model.specs.declared.locks.Family.{Family}
use Rattle.salt_model.specs.declared.locks.Lock.{Lock}
use Rattle.salt_model.specs.declared.locks.Mode.TheVariants.{Read, Write}
use Rattle.salt_model.specs.declared.locks.Mode.{Mode}
use Rattle.salt_model.specs.declared.locks.Reach.{Reach}
use Rattle.salt_values.specs.declared.id.Id.{Id}
use Rattle.salt_values.specs.declared.value.Value.{Value}
use Rattle.std.specs.List.{filter, range_with_len}
use Rattle.std.specs.Prelude.{List, Option, Some, [], map, refl, ℕ, ◌∷◌, ◌≡◌}
use Rattle.rows_texts.specs.Keys.{at, from_to}

abbrev name : ℕ → Id
name n = record { boot = 1; seq = n }

abbrev unit : ℕ → Owner
unit n = Unit (name n)

abbrev program : ℕ → Owner
program n = Base (name n)

-- the keys from one to another of a table
abbrev reach : (table : ℕ) → Mode → (lo hi : ℕ) → Reach
reach table mode lo hi = record { table = table; range = from_to (at lo) (at hi); mode = mode }

abbrev taken : (number : ℕ) → Owner → Family → Reach → List Numbered → List Numbered
taken number owner family r table = put (record { number = number; lock = lock_of owner family r }) table

-- ---- three units have locks, of which one becomes a program's, and two go

abbrev wide : Reach
wide = reach 1 Write 0 9

abbrev three : List Numbered
three = taken 7 (unit 3) Acid (reach 2 Write 0 9) (taken 7 (unit 1) Acid (reach 1 Read 4 5) (taken 7 (unit 2) Alkaline (reach 1 Read 3 4) []))

against_reads : owners_against (unit 9) Acid wide (locks_in three) ≡ unit 1 ∷ unit 2 ∷ []
against_reads = refl

-- reads share
against_a_read : owners_against (unit 1) Acid (reach 1 Read 4 5) (locks_in (taken 7 (unit 2) Alkaline (reach 1 Read 3 4) [])) ≡ []
against_a_read = refl

abbrev with_program : List Numbered
with_program = map (salted (name 2) (name 8)) three

against_a_program : owners_against (unit 9) Acid wide (locks_in with_program) ≡ unit 1 ∷ program 8 ∷ []
against_a_program = refl

-- a program's lock stands in no subtransaction's way
abbrev without_unit : List Numbered
without_unit = filter (is_of_another (unit 1)) with_program

beside_a_program : owners_against (unit 9) Alkaline wide (locks_in without_unit) ≡ []
beside_a_program = refl

abbrev last_two : List Numbered
last_two = filter (is_of_another (program 8)) (taken 7 (unit 9) Alkaline wide without_unit)

the_last_two : map (λ (l : Lock). l.owner) (locks_in last_two) ≡ unit 9 ∷ unit 3 ∷ []
the_last_two = refl

-- ---- locks on keys from 9 down, one for each number from 4 up, of two units in turn

abbrev in_turns : List Numbered
in_turns = taken 7 (unit 1) Acid (reach 1 Write 6 6) (taken 6 (unit 0) Acid (reach 1 Write 7 7) (taken 5 (unit 1) Acid (reach 1 Write 8 8) (taken 4 (unit 0) Acid (reach 1 Write 9 9) [])))

abbrev lower_ends : List Numbered → List (Option Value)
lower_ends table = map (λ (n : Numbered). n.lock.range.lo) table

numbers_of_one : numbers_in (locks_in_turn (unit 1) in_turns) ≡ 5 ∷ 7 ∷ []
numbers_of_one = refl

keys_of_one : lower_ends (locks_in_turn (unit 1) in_turns) ≡ Some (at 8) ∷ Some (at 6) ∷ []
keys_of_one = refl

of_no_one : locks_in_turn (program 1) in_turns ≡ []
of_no_one = refl

they_stand_by_their_keys : lower_ends in_turns ≡ Some (at 6) ∷ Some (at 7) ∷ Some (at 8) ∷ Some (at 9) ∷ []
they_stand_by_their_keys = refl

-- ---- near the key 7 are the locks that begin no later

near_a_key : map (λ (l : Lock). l.range.lo) (filter (is_near 1 (from_to (at 7) (at 7))) (locks_in in_turns)) ≡ Some (at 6) ∷ Some (at 7) ∷ []
near_a_key = refl

-- ---- of a thousand locks, each on a key of its own from 1 up, ten are near the keys up to 10

abbrev on_key : ℕ → Lock
on_key k = lock_of (unit k) Acid (reach 1 Write k k)

abbrev thousand : List Lock
thousand = map on_key (range_with_len 1 1000)

near_ten_keys : filter (is_near 1 (from_to (at 4) (at 10))) thousand ≡ map on_key (1 ∷ 2 ∷ 3 ∷ 4 ∷ 5 ∷ 6 ∷ 7 ∷ 8 ∷ 9 ∷ 10 ∷ [])
near_ten_keys = refl
