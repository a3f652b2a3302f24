-- The held locks, read off the trace, and clashes.
use Rattle.salt_ast.specs.declared.programs.ProgramDef.{ProgramDef}
use Rattle.salt_ast.specs.declared.trees.Statement.{Statement}
use Rattle.salt_ast.specs.declared.trees.TableDef.{TableDef}
use Rattle.salt_model.specs.After.{kept, reach_now}
use Rattle.salt_model.specs.Kept.{Kept, parts_of, programs_of, schema_of}
use Rattle.salt_model.specs.Programs.{named_early, released_in}
use Rattle.salt_model.specs.Reaches.{table_in}
use Rattle.salt_model.specs.Trace.{Trace, over_events}
use Rattle.salt_model.specs.Units.{Over, Running, Standing, Waiting, kind_of, program_of_kind, standing}
use Rattle.salt_model.specs.Words.{Every, first_of_list}
use Rattle.salt_model.specs.declared.events.End.TheVariants.{Committed}
use Rattle.salt_model.specs.declared.events.Event.TheVariants.{Did, Early}
use Rattle.salt_model.specs.declared.events.Owner.{Owner}
use Rattle.salt_model.specs.declared.events.Owner.TheVariants.{Base, Unit}
use Rattle.salt_model.specs.declared.events.UnitKind.{UnitKind}
use Rattle.salt_model.specs.declared.events.UnitKind.TheVariants.{First, Later}
use Rattle.salt_model.specs.declared.locks.Family.{Family}
use Rattle.salt_model.specs.declared.locks.Family.TheVariants.{Alkaline, Saline}
use Rattle.salt_model.specs.declared.locks.Lock.{Lock}
use Rattle.salt_model.specs.declared.locks.Mode.{Mode}
use Rattle.salt_model.specs.declared.locks.Mode.TheVariants.{Read, Write}
use Rattle.salt_model.specs.declared.locks.Reach.{Reach}
use Rattle.salt_ranges.specs.Ranges.{all_keys, meets}
use Rattle.salt_ast.specs.TokenSpelling.{same_bytes}
use Rattle.salt_values.specs.Id.{has_id, in_order, is_same_id}
use Rattle.salt_values.specs.declared.id.Id.{Id}
use Rattle.std.specs.Bool.{then_some}
use Rattle.std.specs.List.{filter, filter_map, list_any}
use Rattle.std.specs.Prelude.{Bool, List, None, Option, Some, [], false, if◌then◌else◌, map, not, option_and_then, true, ℕ, ◌&&◌, ◌++◌, ◌+◌, ◌==◌, ◌∷◌, ◌≡◌}
use Rattle.std.specs.Option.{option_map_or}
use Rattle.std.specs.Prelude.{option_to_list}

-- a statement done, by its unit, that reached something
pub record Taken : Type 0 where
  pub unit : Id
  pub reach : Reach

abbrev pub taken_by : Id → Option Reach → List Taken
taken_by u o = map (λ r. record { unit = u; reach = r }) (option_to_list o)

-- what the statements done reached, each with the variables that its unit had there
abbrev pub taken_in : Trace → List Taken
taken_in = over_events (λ k. []) (λ trace e ts. elim e [ Did u st answer ↦ ts ++ taken_by u (reach_now u trace st) | _ ↦ ts ])

-- the same, since the last early opening
abbrev pub taken_since : Trace → List Taken
taken_since = over_events (λ k. []) (λ trace e ts. elim e [ Did u st answer ↦ ts ++ taken_by u (reach_now u trace st) | Early bs ↦ [] | _ ↦ ts ])

abbrev pub family_of : Option UnitKind → Family
family_of (Some (First s b n args)) = Alkaline
family_of (Some (Later b part)) = Alkaline
family_of kind = Family.Acid

abbrev pub lock_of : Owner → Family → Reach → Lock
lock_of owner family r = record { owner = owner; family = family; mode = r.mode; table = r.table; range = r.range }

-- the programs that are not released hold the saline locks of their committed subtransactions
abbrev pub is_holding : Trace → Id → Bool
is_holding trace b = not (has_id b (released_in trace))

-- a committed subtransaction's reach is its program's, until that is released
abbrev pub saline_lock : Trace → Option Id → Reach → Option Lock
saline_lock trace o r = option_and_then (λ b. then_some (is_holding trace b) (lock_of (Base b) Saline r)) o

-- an open unit's reach is its own; when it ends otherwise than by a commit, it goes
abbrev pub lock_by : Trace → Taken → Standing → Option UnitKind → Option Lock
lock_by trace t Running kind = Some (lock_of (Unit t.unit) (family_of kind) t.reach)
lock_by trace t Waiting kind = Some (lock_of (Unit t.unit) (family_of kind) t.reach)
lock_by trace t (Over (Committed n)) kind = saline_lock trace (option_and_then program_of_kind kind) t.reach
lock_by trace t s kind = None

abbrev pub as_held : Trace → Taken → Option Lock
as_held trace t = lock_by trace t (standing t.unit trace) (kind_of t.unit trace)

-- a table is a base table where a statement of some BASE program names it
abbrev pub is_of_table : List ℕ → Statement → Bool
is_of_table n st = elim (table_in st) [ None ↦ false | Some m ↦ same_bytes m n ]

abbrev pub names_table : List ℕ → ProgramDef → Bool
names_table n p = list_any (λ part. list_any (is_of_table n) part.block) (parts_of p)

abbrev pub is_base_table : Kept → TableDef → Bool
is_base_table k d = list_any (names_table d.name) (programs_of k)

-- the numbers of the tables that pass a test, the first having this one
abbrev pub numbers_from : ℕ → (TableDef → Bool) → List TableDef → List ℕ
numbers_from n test [] = []
numbers_from n test (d ∷ ds) = if test d then n ∷ numbers_from (n + 1) test ds else numbers_from (n + 1) test ds

abbrev pub base_tables : Kept → List ℕ
base_tables k = numbers_from 0 (is_base_table k) (schema_of k)

abbrev pub cover_lock : Id → ℕ → Lock
cover_lock b n = record { owner = Base b; family = Saline; mode = Write; table = n; range = all_keys }

-- with these programs released and these base tables
abbrev pub cover_of : List Id → List ℕ → Option Id → List Lock
cover_of released tables None = []
cover_of released tables (Some b) = if has_id b released then [] else map (cover_lock b) tables

-- the cover: the first program that the last early opening names holds all keys of each base table to write, until it is released
abbrev pub cover : Trace → List Lock
cover trace = cover_of (released_in trace) (base_tables (kept trace)) (first_of_list (named_early trace))

abbrev pub held : Trace → List Lock
held trace = cover trace ++ filter_map (as_held trace) (taken_since trace)

abbrev pub is_read : Mode → Bool
is_read Read = true
is_read Write = false

-- held, then asked: a saline lock never stands in the way of an alkaline one, and reads share
abbrev pub is_clash : Family → Mode → Family → Mode → Bool
is_clash Saline m Alkaline n = false
is_clash held m asked n = not (is_read m && is_read n)

-- two reaches touch: one table, a key in common, and one of them writes
abbrev pub touches : Reach → Reach → Bool
touches r s = (r.table == s.table) && meets r.range s.range && not (is_read r.mode && is_read s.mode)

abbrev pub is_same_owner : Owner → Owner → Bool
is_same_owner (Unit u) (Unit v) = is_same_id u v
is_same_owner (Base b) (Base c) = is_same_id b c
is_same_owner o p = false

-- two held locks of different owners that may not stand together
abbrev pub may_not_stand_together : Family → Family → Bool
may_not_stand_together Saline Saline = false
may_not_stand_together Saline Alkaline = false
may_not_stand_together Alkaline Saline = false
may_not_stand_together f g = true

abbrev pub reach_of : Lock → Reach
reach_of l = record { table = l.table; range = l.range; mode = l.mode }

abbrev pub conflict : Lock → Lock → Bool
conflict l m = not (is_same_owner l.owner m.owner) && (may_not_stand_together l.family m.family && touches (reach_of l) (reach_of m))

-- no two held locks do
abbrev pub NoneConflict : List Lock → Type 0
NoneConflict ls = Every (λ l. Every (λ m. conflict l m ≡ false) ls) ls

-- a held lock clashes with what the owner asks
abbrev pub clashes : Owner → Family → Reach → Lock → Bool
clashes owner family r lock =
    not (is_same_owner owner lock.owner) && (lock.table == r.table) && meets lock.range r.range && is_clash lock.family lock.mode family r.mode

abbrev pub unit_owner : Lock → Option Id
unit_owner lock = elim lock.owner [ Unit u ↦ Some u | Base b ↦ None ]

abbrev pub base_owner : Lock → Option Id
base_owner lock = elim lock.owner [ Unit u ↦ None | Base b ↦ Some b ]

-- the owners of locks, units before bases, each in order of names
abbrev pub owners_of : List Lock → List Owner
owners_of locks = map Owner.Unit (in_order (filter_map unit_owner locks)) ++ map Owner.Base (in_order (filter_map base_owner locks))

-- the locks that clash with what a unit would reach
abbrev pub clash_locks : Trace → Id → Option UnitKind → Option Reach → List Lock
clash_locks trace u kind o = option_map_or (λ r. filter (clashes (Unit u) (family_of kind) r) (held trace)) o []

-- the owners that clash with a statement of a unit
abbrev pub clashing : Trace → Id → Statement → List Owner
clashing trace u st = owners_of (clash_locks trace u (kind_of u trace) (reach_now u trace st))
