-- The tables of held locks, and of the locks that a story shows, are tables of the schema.
use Rattle.salt_ast.specs.declared.trees.Statement.{Statement}
use Rattle.salt_ast.specs.declared.trees.TableDef.{TableDef}
use Rattle.law_states.proofs.LocksAfter.{filter_map-append, held-asks, held-says, held-turns}
use Rattle.law_states.specs.KeptLocks.{is_base_among, is_owned_by, lock_taken, saline_of}
use Rattle.law_states.specs.UnitFacts.{UnitFacts, facts_at}
use Rattle.salt_model.specs.declared.events.Owner.TheVariants.{Unit}
use Rattle.law_states.specs.WatchSteps.{base_by, fate_by, lock_fate, lock_won}
use Rattle.law_story.proofs.Lists.{in-cases, in-filter_map}
use Rattle.law_states.specs.Members.{In}
use Rattle.salt_model.specs.After.{branched, committed, defined_by, kept, reach_now, run_of, stage, stage_run}
use Rattle.salt_model.specs.Eval.{value_of}
use Rattle.salt_model.specs.Statements.{UnitRun}
use Rattle.salt_model.specs.Kept.{Kept, WellKept, schema_of, table_of_definition}
use Rattle.salt_model.specs.Locks.{base_tables, cover_lock, cover_of, held, is_base_table, numbers_from}
use Rattle.salt_model.specs.Played.{IsPlayed}
use Rattle.salt_model.specs.Reaches.{first_value, key_reached, no_row, range_of, reach, reach_in, reached, table_for, table_from, table_in}
use Rattle.salt_model.specs.Trace.{Trace, from, line_of, start_of, ◌asks◌, ◌says◌, ◌turns◌}
use Rattle.salt_model.specs.Units.{kind_of}
use Rattle.salt_model.specs.Words.{first_of_list}
use Rattle.salt_model.specs.declared.events.Cause.{Cause}
use Rattle.salt_model.specs.declared.events.End.TheVariants.{Branched, Committed}
use Rattle.salt_model.specs.declared.events.Event.TheVariants.{Defined, Did, Early, Ended, Ready, Released}
use Rattle.salt_model.specs.declared.events.Event.{Event}
use Rattle.salt_model.specs.declared.events.UnitKind.{UnitKind}
use Rattle.salt_model.specs.declared.locks.Mode.{Mode}
use Rattle.salt_model.specs.declared.locks.Mode.TheVariants.{Read, Write}
use Rattle.salt_model.specs.declared.vars.Binding.{Binding}
use Rattle.salt_ranges.specs.Ranges.{is_range_empty}
use Rattle.salt_ranges.specs.declared.range.KeyRange.{KeyRange}
use Rattle.salt_ast.specs.declared.trees.Statement.TheVariants.{Delete, Ensure, Insert, Select, SelectInto, Update}
use Rattle.salt_values.specs.declared.value.Value.{Value}
use Rattle.salt_model.specs.declared.locks.Lock.{Lock}
use Rattle.salt_model.specs.declared.locks.Reach.{Reach}
use Rattle.law_types.specs.Growing.{Grows}
use Rattle.salt_ast.specs.TokenSpelling.{same_bytes}
use Rattle.salt_values.specs.declared.id.Id.{Id}
use Rattle.std.proofs.Common.{ap, append-nil, arith, inl, inr, length-append, subst, sym, ◌∙◌}
use Rattle.std.specs.Bool.{then_some}
use Rattle.std.specs.List.{filter_map}
use Rattle.std.specs.Prelude.{Bool, Err, List, None, Ok, Option, Result, Some, [], cond, false, length, map, not, option_and_then, option_map, refl, true, ℕ, ◌+◌, ◌<◌, ◌∷◌, ◌≡◌, ◌⊎◌}

from-within : (n : ℕ) (name : List ℕ) (schema : List TableDef) (x : ℕ × TableDef) → table_from n name schema ≡ Some x → x.0 < n + length schema
from-within n name [] x h = cc
from-within n name (d ∷ ds) x h = by (same_bytes name d.name) h (from-within (n + 1) name ds x)
  where
    here : (n, d) ≡ x → x.0 < n + length (d ∷ ds)
    here e = subst (λ (y : ℕ × TableDef). y.0 < n + length (d ∷ ds)) e (omega arith)

    by : (t : Bool) → cond t (Some (n, d)) (table_from (n + 1) name ds) ≡ Some x → (table_from (n + 1) name ds ≡ Some x → x.0 < (n + 1) + length ds) →
        x.0 < n + length (d ∷ ds)
    by true e more = here (ap (λ o. elim o [ None ↦ (n, d) | Some y ↦ y ]) e)
    by false e more = let m = more e in omega arith

range-at : (t : ℕ) (mode : Mode) (o : Result KeyRange Cause) (r : Reach) → reached t mode o ≡ Some r → t ≡ r.table
range-at t mode (Err c) r h = cc
range-at t mode (Ok g) r h = by (is_range_empty g) h
  where
    some : record { table = t; range = g; mode = mode } ≡ r → t ≡ r.table
    some e = ap (λ (x : Reach). x.table) e

    by : (b : Bool) → cond b None (Some (record { table = t; range = g; mode = mode })) ≡ Some r → t ≡ r.table
    by true h = cc
    by false h = some (ap (λ o. elim o [ None ↦ record { table = t; range = g; mode = mode } | Some x ↦ x ]) h)

key-at : (t : ℕ) (mode : Mode) (o : Result Value Cause) (r : Reach) → key_reached t mode o ≡ Some r → t ≡ r.table
key-at t mode (Err c) r h = cc
key-at t mode (Ok k) r h = ap (λ (o : Option Reach). elim o [ None ↦ t | Some x ↦ x.table ]) h

in-table : (t : ℕ) (vars : List Binding) (st : Statement) (r : Reach) → reach_in t vars st ≡ Some r → t ≡ r.table
in-table t vars (Insert name es) r h = key-at t Write (first_value vars es) r h
in-table t vars (Select what name scan) r h = range-at t Read (range_of vars scan.bound) r h
in-table t vars (SelectInto c v name key) r h = key-at t Read (value_of (no_row vars) key) r h
in-table t vars (Update name sets scan) r h = range-at t Write (range_of vars scan.bound) r h
in-table t vars (Delete name scan) r h = range-at t Write (range_of vars scan.bound) r h
in-table t vars (Ensure e) r h = cc

table-within : (schema : List TableDef) (st : Statement) (x : ℕ × TableDef) → table_for schema st ≡ Some x → x.0 < length schema
table-within schema st x h = by (table_in st) h
  where
    by : (o : Option (List ℕ)) → option_and_then (λ name. table_from 0 name schema) o ≡ Some x → x.0 < length schema
    by None h = cc
    by (Some name) h = let w = from-within 0 name schema x h in omega arith

pub reach-within : (schema : List TableDef) (vars : List Binding) (st : Statement) (r : Reach) → reach schema vars st ≡ Some r → r.table < length schema
unfolding reach
reach-within schema vars st r h = by (table_for schema st) refl h
  where
    by : (o : Option (ℕ × TableDef)) → table_for schema st ≡ o → option_and_then (λ (d : ℕ × TableDef). reach_in d.0 vars st) o ≡ Some r → r.table < length schema
    by None e h = cc
    by (Some d) e h = subst (λ t. t < length schema) (in-table d.0 vars st r h) (table-within schema st d e)

same : (schema : List TableDef) → Grows schema schema
same schema = record { more = []; is = sym (append-nil schema) }

committed-same : (k : Kept) (n : ℕ) (o : Option UnitKind) (run : UnitRun) → schema_of (committed k n o run) ≡ schema_of k
committed-same k n o run = refl

branched-same : (k : Kept) (n : ℕ) (o : Option UnitKind) → schema_of (branched k n o) ≡ schema_of k
branched-same k n None = refl
branched-same k n (Some kind) = refl

pub schema-grows : (trace : Trace) (e : Event) → Grows (schema_of (kept trace)) (schema_of (kept (trace says e)))
schema-grows trace (Ended u (Committed n)) =
    subst (Grows (schema_of (kept trace))) (sym (committed-same (kept trace) n (kind_of u trace) (stage_run (stage trace) u trace))) (same (schema_of (kept trace)))
schema-grows trace (Ended u (Branched n c)) =
    subst (Grows (schema_of (kept trace))) (sym (branched-same (kept trace) n (kind_of u trace))) (same (schema_of (kept trace)))
schema-grows trace (Defined n text) =
    record { more = filter_map table_of_definition (defined_by (line_of trace)); is = filter_map-append table_of_definition (kept trace).definitions (defined_by (line_of trace)) }
schema-grows trace e = same (schema_of (kept trace))

pub longer : (old new : List TableDef) (n : ℕ) → Grows old new → n < length old → n < length new
longer old new n g h =
    let l : length new ≡ length old + length g.more = ap length g.is ∙ length-append old g.more in
    omega arith

-- held locks

kept-table : (t : Bool) (x l : Lock) → then_some t x ≡ Some l → x.table ≡ l.table
kept-table true x l h = ap (λ (y : Option Lock). elim y [ None ↦ x.table | Some z ↦ z.table ]) h
kept-table false x l h = cc

fate-table : (facts : UnitFacts) (e : Event) (x l : Lock) → fate_by facts e x ≡ Some l → x.table ≡ l.table
fate-table facts (Ended u (Committed n)) x l h = by (is_owned_by (Unit u) x) (base_by facts) h
  where
    by : (t : Bool) (o : Option Id) → cond t (option_map (λ b. saline_of b x) o) (Some x) ≡ Some l → x.table ≡ l.table
    by true None h = cc
    by true (Some b) h = ap (λ (y : Option Lock). elim y [ None ↦ x.table | Some z ↦ z.table ]) h
    by false o h = ap (λ (y : Option Lock). elim y [ None ↦ x.table | Some z ↦ z.table ]) h
fate-table facts (Ended u end) x l h = kept-table (not (is_owned_by (Unit u) x)) x l h
fate-table facts (Released bs) x l h = kept-table (not (is_base_among bs x.owner)) x l h
fate-table facts Ready x l h = cc
fate-table facts e x l h = ap (λ (y : Option Lock). elim y [ None ↦ x.table | Some z ↦ z.table ]) h

numbers-within : (n : ℕ) (test : TableDef → Bool) (ds : List TableDef) (m : ℕ) → In m (numbers_from n test ds) → m < n + length ds
numbers-within n test [] m i = absurd i
numbers-within n test (d ∷ ds) m i = by (test d) i (numbers-within (n + 1) test ds m)
  where
    by : (t : Bool) → In m (cond t (n ∷ numbers_from (n + 1) test ds) (numbers_from (n + 1) test ds)) → (In m (numbers_from (n + 1) test ds) → m < (n + 1) + length ds) →
        m < n + length (d ∷ ds)
    by true (inl q) more = subst (λ (k : ℕ). k < n + length (d ∷ ds)) q (omega arith)
    by true (inr j) more = let k = more j in omega arith
    by false j more = let k = more j in omega arith

of-cover : (b : Id) (ns : List ℕ) (l : Lock) → In l (map (cover_lock b) ns) → In l.table ns
of-cover b [] l i = absurd i
of-cover b (n ∷ ns) l (inl q) = inl (ap (λ (x : Lock). x.table) q)
of-cover b (n ∷ ns) l (inr i) = inr (of-cover b ns l i)

cover-within : (k : Kept) (o : Option Id) (l : Lock) → In l (cover_of [] (base_tables k) o) → l.table < length (schema_of k)
cover-within k None l i = absurd i
cover-within k (Some b) l i = let m = numbers-within 0 (is_base_table k) (schema_of k) l.table (of-cover b (base_tables k) l i) in omega arith

won-within : (trace : Trace) (e : Event) (l : Lock) → In l (lock_won trace e) → l.table < length (schema_of (kept trace))
won-within trace (Did u st a) l i = by (reach_now u trace st) refl i
  where
    by : (o : Option Reach) → reach_now u trace st ≡ o → In l (lock_taken u (kind_of u trace) o) → l.table < length (schema_of (kept trace))
    by None e i = absurd i
    by (Some r) e (inl q) = subst (λ (x : Lock). x.table < length (schema_of (kept trace))) q (reach-within (schema_of (kept trace)) (run_of u trace).vars st r e)
    by (Some r) e (inr i) = absurd i
won-within trace (Early bs) l i = cover-within (kept trace) (first_of_list bs) l i
won-within trace e l i = absurd i

pub held-within : (trace : Trace) → IsPlayed trace → WellKept (start_of trace).kept → (l : Lock) → In l (held trace) → l.table < length (schema_of (kept trace))
held-within (from k) p w l i = absurd i
held-within (trace asks asked) p w l i = held-within trace p.0 w l (subst (In l) (held-asks trace asked) i)
held-within (trace turns b) p w l i = held-within trace p.0 w l (subst (In l) (held-turns trace b) i)
held-within (trace says e) p w l i =
    longer (schema_of (kept trace)) (schema_of (kept (trace says e))) l.table (schema-grows trace e)
    (by (held-within trace p.0 w) (in-cases l (filter_map (lock_fate trace e) (held trace)) (lock_won trace e) (subst (In l) (held-says trace e p w) i)))
  where
    by : ((x : Lock) → In x (held trace) → x.table < length (schema_of (kept trace))) →
        In l (filter_map (lock_fate trace e) (held trace)) ⊎ In l (lock_won trace e) → l.table < length (schema_of (kept trace))
    by more (inl j) =
        let m = in-filter_map (lock_fate trace e) l (held trace) j in
        subst (λ t. t < length (schema_of (kept trace))) (fate-table (facts_at trace e) e m.0 l m.2) (more m.0 m.1)
    by more (inr j) = won-within trace e l j
