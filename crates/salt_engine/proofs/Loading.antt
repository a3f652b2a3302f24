-- The rows that a statement reaches: their table is defined, and each row that is loaded stands at the place of its key.
use Rattle.salt_ast.specs.declared.trees.Statement.TheVariants.{Delete, Ensure, Insert, Select, SelectInto, Update}
use Rattle.salt_ast.specs.declared.trees.Statement.{Statement}
use Rattle.salt_ast.specs.declared.trees.TableDef.{TableDef}
use Rattle.salt_books.specs.Asking.{IsAskedBy}
use Rattle.salt_books.specs.Books.{AreLoaded}
use Rattle.salt_books.specs.declared.asking.Asking.{Asking}
use Rattle.salt_books.specs.declared.books.Books.{Books}
use Rattle.salt_engine.proofs.Decided.{named-unit}
use Rattle.salt_engine.specs.Deciding.{IsBefore, LeavesEventUndone}
use Rattle.salt_eval.specs.Scans.{IsKeyed}
use Rattle.law_states.specs.OpenUnits.{OpenUnit, UnitState, unit_named}
use Rattle.law_states.specs.Told.{at_devices_in, does_in}
use Rattle.law_states.specs.UnitFacts.{reach_under}
use Rattle.salt_model.specs.Kept.{Kept, schema_of}
use Rattle.salt_model.specs.Reaches.{first_value, key_reached, no_row, range_of, reach, reach_in, reached, table_for, table_from}
use Rattle.salt_model.specs.Tables.{Entry, Tables, is_within, place_cmp, row_at}
use Rattle.salt_model.specs.Words.{Every}
use Rattle.salt_model.specs.declared.events.Cause.{Cause}
use Rattle.salt_model.specs.Eval.{value_of}
use Rattle.salt_model.specs.declared.locks.Mode.TheVariants.{Read, Write}
use Rattle.salt_model.specs.declared.locks.Mode.{Mode}
use Rattle.salt_model.specs.declared.locks.Reach.{Reach}
use Rattle.salt_model.specs.declared.places.Place.{Place}
use Rattle.salt_model.specs.declared.vars.Binding.{Binding}
use Rattle.salt_ranges.specs.Ranges.{is_range_empty, one_key}
use Rattle.salt_ranges.specs.declared.range.KeyRange.{KeyRange}
use Rattle.salt_stands.proofs.Places.{place_same}
use Rattle.salt_storage.specs.Storing.{IsPartOf, IsSoundKept}
use Rattle.salt_storage.specs.Writing.{ToWrite}
use Rattle.salt_storage.specs.declared.halt.Halt.TheVariants.{DeviceFull}
use Rattle.salt_storage.specs.declared.halt.Halt.{Halt}
use Rattle.salt_ast.specs.TokenSpelling.{same_bytes}
use Rattle.law_types.specs.Typed.{AreRowsOf, IsRowAt}
use Rattle.salt_values.specs.declared.id.Id.{Id}
use Rattle.salt_values.specs.declared.value.Value.{Value}
use Rattle.std.proofs.Common.{ap, arith, inl, inr, subst, sym, ◌∙◌}
use Rattle.std.specs.FinMap.Entries.{find}
use Rattle.std.specs.Ordering.{is_eq}
use Rattle.std.specs.Prelude.{Bool, Err, IfSome, List, None, Ok, Option, Result, Some, [], cond, false, is_some, length, option_and_then, refl, true, ℕ, ◌+◌, ◌<◌, ◌∷◌, ◌≡◌}
use Rattle.std.specs.declared.cmp.Ordering.TheVariants.{Equal, Greater, Less}
use Rattle.std.specs.declared.cmp.Ordering.{Ordering}
use Rattle.salt_values.specs.Value.{key_of}

-- THE TABLE OF A REACH

from-within : (n : ℕ) (name : List ℕ) (ds : List TableDef) (found : ℕ × TableDef) → table_from n name ds ≡ Some found → found.0 < n + length ds
from-within n name [] found h = absurd cc
from-within n name (d ∷ ds) found h = by (same_bytes name d.name) h (from-within (n + 1) name ds found)
  where
    by : (t : Bool) → cond t (Some (n, d)) (table_from (n + 1) name ds) ≡ Some found →
        (table_from (n + 1) name ds ≡ Some found → found.0 < (n + 1) + length ds) → found.0 < n + length (d ∷ ds)
    by true e more = let same : (n, d) ≡ found = cc in subst (λ (x : ℕ × TableDef). x.0 < n + length (d ∷ ds)) same (omega arith)
    by false e more = let a = more e in omega arith

key-at : (t : ℕ) (m : Mode) (v : Result Value Cause) (r : Reach) → key_reached t m v ≡ Some r → r.table ≡ t
key-at t m (Err c) r h = absurd cc
key-at t m (Ok k) r h = let same : record { table = t; range = one_key k; mode = m } ≡ r = cc in sym (ap (λ (x : Reach). x.table) same)

range-at : (t : ℕ) (m : Mode) (v : Result KeyRange Cause) (r : Reach) → reached t m v ≡ Some r → r.table ≡ t
range-at t m (Err c) r h = absurd cc
range-at t m (Ok range) r h = by (is_range_empty range) h
  where
    by : (e : Bool) → cond e None (Some (record { table = t; range = range; mode = m })) ≡ Some r → r.table ≡ t
    by true h = absurd cc
    by false h = let same : record { table = t; range = range; mode = m } ≡ r = cc in sym (ap (λ (x : Reach). x.table) same)

in-table : (t : ℕ) (vars : List Binding) (st : Statement) (r : Reach) → reach_in t vars st ≡ Some r → r.table ≡ t
in-table t vars (Insert name es) r h = key-at t Write (first_value vars es) r h
in-table t vars (Select what name scan) r h = range-at t Read (range_of vars scan.bound) r h
in-table t vars (SelectInto c v name key) r h = key-at t Read (value_of (no_row vars) key) r h
in-table t vars (Update name sets scan) r h = range-at t Write (range_of vars scan.bound) r h
in-table t vars (Delete name scan) r h = range-at t Write (range_of vars scan.bound) r h
in-table t vars (Ensure e) r h = absurd cc

for-within : (schema : List TableDef) (name : Option (List ℕ)) (found : ℕ × TableDef) → option_and_then (λ n. table_from 0 n schema) name ≡ Some found →
    found.0 < length schema
for-within schema None found h = absurd cc
for-within schema (Some name) found h = let a = from-within 0 name schema found h in omega arith

pub reach-within : (schema : List TableDef) (vars : List Binding) (st : Statement) (r : Reach) → reach schema vars st ≡ Some r → r.table < length schema
unfolding reach
reach-within schema vars st r h = by (table_for schema st) refl h
  where
    by : (o : Option (ℕ × TableDef)) → table_for schema st ≡ o → option_and_then (λ (d : ℕ × TableDef). reach_in d.0 vars st) o ≡ Some r → r.table < length schema
    by None e h = absurd cc
    by (Some found) e h = subst (λ n. n < length schema) (sym (in-table found.0 vars st r h)) (for-within schema _ found e)

-- THE KEYS OF ROWS

equal : (o : Ordering) → is_eq o ≡ true → o ≡ Equal
equal Less h = absurd cc
equal Equal h = refl
equal Greater h = absurd cc

list-keyed : (schema : List TableDef) (p : Place) (es : List Entry) → Every (λ (e : Entry). IsRowAt schema e.0 e.1) es →
    IfSome (find place_cmp p es) (λ row. key_of row ≡ p.key)
list-keyed schema p [] h = tt
list-keyed schema p (e ∷ es) h = by (is_eq (place_cmp p e.0)) refl (list-keyed schema p es h.1)
  where
    by : (t : Bool) → is_eq (place_cmp p e.0) ≡ t → IfSome (find place_cmp p es) (λ row. key_of row ≡ p.key) →
        IfSome (cond t (Some e.1) (find place_cmp p es)) (λ row. key_of row ≡ p.key)
    by true same more = sym h.0.key ∙ ap (λ (q : Place). q.key) (sym (place_same p e.0 (equal (place_cmp p e.0) same)))
    by false same more = more

pub typed-keyed : (schema : List TableDef) (es : Tables) → AreRowsOf schema es → IsKeyed es
typed-keyed schema es h p = list-keyed schema p es.list h

some-or-none : (o : Option (List Value)) (k : Value) (t : Bool) → IfSome o (λ row. key_of row ≡ k) → IfSome (cond t o None) (λ row. key_of row ≡ k)
some-or-none o k true h = h
some-or-none o k false h = tt

pub part-keyed : (r : Reach) (part whole : Tables) → IsPartOf r part whole → IsKeyed whole → IsKeyed part
part-keyed r part whole is keyed p =
    subst (λ (o : Option (List Value)). IfSome o (λ row. key_of row ≡ p.key)) (sym (is p)) (some-or-none (row_at p whole) p.key (is_within r p) (keyed p))

-- A STATEMENT THAT REACHES A TABLE is at the devices.

pub reach-devices : (s : UnitState) (o : OpenUnit) (st : Statement) (r : Reach) → unit_named o.unit s.units ≡ Some o → reach_under s.kept o st ≡ Some r →
    at_devices_in s (does_in s o st) ≡ true
reach-devices s o st r own is =
    ap (λ (q : Option OpenUnit). elim q [ None ↦ false | Some p ↦ is_some (reach (schema_of s.kept) p.vars st) ]) own ∙ ap (λ (q : Option Reach). is_some q) is

-- BEFORE A STATEMENT, what is asked of a storage, and what it answers

module _ (holds : Kept → Type 0) (is_new : Id → Type 0) (x : Books) (a : Asking) (s : UnitState) (o : OpenUnit) (r : Reach)
    (b : IsBefore holds is_new x (does_in s o a.statement) s) (asked : IsAskedBy a s o) (is : a.reach ≡ Some r) where
  reaches : reach_under s.kept o a.statement ≡ Some r
  reaches = sym asked.reach ∙ is

  pub may-load : (schema : List TableDef) → schema ≡ x.known.schema → (k : Kept) × holds k × (schema ≡ schema_of k) × (r.table < length (schema_of k))
  may-load schema same = (
    s.kept,
    b.stored.holding,
    same ∙ b.books.known.schema,
    reach-within (schema_of s.kept) o.vars a.statement r reaches,
  )

  -- it was not loaded
  pub unloaded : (leaves : Kept → Kept → Type 0) (fills : ToWrite → ℕ → Type 0) (halt : Halt) → leaves s.kept s.kept → ((dev : ℕ) → halt ≡ DeviceFull dev → ⊥) →
      LeavesEventUndone leaves fills halt s (does_in s o a.statement)
  unloaded leaves fills halt left full = record {
    left = record { one = s.kept; other = s.kept; left = left; is_one = inl refl; is_other = inl refl };
    reason = inr (reach-devices s o a.statement r (ap (λ v. unit_named v s.units) (named-unit a.unit s.units o asked.named) ∙ asked.named) reaches);
    full = λ dev h. absurd (full dev h);
  }

-- the rows that a storage gave
pub rows-loaded : (q : Option Reach) (r : Reach) (rows whole : Tables) → q ≡ Some r → IsPartOf r rows whole → AreLoaded q rows whole
rows-loaded q r rows whole is part = subst (λ (p : Option Reach). AreLoaded p rows whole) (sym is) part

pub rows-keyed : (k : Kept) (r : Reach) (rows : Tables) → IsSoundKept k → IsPartOf r rows k.tables → IsKeyed rows
rows-keyed k r rows sound part = part-keyed r rows k.tables part (typed-keyed (schema_of k) k.tables sound.typed.rows)
