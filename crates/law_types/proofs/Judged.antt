-- What is not refused is of its types, and stays so as tables are defined.
use Rattle.salt_ast.proofs.LowExprs.{other_is_none}
use Rattle.salt_ast.specs.Judgement.{are_row, bindings, columns_of, doubled_in_statement, doubled_in_table, doubled_name, field_names, first_fault, gives_type, is_nullable, is_table, is_typed_scan, is_typed_set, is_typed_statement, is_typed_table, is_typed_what, key_type, same_types, statement_fault, table_fault, type_named, unknown_in_expr, unknown_in_scan, unknown_in_set, unknown_in_statement, unknown_in_table, unknown_in_what, unknown_name, unknown_table}
use Rattle.salt_ast.specs.Paths.{body_statements}
use Rattle.salt_ast.specs.ProgramJudgement.{doubled_in_program, in_branches, in_text, is_program, is_typed_program, program_fault, program_scope, unknown_in_program}
use Rattle.salt_ast.specs.Words.{first_in}
use Rattle.salt_ast.specs.declared.programs.ProgramDef.{ProgramDef}
use Rattle.salt_ast.specs.declared.trees.Scope.{Scope}
use Rattle.salt_ast.specs.declared.trees.Statement.TheVariants.{Delete, Ensure, Insert, Select, SelectInto, Update}
use Rattle.salt_ast.specs.declared.trees.Statement.{Statement}
use Rattle.salt_ast.specs.declared.trees.TableDef.{TableDef}
use Rattle.law_story.proofs.Every.{every-map}
use Rattle.law_story.proofs.Ids.{and_left, and_right}
use Rattle.salt_model.specs.Words.{Every}
use Rattle.salt_ast.specs.TokenSpelling.{same_bytes}
use Rattle.law_types.specs.Typed.{IsProperProgram, IsProperTable, has_key}
use Rattle.std.proofs.Common.{sym, ◌∙◌}
use Rattle.std.specs.Bool.{then_some}
use Rattle.std.specs.List.{list_all}
use Rattle.std.specs.Option.{option_or}
use Rattle.std.specs.Prelude.{Bool, List, None, Option, Some, [], cond, false, not, option_map, refl, true, ℕ, ◌&&◌, ◌++◌, ◌∷◌, ◌≡◌}

pub one-is-none : {A : Type 0} (x y : Option A) → option_or x y ≡ None → x ≡ None
one-is-none None y h = refl
one-is-none (Some x) y h = absurd cc

pub unmapped : {A B : Type 0} (f : A → B) (o : Option A) → option_map f o ≡ None → o ≡ None
unmapped f None h = refl
unmapped f (Some x) h = absurd cc

-- no name is unknown, none comes twice, and the types are right
pub record IsFaultFree (unknown doubled : Option (List ℕ)) (is_typed : Bool) : Type 0 where
  pub known : unknown ≡ None
  pub once : doubled ≡ None
  pub typed : is_typed ≡ true

pub fault-free : (a b : Option (List ℕ)) (t : Bool) → first_fault a b t ≡ None → IsFaultFree a b t
fault-free None None true h = record { known = refl; once = refl; typed = refl }
fault-free None None false h = absurd cc
fault-free None (Some n) t h = absurd cc
fault-free (Some n) b t h = absurd cc

faultless : (a b : Option (List ℕ)) (t : Bool) → IsFaultFree a b t → first_fault a b t ≡ None
faultless None None true h = refl
faultless None None false h = let e = h.typed in absurd cc
faultless None (Some n) t h = let e = h.once in absurd cc
faultless (Some n) b t h = let e = h.known in absurd cc

pub judged : (schema : List TableDef) (scope : Scope) (st : Statement) → statement_fault schema scope st ≡ None → is_typed_statement schema scope st ≡ true
unfolding statement_fault
judged schema scope st h = (fault-free (unknown_in_statement schema scope st) (doubled_in_statement st) (is_typed_statement schema scope st) h).typed

-- TABLES

pub table-proper : (schema : List TableDef) (d : TableDef) → table_fault schema d ≡ None → has_key d.columns ≡ true → IsProperTable d
unfolding table_fault
table-proper schema d h key = record {
  apart = other_is_none (then_some (is_table schema d.name) d.name) _ (fault-free (unknown_in_table d) (doubled_in_table schema d) (is_typed_table d) h).once;
  key = key;
}

-- PROGRAMS

each-judged : (schema : List TableDef) (scope : Scope) (sts : List Statement) → first_in (unknown_in_statement schema scope) sts ≡ None → first_in doubled_in_statement sts ≡ None →
    list_all (is_typed_statement schema scope) sts ≡ true → Every (λ (st : Statement). statement_fault schema scope st ≡ None) sts
unfolding statement_fault
each-judged schema scope [] u d t = tt
each-judged schema scope (st ∷ sts) u d t = (
  faultless (unknown_in_statement schema scope st) (doubled_in_statement st) (is_typed_statement schema scope st)
      (record { known = one-is-none _ _ u; once = one-is-none _ _ d; typed = and_left _ _ t }),
  each-judged schema scope sts (other_is_none (unknown_in_statement schema scope st) _ u) (other_is_none (doubled_in_statement st) _ d) (and_right (is_typed_statement schema scope st) _ t),
)

pub program-proper : (schema : List TableDef) (catalogue : List ProgramDef) (p : ProgramDef) → program_fault schema catalogue p ≡ None → IsProperProgram schema p
unfolding program_fault
program-proper schema catalogue p h =
    let text = unmapped in_text _ (one-is-none _ _ h) in
    let free = fault-free (unknown_in_program schema p) (doubled_in_program catalogue p) (is_typed_program schema p) text in
    let names = other_is_none (then_some (is_program catalogue p.name) p.name) _ free.once in
    record {
      apart = one-is-none (doubled_name [] (field_names (p.params ++ p.vars))) _ names;
      judged = each-judged schema (program_scope p) (body_statements p.body) free.known (other_is_none (doubled_name [] (field_names (p.params ++ p.vars))) _ names) free.typed;
      branches = unmapped in_branches _ (other_is_none (option_map in_text (first_fault (unknown_in_program schema p) (doubled_in_program catalogue p) (is_typed_program schema p))) _ h);
    }

-- ONE TABLE MORE

table-stays : (schema : List TableDef) (d : TableDef) (n : List ℕ) → is_table schema n ≡ true → is_table (schema ++ d ∷ []) n ≡ true
table-stays [] d n h = absurd cc
table-stays (e ∷ schema) d n h = by (same_bytes n e.name) h (table-stays schema d n)
  where
    by : (t : Bool) → cond t true (is_table schema n) ≡ true → (is_table schema n ≡ true → is_table (schema ++ d ∷ []) n ≡ true) →
        cond t true (is_table (schema ++ d ∷ []) n) ≡ true
    by true g more = refl
    by false g more = more g

columns-stay : (schema : List TableDef) (d : TableDef) (n : List ℕ) → is_table schema n ≡ true → columns_of schema n ≡ columns_of (schema ++ d ∷ []) n
columns-stay [] d n h = absurd cc
columns-stay (e ∷ schema) d n h = by (same_bytes n e.name) h (columns-stay schema d n)
  where
    by : (t : Bool) → cond t true (is_table schema n) ≡ true → (is_table schema n ≡ true → columns_of schema n ≡ columns_of (schema ++ d ∷ []) n) →
        cond t e.columns (columns_of schema n) ≡ cond t e.columns (columns_of (schema ++ d ∷ []) n)
    by true g more = refl
    by false g more = more g

known-table : (b : Bool) (n : List ℕ) → then_some (not b) n ≡ None → b ≡ true
known-table true n h = refl
known-table false n h = absurd cc

module _ (schema : List TableDef) (d : TableDef) (scope : Scope) where
  abbrev more : List TableDef
  more = schema ++ d ∷ []

  -- the table is known before and behind, with the same columns
  abbrev Stays : List ℕ → Type 0
  Stays n = (is_table schema n ≡ is_table more n) × (columns_of schema n ≡ columns_of more n)

  stays : (n : List ℕ) → unknown_table schema n ≡ None → Stays n
  stays n h =
      let known = known-table (is_table schema n) n h in
      (known ∙ sym (table-stays schema d n known), columns-stay schema d n known)

  AreSame : Statement → Type 0
  AreSame st = (unknown_in_statement schema scope st ≡ unknown_in_statement more scope st) × (is_typed_statement schema scope st ≡ is_typed_statement more scope st)

  same : (st : Statement) → unknown_in_statement schema scope st ≡ None → AreSame st
  unfolding AreSame
  same (Insert n es) h =
      let it = stays n (one-is-none _ _ h) in
      (λ i. option_or (then_some (not (it.0 i)) n) (first_in (unknown_in_expr [] (bindings scope)) es), λ i. are_row (it.1 i) (bindings scope) es)
  same (Select what n scan) h =
      let it = stays n (one-is-none _ _ (other_is_none (unknown_in_what (columns_of schema n) what) _ h)) in (
        λ i. option_or (unknown_in_what (it.1 i) what) (option_or (then_some (not (it.0 i)) n) (unknown_in_scan (it.1 i) (bindings scope) scan)),
        λ i. is_typed_what (it.1 i) what && is_typed_scan (it.1 i) (bindings scope) scan,
      )
  same (SelectInto c v n key) h =
      let it = stays n (one-is-none _ _ (other_is_none (unknown_name scope.vars v) _ (other_is_none (unknown_name (columns_of schema n) c) _ h))) in (
        λ i. option_or (unknown_name (it.1 i) c) (option_or (unknown_name scope.vars v) (option_or (then_some (not (it.0 i)) n) (unknown_in_expr [] (bindings scope) key))),
        λ i. same_types (type_named (it.1 i) c) (type_named scope.vars v) && not (is_nullable (it.1 i) c) && gives_type [] (bindings scope) (key_type (it.1 i)) key,
      )
  same (Update n sets scan) h =
      let it = stays n (one-is-none _ _ h) in (
        λ i. option_or (then_some (not (it.0 i)) n) (option_or (first_in (unknown_in_set (it.1 i) (bindings scope)) sets) (unknown_in_scan (it.1 i) (bindings scope) scan)),
        λ i. list_all (is_typed_set (it.1 i) (bindings scope)) sets && is_typed_scan (it.1 i) (bindings scope) scan,
      )
  same (Delete n scan) h =
      let it = stays n (one-is-none _ _ h) in
      (λ i. option_or (then_some (not (it.0 i)) n) (unknown_in_scan (it.1 i) (bindings scope) scan), λ i. is_typed_scan (it.1 i) (bindings scope) scan)
  same (Ensure e) h = (refl, refl)

  pub statement-stays : (st : Statement) → statement_fault schema scope st ≡ None → statement_fault more scope st ≡ None
  unfolding statement_fault AreSame
  statement-stays st h =
      let free = fault-free (unknown_in_statement schema scope st) (doubled_in_statement st) (is_typed_statement schema scope st) h in
      let it = same st free.known in
      faultless (unknown_in_statement more scope st) (doubled_in_statement st) (is_typed_statement more scope st)
      (record { known = sym it.0 ∙ free.known; once = free.once; typed = sym it.1 ∙ free.typed })

pub program-stays : (schema : List TableDef) (d : TableDef) (p : ProgramDef) → IsProperProgram schema p → IsProperProgram (schema ++ d ∷ []) p
program-stays schema d p h = record {
  apart = h.apart;
  judged = every-map _ _ (statement-stays schema d (program_scope p)) (body_statements p.body) h.judged;
  branches = h.branches;
}
