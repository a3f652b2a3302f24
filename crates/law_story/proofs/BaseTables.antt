-- What a BASE program's unit reaches is in a base table.
use Rattle.law_story.proofs.Declares.{declared}
use Rattle.law_story.proofs.Defined.{AreDefined}
use Rattle.law_story.proofs.Hiding.{Hides, hides}
use Rattle.law_story.proofs.Lists.{In, either, in-cases}
use Rattle.law_story.proofs.NextFits.{Fits}
use Rattle.law_story.proofs.Sound.{Sound, kind-stays}
use Rattle.law_story.proofs.Upheld.{OfBoots, holds, may-fit}
use Rattle.salt_ast.specs.Paths.{at_number}
use Rattle.salt_ast.specs.ProgramJudgement.{program_named}
use Rattle.salt_ast.specs.declared.programs.PartDef.{PartDef}
use Rattle.salt_ast.specs.declared.programs.ProgramDef.{ProgramDef}
use Rattle.salt_ast.specs.declared.trees.Statement.{Statement}
use Rattle.salt_ast.specs.declared.trees.Statement.TheVariants.{Delete, Ensure, Insert, Select, SelectInto, Update}
use Rattle.salt_ast.specs.declared.trees.TableDef.{TableDef}
use Rattle.salt_model.specs.After.{branched, defined_by, kept, reach_now, run_of}
use Rattle.salt_model.specs.AsDeclared.{DoesDeclared, IsDeclaredBy}
use Rattle.salt_model.specs.Eval.{value_of}
use Rattle.salt_model.specs.Kept.{Definition, Kept, block_of_kind, block_of_part, cont_of, kept_program, parts_of, program_of_definition, programs_of, schema_of, table_of_definition}
use Rattle.salt_model.specs.Locks.{Taken, base_tables, is_base_table, is_of_table, names_table, numbers_from, taken_by, taken_in}
use Rattle.salt_model.specs.Played.{IsPlayed}
use Rattle.salt_model.specs.Reaches.{first_value, key_reached, no_row, range_of, reach, reach_in, reached, table_from, table_in}
use Rattle.salt_model.specs.Trace.{Trace, from, line_of, start_of, ◌asks◌, ◌says◌, ◌turns◌}
use Rattle.salt_model.specs.Units.{done_of, kind_of, program_of, program_of_kind}
use Rattle.salt_model.specs.declared.events.Cause.{Cause}
use Rattle.salt_model.specs.declared.events.End.TheVariants.{Branched}
use Rattle.salt_model.specs.declared.events.Event.{Event}
use Rattle.salt_model.specs.declared.events.Event.TheVariants.{Began, Defined, Did, Ended}
use Rattle.salt_model.specs.declared.events.UnitKind.{UnitKind}
use Rattle.salt_model.specs.declared.events.UnitKind.TheVariants.{Acid, Call, First, Later}
use Rattle.salt_model.specs.declared.locks.Mode.{Mode}
use Rattle.salt_model.specs.declared.locks.Reach.{Reach}
use Rattle.salt_model.specs.declared.vars.Binding.{Binding}
use Rattle.salt_ranges.specs.Ranges.{is_range_empty, one_key}
use Rattle.salt_ranges.specs.declared.range.KeyRange.{KeyRange}
use Rattle.salt_ast.specs.TokenSpelling.{same_bytes}
use Rattle.salt_values.specs.declared.cont.Cont.{Cont}
use Rattle.salt_values.specs.declared.id.Id.{Id}
use Rattle.salt_values.specs.declared.value.Value.{Value}
use Rattle.std.proofs.Common.{ap, inl, inr, subst, sym, ◌∙◌}
use Rattle.std.proofs.lemmas.List.Elements.{filter_map-append}
use Rattle.std.specs.List.{filter_map, list_any}
use Rattle.std.specs.Prelude.{Bool, Err, List, None, Ok, Option, Result, Some, [], cond, false, length, option_and_then, option_map, refl, slice_get, suc, true, zero, ℕ, ◌++◌, ◌+◌, ◌||◌, ◌∷◌, ◌≡◌}

-- lists

into-any : {A : Type 0} (p : A → Bool) (x : A) (xs : List A) → In x xs → p x ≡ true → list_any p xs ≡ true
into-any p x [] i h = absurd i
into-any p x (y ∷ ys) (inl e) h = rw (subst (λ z. p z ≡ true) (sym e) h) refl
into-any p x (y ∷ ys) (inr i) h = go (p y) (into-any p x ys i h)
  where
    go : (b : Bool) → list_any p ys ≡ true → (b || list_any p ys) ≡ true
    go true g = refl
    go false g = g

any-grows : {A : Type 0} (p : A → Bool) (xs ys : List A) → list_any p xs ≡ true → list_any p (xs ++ ys) ≡ true
any-grows p [] ys h = cc
any-grows p (x ∷ xs) ys h = go (p x) h (any-grows p xs ys)
  where
    go : (b : Bool) → (b || list_any p xs) ≡ true → (list_any p xs ≡ true → list_any p (xs ++ ys) ≡ true) → (b || list_any p (xs ++ ys)) ≡ true
    go true g more = refl
    go false g more = more g

slice-in : {A : Type 0} (x : A) (xs : List A) (i : ℕ) → slice_get xs i ≡ Some x → In x xs
slice-in x [] zero h = cc
slice-in x [] (suc i) h = cc
slice-in x (y ∷ ys) zero h = inl cc
slice-in x (y ∷ ys) (suc i) h = inr (slice-in x ys i h)

number-in : {A : Type 0} (x : A) (k : ℕ) (xs : List A) → at_number k xs ≡ Some x → In x xs
number-in x k [] h = cc
number-in x zero (y ∷ ys) h = cc
number-in x (suc zero) (y ∷ ys) h = inl cc
number-in x (suc (suc k)) (y ∷ ys) h = inr (number-in x (suc k) ys h)

named-in : (n : List ℕ) (p : ProgramDef) (ps : List ProgramDef) → program_named ps n ≡ Some p → In p ps
named-in n p [] h = cc
named-in n p (q ∷ ps) h = go (same_bytes n q.name) h (named-in n p ps)
  where
    go : (b : Bool) → cond b (Some q) (program_named ps n) ≡ Some p → (program_named ps n ≡ Some p → In p ps) → In p (q ∷ ps)
    go true g more = inl cc
    go false g more = inr (more g)

-- numbers of tables

-- a table that a name finds passes a test with its name; its number is among those of the tables that pass one
from-name : (n : ℕ) (name : List ℕ) (ds : List TableDef) (x : ℕ × TableDef) → table_from n name ds ≡ Some x → same_bytes name x.1.name ≡ true
from-name n name [] x h = cc
from-name n name (d ∷ ds) x h = go (same_bytes name d.name) refl h (from-name (n + 1) name ds x)
  where
    go : (b : Bool) → same_bytes name d.name ≡ b → cond b (Some (n, d)) (table_from (n + 1) name ds) ≡ Some x → (table_from (n + 1) name ds ≡ Some x → same_bytes name x.1.name ≡ true) → same_bytes name x.1.name ≡ true
    go true e g more = let s : (n, d) ≡ x = cc in subst (λ (y : ℕ × TableDef). same_bytes name y.1.name ≡ true) s e
    go false e g more = more g

from-numbers : (n : ℕ) (name : List ℕ) (test : TableDef → Bool) (ds : List TableDef) (x : ℕ × TableDef) → table_from n name ds ≡ Some x → test x.1 ≡ true → In x.0 (numbers_from n test ds)
from-numbers n name test [] x h t = cc
from-numbers n name test (d ∷ ds) x h t = go (same_bytes name d.name) h (λ g. from-numbers (n + 1) name test ds x g t)
  where
    later : In x.0 (numbers_from (n + 1) test ds) → (b : Bool) → In x.0 (cond b (n ∷ numbers_from (n + 1) test ds) (numbers_from (n + 1) test ds))
    later i true = inr i
    later i false = i

    here : (n, d) ≡ x → In x.0 (cond (test d) (n ∷ numbers_from (n + 1) test ds) (numbers_from (n + 1) test ds))
    here s = let p : test d ≡ true = subst (λ (y : ℕ × TableDef). test y.1 ≡ true) (sym s) t in rw p (inl (ap (λ (y : ℕ × TableDef). y.0) s))

    go : (b : Bool) → cond b (Some (n, d)) (table_from (n + 1) name ds) ≡ Some x → (table_from (n + 1) name ds ≡ Some x → In x.0 (numbers_from (n + 1) test ds)) → In x.0 (cond (test d) (n ∷ numbers_from (n + 1) test ds) (numbers_from (n + 1) test ds))
    go true g more = here cc
    go false g more = later (more g) (test d)

numbers-grow : (m n : ℕ) (p q : TableDef → Bool) → ((d : TableDef) → p d ≡ true → q d ≡ true) → (xs ys : List TableDef) → In m (numbers_from n p xs) → In m (numbers_from n q (xs ++ ys))
numbers-grow m n p q f [] ys i = absurd i
numbers-grow m n p q f (x ∷ xs) ys i = go (p x) refl i (numbers-grow m (n + 1) p q f xs ys)
  where
    later : In m (numbers_from (n + 1) q (xs ++ ys)) → (b : Bool) → In m (cond b (n ∷ numbers_from (n + 1) q (xs ++ ys)) (numbers_from (n + 1) q (xs ++ ys)))
    later i true = inr i
    later i false = i

    go : (b : Bool) → p x ≡ b → In m (cond b (n ∷ numbers_from (n + 1) p xs) (numbers_from (n + 1) p xs)) → (In m (numbers_from (n + 1) p xs) → In m (numbers_from (n + 1) q (xs ++ ys))) → In m (cond (q x) (n ∷ numbers_from (n + 1) q (xs ++ ys)) (numbers_from (n + 1) q (xs ++ ys)))
    go true e (inl g) more = rw (f x e) (inl g)
    go true e (inr g) more = later (more g) (q x)
    go false e g more = later (more g) (q x)

-- base tables stay where definitions come
grows : (k : Kept) (more : List Definition) (m : ℕ) → In m (base_tables k) → In m (base_tables (record k { definitions = k.definitions ++ more }))
grows k more m i =
    subst (λ ds. In m (numbers_from 0 (is_base_table (record k { definitions = k.definitions ++ more })) ds)) (sym (filter_map-append table_of_definition k.definitions more))
    (numbers-grow m 0 (is_base_table k) (is_base_table (record k { definitions = k.definitions ++ more })) (λ d h. subst (λ ps. list_any (names_table d.name) ps ≡ true) (sym (filter_map-append program_of_definition k.definitions more)) (any-grows (names_table d.name) (programs_of k) (filter_map program_of_definition more) h)) (schema_of k) (filter_map table_of_definition more) i)

tables-say : (trace : Trace) (e : Event) (m : ℕ) → In m (base_tables (kept trace)) → In m (base_tables (kept (trace says e)))
tables-say trace (Defined n text) m i = grows (kept trace) (defined_by (line_of trace)) m i
tables-say trace (Ended u (Branched n c)) m i = by (kind_of u trace)
  where
    by : (o : Option UnitKind) → In m (base_tables (branched (kept trace) n o))
    by None = i
    by (Some kind) = i
tables-say trace e m i = i

-- a reach is of the table that its statement names

in-table : (t : ℕ) (vars : List Binding) (st : Statement) (r : Reach) → reach_in t vars st ≡ Some r → t ≡ r.table
in-table t vars st r h = by st h
  where
    ranged : (mode : Mode) (x : Result KeyRange Cause) → reached t mode x ≡ Some r → t ≡ r.table
    ranged mode (Err c) g = cc
    ranged mode (Ok range) g = go (is_range_empty range) g
      where
        go : (b : Bool) → cond b None (Some (record { table = t; range = range; mode = mode })) ≡ Some r → t ≡ r.table
        go true g = cc
        go false g = let s : record { table = t; range = range; mode = mode } ≡ r = cc in ap (λ (y : Reach). y.table) s

    keyed : (mode : Mode) (x : Result Value Cause) → key_reached t mode x ≡ Some r → t ≡ r.table
    keyed mode (Err c) g = cc
    keyed mode (Ok key) g = let s : record { table = t; range = one_key key; mode = mode } ≡ r = cc in ap (λ (y : Reach). y.table) s

    by : (st : Statement) → reach_in t vars st ≡ Some r → t ≡ r.table
    by (Insert name es) g = keyed Mode.Write (first_value vars es) g
    by (Select what name scan) g = ranged Mode.Read (range_of vars scan.bound) g
    by (SelectInto c v name key) g = keyed Mode.Read (value_of (no_row vars) key) g
    by (Update name sets scan) g = ranged Mode.Write (range_of vars scan.bound) g
    by (Delete name scan) g = ranged Mode.Write (range_of vars scan.bound) g
    by (Ensure e) g = cc

-- a part's statement names a base table
named-base : (k : Kept) (p : ProgramDef) (part : ℕ) (i : ℕ) (st : Statement) (tn : List ℕ) → In p (programs_of k) → slice_get (block_of_part p part) i ≡ Some st → is_of_table tn st ≡ true → list_any (names_table tn) (programs_of k) ≡ true
named-base k p part i st tn there h t = into-any (names_table tn) p (programs_of k) there (by (at_number part (parts_of p)) refl h)
  where
    by : (o : Option PartDef) → at_number part (parts_of p) ≡ o → slice_get (elim o [ None ↦ [] | Some q ↦ q.block ]) i ≡ Some st → names_table tn p ≡ true
    by None e g = absurd (slice-in st [] i g)
    by (Some q) e g = into-any (λ (x : PartDef). list_any (is_of_table tn) x.block) q (parts_of p) (number-in q part (parts_of p) e) (into-any (is_of_table tn) st q.block (slice-in st q.block i g) t)

-- the statement of a program's unit
abbrev NextOf : Option (List Statement) → List Statement → Statement → Type 0
NextOf o done st = option_and_then (λ block. slice_get block (length done)) o ≡ Some st

of-block : (k : Kept) (kind : UnitKind) (b : Id) (done : List Statement) (st : Statement) (tn : List ℕ) → program_of_kind kind ≡ Some b → NextOf (block_of_kind k kind) done st → is_of_table tn st ≡ true → list_any (names_table tn) (programs_of k) ≡ true
of-block k (Acid s) b done st tn q h t = cc
of-block k (Call s n args) b done st tn q h t = cc
of-block k (First s c n args) b done st tn q h t = by (kept_program n k) refl h
  where
    by : (o : Option ProgramDef) → kept_program n k ≡ o → NextOf (option_map (λ p. block_of_part p 1) o) done st → list_any (names_table tn) (programs_of k) ≡ true
    by None e g = cc
    by (Some p) e g = named-base k p 1 (length done) st tn (named-in n p (programs_of k) e) g t
of-block k (Later c part) b done st tn q h t = by (cont_of c k) h
  where
    program : (n : List ℕ) (o : Option ProgramDef) → kept_program n k ≡ o → NextOf (option_map (λ p. block_of_part p part) o) done st → list_any (names_table tn) (programs_of k) ≡ true
    program n None e g = cc
    program n (Some p) e g = named-base k p part (length done) st tn (named-in n p (programs_of k) e) g t

    by : (o : Option Cont) → NextOf (option_and_then (λ c. option_map (λ p. block_of_part p part) (kept_program c.program k)) o) done st → list_any (names_table tn) (programs_of k) ≡ true
    by None g = cc
    by (Some x) g = program x.program (kept_program x.program k) refl g

reach-base : (k : Kept) (vars : List Binding) (st : Statement) (r : Reach) → ((tn : List ℕ) → is_of_table tn st ≡ true → list_any (names_table tn) (programs_of k) ≡ true) → reach (schema_of k) vars st ≡ Some r → In r.table (base_tables k)
unfolding reach
reach-base k vars st r f h = by (table_in st) refl h
  where
    found : (name : List ℕ) → table_in st ≡ Some name → (o : Option (ℕ × TableDef)) → table_from 0 name (schema_of k) ≡ o → option_and_then (λ (d : ℕ × TableDef). reach_in d.0 vars st) o ≡ Some r → In r.table (base_tables k)
    found name e None q g = cc
    found name e (Some x) q g =
        let same : is_of_table x.1.name st ≡ true = subst (λ o. elim o [ None ↦ false | Some m ↦ same_bytes m x.1.name ] ≡ true) (sym e) (from-name 0 name (schema_of k) x q) in
        subst (λ n. In n (base_tables k)) (in-table x.0 vars st r g) (from-numbers 0 name (is_base_table k) (schema_of k) x q (f x.1.name same))

    by : (o : Option (List ℕ)) → table_in st ≡ o → option_and_then (λ (d : ℕ × TableDef). reach_in d.0 vars st) (option_and_then (λ name. table_from 0 name (schema_of k)) o) ≡ Some r → In r.table (base_tables k)
    by None e g = cc
    by (Some name) e g = found name e (table_from 0 name (schema_of k)) refl g

-- at a place

abbrev pub Based : Trace → Type 0
Based trace = (t : Taken) → In t (taken_in trace) → (b : Id) → program_of t.unit trace ≡ Some b → In t.reach.table (base_tables (kept trace))

did-base : (trace : Trace) (u : Id) (st : Statement) (b : Id) (r : Reach) → IsDeclaredBy trace u st (kind_of u trace) → program_of u trace ≡ Some b → reach_now u trace st ≡ Some r → In r.table (base_tables (kept trace))
did-base trace u st b r d q h = by (kind_of u trace) d q
  where
    by : (o : Option UnitKind) → IsDeclaredBy trace u st o → option_and_then program_of_kind o ≡ Some b → In r.table (base_tables (kept trace))
    by None d q = cc
    by (Some (Acid s)) d q = cc
    by (Some (Call s n args)) d q = cc
    by (Some (First s c n args)) d q = reach-base (kept trace) (run_of u trace).vars st r (λ tn t. of-block (kept trace) (First s c n args) b (done_of u trace) st tn q d t) h
    by (Some (Later c part)) d q = reach-base (kept trace) (run_of u trace).vars st r (λ tn t. of-block (kept trace) (Later c part) b (done_of u trace) st tn q d t) h

based-step : (trace : Trace) (e : Event) → Sound trace → Fits trace e → Hides trace → DoesDeclared trace e → Based trace → Based (trace says e)
based-step trace (Did u st a) s f h d was t i b q = either (λ j. was t j b q) (λ j. new (reach_now u trace st) refl j) (in-cases t (taken_in trace) _ i)
  where
    new : (o : Option Reach) → reach_now u trace st ≡ o → In t (taken_by u o) → In t.reach.table (base_tables (kept trace))
    new None e j = absurd j
    new (Some r) e (inl g) =
        let unit : u ≡ t.unit = ap (λ (x : Taken). x.unit) g in
        let reach : r ≡ t.reach = ap (λ (x : Taken). x.reach) g in
        subst (λ (x : Reach). In x.table (base_tables (kept trace))) reach (did-base trace u st b r d (subst (λ v. program_of v trace ≡ Some b) (sym unit) q) e)
    new (Some r) e (inr g) = absurd g
based-step trace (Began u kind) s f h d was t i b q = was t i b (ap (option_and_then program_of_kind) (sym (kind-stays trace (Began u kind) t.unit s f (h.known t i))) ∙ q)
based-step trace e s f h d was t i b q = tables-say trace e t.reach.table (was t i b q)

pub based : (trace : Trace) → IsPlayed trace → OfBoots (start_of trace).kept → AreDefined (start_of trace).kept (start_of trace).kept.conts → Based trace
based (from k) p w d = λ t i. absurd i
based (trace asks asked) p w d = based trace p.0 w d
based (trace turns b) p w d = based trace p.0 w d
based (trace says e) p w d = let u = holds trace p.0 w in based-step trace e u.sound (may-fit trace e u.comes p.1) (hides trace p.0 w) (declared (trace says e) p w d).1 (based trace p.0 w d)
