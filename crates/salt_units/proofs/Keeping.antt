-- The rows that a statement puts have the keys of their places, where it sets no key.
use Rattle.salt_ast.specs.Judgement.{bindings, columns_of, doubled_in_statement, field_named, first_fault, is_key, is_typed_scan, is_typed_set, is_typed_statement, statement_fault, takes, unknown_in_statement}
use Rattle.salt_ast.specs.declared.trees.Expr.{Expr}
use Rattle.salt_ast.specs.declared.trees.Field.{Field}
use Rattle.salt_ast.specs.declared.trees.Scan.{Scan}
use Rattle.salt_ast.specs.declared.trees.Scope.{Scope}
use Rattle.salt_ast.specs.declared.trees.Set.{Set}
use Rattle.salt_ast.specs.declared.trees.Statement.TheVariants.{Delete, Ensure, Insert, Select, SelectInto, Update}
use Rattle.salt_ast.specs.declared.trees.Statement.{Statement}
use Rattle.salt_ast.specs.declared.trees.TableDef.{TableDef}
use Rattle.salt_eval.proofs.Collected.{HasKeys, head-key, tail-keys}
use Rattle.salt_eval.proofs.InOrder.{parted}
use Rattle.salt_eval.proofs.Nexts.{both_true}
use Rattle.salt_eval.specs.Scans.{IsKeyed}
use Rattle.law_story.proofs.Every.{IfOk, IfSome, every-collect, every-filter, ok-all, ok-bind, ok-map}
use Rattle.salt_model.specs.Eval.{Visible, holds, passes, value_of, values_of}
use Rattle.salt_model.specs.Reaches.{in_row, no_row, range_of, reach, table_for, table_from}
use Rattle.salt_model.specs.Statements.{Done, answering, change_to, changing, checked, collect, do_at, do_in, done, inserted, on_match, outcome_of, removed, seen, set_field, shown, stored, updated, with_sets}
use Rattle.salt_model.specs.Tables.{Entry, Tables, is_within, place, place_cmp, rows_in}
use Rattle.salt_model.specs.Words.{Every, and_then}
use Rattle.salt_model.specs.declared.events.Answer.TheVariants.{Count, Held}
use Rattle.salt_model.specs.declared.events.Cause.TheVariants as cause
use Rattle.salt_model.specs.declared.events.Cause.{Cause}
use Rattle.salt_model.specs.declared.locks.Reach.{Reach}
use Rattle.salt_model.specs.declared.vars.Binding.{Binding}
use Rattle.salt_ast.specs.TokenSpelling.{same_bytes}
use Rattle.salt_units.specs.Acting.{leaves_keys}
use Rattle.salt_units.specs.Edited.{HasItsKey}
use Rattle.salt_values.specs.declared.change.Change.{Change}
use Rattle.salt_values.specs.declared.value.Value.{Value}
use Rattle.std.proofs.Common.{ap, sym, ◌∙◌}
use Rattle.std.specs.FinMap.Entries.{is_sorted}
use Rattle.std.specs.List.{list_all}
use Rattle.std.specs.Option.{option_map_or}
use Rattle.std.specs.Prelude.{Bool, Err, List, None, Ok, Option, Result, Some, [], cond, false, if◌then◌else◌, not, refl, true, ℕ, ◌+◌, ◌∷◌, ◌≡◌}
use Rattle.salt_values.specs.Value.{key_of}
use lib.Dec.{T}

-- an entry stands at the place of its key
abbrev IsAtItsKey : Entry → Type 0
IsAtItsKey e = key_of e.1 ≡ e.0.key

all-keyed : (es : List Entry) → T (is_sorted place_cmp es) → HasKeys es → Every IsAtItsKey es
all-keyed [] sorted keys = tt
all-keyed (e ∷ es) sorted keys = (head-key e es keys, all-keyed es (parted _ _ sorted).1 (tail-keys e es (parted _ _ sorted).0 keys))

rows-keyed : (o : Option Reach) (es : Tables) → IsKeyed es → Every IsAtItsKey (rows_in o es)
rows-keyed None es keyed = tt
rows-keyed (Some r) es keyed = every-filter IsAtItsKey (λ e. is_within r e.0) es.list (all-keyed es.list es.sorted keyed)

not-true : (b : Bool) → not b ≡ true → b ≡ false
not-true true h = absurd cc
not-true false h = refl

set-keeps : (columns : List Field) (c : List ℕ) (v : Value) (row : List Value) → is_key columns c ≡ false → key_of (set_field columns c v row) ≡ key_of row
set-keeps [] c v row h = refl
set-keeps (f ∷ fs) c v [] h = refl
set-keeps (f ∷ fs) c v (w ∷ ws) h = ap (λ b. cond b v w) h

abbrev leaves : List Field → List Set → Bool
leaves columns sets = list_all (λ (s : Set). not (is_key columns s.column)) sets

sets-keep : (def : TableDef) (old : Visible) (sets : List Set) (row : List Value) → leaves def.columns sets ≡ true → IfOk (λ new. key_of new ≡ key_of row) (with_sets def old sets row)
sets-keep def old [] row h = refl
sets-keep def old (s ∷ sets) row h =
    let p = both_true (not (is_key def.columns s.column)) (leaves def.columns sets) h in
    ok-bind (λ new. key_of new ≡ key_of row) (value_of old s.value) (λ v. with_sets def old sets (set_field def.columns s.column v row))
    (ok-all _ (value_of old s.value) (λ v.
    ok-map (λ new. key_of new ≡ key_of (set_field def.columns s.column v row)) (λ new. key_of new ≡ key_of row) (with_sets def old sets (set_field def.columns s.column v row))
    (λ new same. same ∙ set-keeps def.columns s.column v row (not-true _ p.0)) (sets-keep def old sets (set_field def.columns s.column v row) p.1)))

updated-keeps : (def : TableDef) (vars : List Binding) (sets : List Set) (e : Entry) → leaves def.columns sets ≡ true → IsAtItsKey e → IfOk HasItsKey (updated def vars sets e)
updated-keeps def vars sets e h key =
    ok-bind HasItsKey (with_sets def (in_row def e.1 vars) sets e.1) (λ new. and_then (checked (in_row def new []) def.checks) (λ b. Ok (change_to e.0 (Some new))))
    (ok-map (λ new. key_of new ≡ key_of e.1) _ (with_sets def (in_row def e.1 vars) sets e.1)
    (λ new same. ok-bind HasItsKey (checked (in_row def new []) def.checks) (λ b. Ok (change_to e.0 (Some new))) (ok-all _ (checked (in_row def new []) def.checks) (λ b. same ∙ key)))
    (sets-keep def (in_row def e.1 vars) sets e.1 h))

matched : {B : Type 0} (Q : B → Type 0) (def : TableDef) (vars : List Binding) (filter : Option Expr) (f : Entry → Result B Cause) (e : Entry) → IfOk Q (f e) → IfOk (IfSome Q) (on_match def vars filter f e)
matched {B} Q def vars filter f e h =
    ok-bind (IfSome Q) (passes (in_row def e.1 vars) filter) (λ b. cond b (and_then (f e) (λ x. Ok (Some x))) (Ok None)) (ok-all _ (passes (in_row def e.1 vars) filter) by)
  where
    by : (b : Bool) → IfOk (IfSome Q) (cond b (and_then (f e) (λ x. Ok (Some x))) (Ok None))
    by true = ok-bind (IfSome Q) (f e) (λ x. Ok (Some x)) (ok-map Q (λ x. IfOk (IfSome Q) (Ok (Some x))) (f e) (λ x q. q) h)
    by false = tt

-- the changes of a statement that is done
abbrev PutsKeys : Done → Type 0
PutsKeys d = Every HasItsKey d.changes

-- what UPDATE and DELETE change
scan-keeps : (def : TableDef) (vars : List Binding) (scan : Scan) (f : Entry → Result Change Cause) → ((e : Entry) → IsAtItsKey e → IfOk HasItsKey (f e)) → (rows : List Entry) → Every IsAtItsKey rows →
    IfOk PutsKeys (and_then (range_of vars scan.bound) (λ r. and_then (collect (on_match def vars scan.filter f) rows) (λ changes. Ok (changing vars changes))))
scan-keeps def vars scan f each rows h =
    ok-bind PutsKeys (range_of vars scan.bound) (λ r. and_then (collect (on_match def vars scan.filter f) rows) (λ changes. Ok (changing vars changes)))
    (ok-all _ (range_of vars scan.bound) (λ r.
    ok-bind PutsKeys (collect (on_match def vars scan.filter f) rows) (λ changes. Ok (changing vars changes))
    (every-collect IsAtItsKey HasItsKey (on_match def vars scan.filter f) (λ e i. matched HasItsKey def vars scan.filter f e (each e i)) rows h)))

insert-keeps : (t : ℕ) (def : TableDef) (vars : List Binding) (rows : List Entry) (row : List Value) → IfOk PutsKeys (inserted t def vars rows row)
insert-keeps t def vars (e ∷ es) row = tt
insert-keeps t def vars [] row =
    ok-bind PutsKeys (checked (in_row def row []) def.checks) (λ b. Ok (record { answer = Count 1; changes = change_to (place t (key_of row)) (Some row) ∷ []; vars = vars }))
    (ok-all _ (checked (in_row def row []) def.checks) (λ b. (refl, tt)))

stored-keeps : (def : TableDef) (vars : List Binding) (c v : List ℕ) (rows : List Entry) → IfOk PutsKeys (stored def vars c v rows)
stored-keeps def vars c v [] = tt
stored-keeps def vars c v (e ∷ es) = tt

-- no set of a statement to a table of these columns is of the key
abbrev leaves_in : List Field → Statement → Bool
leaves_in columns (Update name sets scan) = leaves columns sets
leaves_in columns (Insert name values) = true
leaves_in columns (Select what name scan) = true
leaves_in columns (SelectInto column var name key) = true
leaves_in columns (Delete name scan) = true
leaves_in columns (Ensure e) = true

in-keeps : (t : ℕ) (def : TableDef) (vars : List Binding) (st : Statement) (rows : List Entry) → leaves_in def.columns st ≡ true → Every IsAtItsKey rows → IfOk PutsKeys (do_in t def vars st rows)
in-keeps t def vars (Insert name es) rows l h = ok-bind PutsKeys (values_of (no_row vars) es) (inserted t def vars rows) (ok-all _ (values_of (no_row vars) es) (λ row. insert-keeps t def vars rows row))
in-keeps t def vars (Select what name scan) rows l h =
    ok-bind PutsKeys (range_of vars scan.bound) (λ r. and_then (collect (on_match def vars scan.filter seen) rows) (λ found. and_then (shown def what found) (λ a. Ok (answering vars a))))
    (ok-all _ (range_of vars scan.bound) (λ r. ok-bind PutsKeys (collect (on_match def vars scan.filter seen) rows) (λ found. and_then (shown def what found) (λ a. Ok (answering vars a)))
    (ok-all _ (collect (on_match def vars scan.filter seen) rows) (λ found. ok-bind PutsKeys (shown def what found) (λ a. Ok (answering vars a)) (ok-all _ (shown def what found) (λ a. tt))))))
in-keeps t def vars (SelectInto c v name key) rows l h = ok-bind PutsKeys (value_of (no_row vars) key) (λ k. stored def vars c v rows) (ok-all _ (value_of (no_row vars) key) (λ k. stored-keeps def vars c v rows))
in-keeps t def vars (Update name sets scan) rows l h = scan-keeps def vars scan (updated def vars sets) (λ e key. updated-keeps def vars sets e l key) rows h
in-keeps t def vars (Delete name scan) rows l h = scan-keeps def vars scan removed (λ e key. tt) rows h
in-keeps t def vars (Ensure e) rows l h = ok-bind PutsKeys (holds (no_row vars) e) (λ b. if b then Ok (answering vars Held) else Err cause.Ensure) (ok-all _ (holds (no_row vars) e) by)
  where
    by : (b : Bool) → IfOk PutsKeys (cond b (Ok (answering vars Held)) (Err cause.Ensure))
    by true = tt
    by false = tt

done-keeps : (vars : List Binding) (r : Result Done Cause) → IfOk PutsKeys r → PutsKeys (done vars r)
done-keeps vars (Ok d) h = h
done-keeps vars (Err c) h = tt

columns-of : (n : ℕ) (name : List ℕ) (schema : List TableDef) (d : ℕ × TableDef) → table_from n name schema ≡ Some d → columns_of schema name ≡ d.1.columns
columns-of n name [] d is = absurd cc
columns-of n name (x ∷ xs) d is = by (same_bytes name x.name) is (columns-of (n + 1) name xs d)
  where
    by : (b : Bool) → cond b (Some (n, x)) (table_from (n + 1) name xs) ≡ Some d → (table_from (n + 1) name xs ≡ Some d → columns_of xs name ≡ d.1.columns) → cond b x.columns (columns_of xs name) ≡ d.1.columns
    by true is more = let pair : ◌≡◌ {A = ℕ × TableDef} (n, x) d = some-same (n, x) d is in ap (λ (p : ℕ × TableDef). p.1.columns) pair
      where
        some-same : (x y : ℕ × TableDef) → Some x ≡ Some y → x ≡ y
        some-same x y h = cc
    by false is more = more is

at-keeps : (vars : List Binding) (st : Statement) (d : Option (ℕ × TableDef)) (rows : List Entry) → ((x : ℕ × TableDef) → d ≡ Some x → leaves_in x.1.columns st ≡ true) → Every IsAtItsKey rows → PutsKeys (do_at vars st d rows)
at-keeps vars (Ensure e) d rows l h = done-keeps vars (do_in 0 (record { name = []; columns = []; checks = [] }) vars (Ensure e) rows) (in-keeps 0 (record { name = []; columns = []; checks = [] }) vars (Ensure e) rows refl h)
at-keeps vars (Insert name es) None rows l h = tt
at-keeps vars (Insert name es) (Some d) rows l h = done-keeps vars (do_in d.0 d.1 vars (Insert name es) rows) (in-keeps d.0 d.1 vars (Insert name es) rows refl h)
at-keeps vars (Select what name scan) None rows l h = tt
at-keeps vars (Select what name scan) (Some d) rows l h = done-keeps vars (do_in d.0 d.1 vars (Select what name scan) rows) (in-keeps d.0 d.1 vars (Select what name scan) rows refl h)
at-keeps vars (SelectInto c v name key) None rows l h = tt
at-keeps vars (SelectInto c v name key) (Some d) rows l h = done-keeps vars (do_in d.0 d.1 vars (SelectInto c v name key) rows) (in-keeps d.0 d.1 vars (SelectInto c v name key) rows refl h)
at-keeps vars (Update name sets scan) None rows l h = tt
at-keeps vars (Update name sets scan) (Some d) rows l h = done-keeps vars (do_in d.0 d.1 vars (Update name sets scan) rows) (in-keeps d.0 d.1 vars (Update name sets scan) rows (l d refl) h)
at-keeps vars (Delete name scan) None rows l h = tt
at-keeps vars (Delete name scan) (Some d) rows l h = done-keeps vars (do_in d.0 d.1 vars (Delete name scan) rows) (in-keeps d.0 d.1 vars (Delete name scan) rows refl h)

leaves-found : (schema : List TableDef) (st : Statement) → leaves_keys schema st ≡ true → (x : ℕ × TableDef) → table_for schema st ≡ Some x → leaves_in x.1.columns st ≡ true
leaves-found schema (Update name sets scan) l x is = ap (λ columns. leaves columns sets) (sym (columns-of 0 name schema x is)) ∙ l
leaves-found schema (Insert name values) l x is = refl
leaves-found schema (Select what name scan) l x is = refl
leaves-found schema (SelectInto column var name key) l x is = refl
leaves-found schema (Delete name scan) l x is = refl
leaves-found schema (Ensure e) l x is = refl

pub statements-keep : (schema : List TableDef) (es : Tables) (vars : List Binding) (st : Statement) → leaves_keys schema st ≡ true → IsKeyed es → Every HasItsKey (outcome_of schema es vars st).changes
unfolding outcome_of
statements-keep schema es vars st l keyed = at-keeps vars st (table_for schema st) (rows_in (reach schema vars st) es) (leaves-found schema st l) (rows-keyed (reach schema vars st) es keyed)

-- what is not refused is typed
typed : (u d : Option (List ℕ)) (b : Bool) → first_fault u d b ≡ None → b ≡ true
typed None None true h = refl
typed None None false h = absurd cc
typed (Some u) d b h = absurd cc
typed None (Some d) b h = absurd cc

sets-typed : (columns variables : List Field) (sets : List Set) → list_all (is_typed_set columns variables) sets ≡ true → leaves columns sets ≡ true
sets-typed columns variables [] h = refl
sets-typed columns variables (s ∷ sets) h =
    let p = both_true (is_typed_set columns variables s) (list_all (is_typed_set columns variables) sets) h in
    rw ((both_true (not (is_key columns s.column)) (option_map_or (λ f. takes columns variables f s.value) (field_named columns s.column) false) p.0).0) (sets-typed columns variables sets p.1)

pub judged-leave : (schema : List TableDef) (scope : Scope) (st : Statement) → statement_fault schema scope st ≡ None → leaves_keys schema st ≡ true
unfolding statement_fault
judged-leave schema scope st h = by st (typed (unknown_in_statement schema scope st) (doubled_in_statement st) (is_typed_statement schema scope st) h)
  where
    by : (st : Statement) → is_typed_statement schema scope st ≡ true → leaves_keys schema st ≡ true
    by (Update name sets scan) h = sets-typed (columns_of schema name) (bindings scope) sets (both_true (list_all (is_typed_set (columns_of schema name) (bindings scope)) sets) (is_typed_scan (columns_of schema name) (bindings scope) scan) h).0
    by (Insert name values) h = refl
    by (Select what name scan) h = refl
    by (SelectInto column var name key) h = refl
    by (Delete name scan) h = refl
    by (Ensure e) h = refl
