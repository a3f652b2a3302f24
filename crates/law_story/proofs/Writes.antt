-- A statement changes places in its reach alone, and only where that is to be written.
use Rattle.salt_ast.specs.declared.trees.Expr.{Expr}
use Rattle.salt_ast.specs.declared.trees.Scan.{Scan}
use Rattle.salt_ast.specs.declared.trees.Set.{Set}
use Rattle.salt_ast.specs.declared.trees.Statement.TheVariants.{Delete, Ensure, Insert, Select, SelectInto, Update}
use Rattle.salt_ast.specs.declared.trees.Statement.{Statement}
use Rattle.salt_ast.specs.declared.trees.TableDef.{TableDef}
use Rattle.salt_ast.specs.declared.trees.What.TheVariants.{Count}
use Rattle.law_story.proofs.Every.{IfOk, IfSome, every-collect, every-passes, ok-all, ok-bind, ok-map}
use Rattle.law_story.proofs.Places.{has-itself}
use Rattle.salt_model.specs.Eval.{holds, passes, value_of, values_of}
use Rattle.salt_model.specs.Statements.{Done, answering, change_to, changing, checked, collect, do_at, do_in, done, inserted, on_match, outcome_of, removed, seen, shown, stored, updated, with_sets}
use Rattle.salt_model.specs.Reaches.{first_value, in_row, key_reached, no_row, range_of, reach, reach_in, reached, table_for}
use Rattle.salt_model.specs.Tables.{Entry, Tables, changed_at, is_within, place, rows_in}
use Rattle.salt_model.specs.Words.{Every, and_then}
use Rattle.salt_model.specs.declared.events.Answer.TheVariants.{Count}
use Rattle.salt_model.specs.declared.events.Answer.{Answer}
use Rattle.salt_model.specs.declared.events.Cause.TheVariants.{Ensure}
use Rattle.salt_model.specs.declared.events.Cause.{Cause}
use Rattle.salt_model.specs.declared.locks.Mode.TheVariants.{Write}
use Rattle.salt_model.specs.declared.locks.Reach.{Reach}
use Rattle.salt_model.specs.declared.places.Place.{Place}
use Rattle.salt_model.specs.declared.vars.Binding.{Binding}
use Rattle.salt_ranges.specs.Ranges.{is_range_empty}
use Rattle.salt_ranges.specs.declared.range.KeyRange.{KeyRange}
use Rattle.salt_values.specs.declared.change.Change.{Change}
use Rattle.salt_values.specs.declared.value.Value.{Value}
use Rattle.std.proofs.Common.{ap, subst, sym}
use Rattle.std.specs.List.{filter}
use Rattle.std.specs.Prelude.{Bool, Err, List, None, Ok, Option, Result, Some, [], cond, false, if◌then◌else◌, pos, refl, true, ℕ, ◌∷◌, ◌≡◌, option_and_then}
use Rattle.salt_values.specs.Value.{key_of}

abbrev pub In : Option Reach → Place → Type 0
In None p = ⊥
In (Some s) p = is_within s p ≡ true

abbrev pub Writes : Option Reach → Change → Type 0
Writes None c = ⊥
Writes (Some s) c = (s.mode ≡ Write) × (is_within s (changed_at c) ≡ true)

rows-in : (o : Option Reach) (es : Tables) → Every (λ e. In o e.0) (rows_in o es)
rows-in None es = tt
rows-in (Some r) es = every-passes (λ e. is_within r e.0) es.list

-- a change of an entry's own place
abbrev Changes : Entry → Change → Type 0
Changes e c = changed_at c ≡ e.0

updated-own : (def : TableDef) (vars : List Binding) (sets : List Set) (e : Entry) → IfOk (Changes e) (updated def vars sets e)
updated-own def vars sets e =
    ok-bind (Changes e) (with_sets def (in_row def e.1 vars) sets e.1) (λ new. and_then (checked (in_row def new []) def.checks) (λ b. Ok (change_to e.0 (Some new))))
    (ok-all _ (with_sets def (in_row def e.1 vars) sets e.1) (λ new. ok-bind (Changes e) (checked (in_row def new []) def.checks) (λ b. Ok (change_to e.0 (Some new))) (ok-all _ (checked (in_row def new []) def.checks) (λ b. refl))))

matched : {B : Type 0} (Q : B → Type 0) (def : TableDef) (vars : List Binding) (filter : Option Expr) (f : Entry → Result B Cause) (e : Entry) → IfOk Q (f e) → IfOk (IfSome Q) (on_match def vars filter f e)
matched {B} Q def vars filter f e h =
    ok-bind (IfSome Q) (passes (in_row def e.1 vars) filter) (λ b. cond b (and_then (f e) (λ x. Ok (Some x))) (Ok None)) (ok-all _ (passes (in_row def e.1 vars) filter) by)
  where
    by : (b : Bool) → IfOk (IfSome Q) (cond b (and_then (f e) (λ x. Ok (Some x))) (Ok None))
    by true = ok-bind (IfSome Q) (f e) (λ x. Ok (Some x)) (ok-map Q (λ x. IfOk (IfSome Q) (Ok (Some x))) (f e) (λ x q. q) h)
    by false = tt

reached-writes : (t : ℕ) (r : Result KeyRange Cause) (c : Change) → In (reached t Write r) (changed_at c) → Writes (reached t Write r) c
reached-writes t (Err x) c h = h
reached-writes t (Ok r) c h = by (is_range_empty r) h
  where
    by : (b : Bool) → In (cond b None (Some (record { table = t; range = r; mode = Write }))) (changed_at c) → Writes (cond b None (Some (record { table = t; range = r; mode = Write }))) c
    by true h = h
    by false h = (refl, h)

-- what UPDATE and DELETE change
scan-writes : (t : ℕ) (def : TableDef) (vars : List Binding) (scan : Scan) (f : Entry → Result Change Cause) → ((e : Entry) → IfOk (Changes e) (f e)) → (rows : List Entry) → Every (λ e. In (reached t Write (range_of vars scan.bound)) e.0) rows →
    IfOk (λ d. Every (Writes (reached t Write (range_of vars scan.bound))) d.changes) (and_then (range_of vars scan.bound) (λ r. and_then (collect (on_match def vars scan.filter f) rows) (λ changes. Ok (changing vars changes))))
scan-writes t def vars scan f own rows h =
    let o : Option Reach = reached t Write (range_of vars scan.bound) in
    ok-bind (λ d. Every (Writes o) d.changes) (range_of vars scan.bound) (λ r. and_then (collect (on_match def vars scan.filter f) rows) (λ changes. Ok (changing vars changes)))
    (ok-all _ (range_of vars scan.bound) (λ r.
    ok-bind (λ d. Every (Writes o) d.changes) (collect (on_match def vars scan.filter f) rows) (λ changes. Ok (changing vars changes))
    (every-collect (λ e. In o e.0) (Writes o) (on_match def vars scan.filter f)
    (λ e i. matched (Writes o) def vars scan.filter f e (ok-map (Changes e) (Writes o) (f e) (λ c s. reached-writes t (range_of vars scan.bound) c (subst (In o) (sym s) i)) (own e))) rows h)))

-- what INSERT changes
first-key : (t : ℕ) (vars : List Binding) (es : List Expr) → IfOk (λ row. (new : Option (List Value)) → Writes (key_reached t Write (first_value vars es)) (change_to (place t (key_of row)) new)) (values_of (no_row vars) es)
first-key t vars [] = λ new. (refl, has-itself t (Value.Int (pos 0)) Write)
first-key t vars (e ∷ es) = by (value_of (no_row vars) e)
  where
    by : (r : Result Value Cause) → IfOk (λ row. (new : Option (List Value)) → Writes (key_reached t Write r) (change_to (place t (key_of row)) new)) (and_then r (λ v. and_then (values_of (no_row vars) es) (λ vs. Ok (v ∷ vs))))
    by (Err c) = tt
    by (Ok v) = ok-bind _ (values_of (no_row vars) es) (λ vs. Ok (v ∷ vs)) (ok-all _ (values_of (no_row vars) es) (λ vs new. (refl, has-itself t v Write)))

insert-writes : (t : ℕ) (def : TableDef) (vars : List Binding) (o : Option Reach) (rows : List Entry) (row : List Value) → ((new : Option (List Value)) → Writes o (change_to (place t (key_of row)) new)) → IfOk (λ d. Every (Writes o) d.changes) (inserted t def vars rows row)
insert-writes t def vars o (e ∷ es) row h = tt
insert-writes t def vars o [] row h = ok-bind _ (checked (in_row def row []) def.checks) (λ b. Ok (record { answer = Count 1; changes = change_to (place t (key_of row)) (Some row) ∷ []; vars = vars })) (ok-all _ (checked (in_row def row []) def.checks) (λ b. (h (Some row), tt)))

stored-none : (o : Option Reach) (def : TableDef) (vars : List Binding) (c v : List ℕ) (rows : List Entry) → IfOk (λ d. Every (Writes o) d.changes) (stored def vars c v rows)
stored-none o def vars c v [] = tt
stored-none o def vars c v (e ∷ es) = tt

in-writes : (t : ℕ) (def : TableDef) (vars : List Binding) (st : Statement) (rows : List Entry) → Every (λ e. In (reach_in t vars st) e.0) rows → IfOk (λ d. Every (Writes (reach_in t vars st)) d.changes) (do_in t def vars st rows)
in-writes t def vars (Insert name es) rows h =
    ok-bind _ (values_of (no_row vars) es) (inserted t def vars rows) (ok-map _ _ (values_of (no_row vars) es) (λ row f. insert-writes t def vars (key_reached t Write (first_value vars es)) rows row f) (first-key t vars es))
in-writes t def vars (Select what name scan) rows h =
    ok-bind _ (range_of vars scan.bound) (λ r. and_then (collect (on_match def vars scan.filter seen) rows) (λ found. and_then (shown def what found) (λ a. Ok (answering vars a))))
    (ok-all _ (range_of vars scan.bound) (λ r. ok-bind _ (collect (on_match def vars scan.filter seen) rows) (λ found. and_then (shown def what found) (λ a. Ok (answering vars a)))
    (ok-all _ (collect (on_match def vars scan.filter seen) rows) (λ found. ok-bind _ (shown def what found) (λ a. Ok (answering vars a)) (ok-all _ (shown def what found) (λ a. tt))))))
in-writes t def vars (SelectInto c v name key) rows h = ok-bind _ (value_of (no_row vars) key) (λ k. stored def vars c v rows) (ok-all _ (value_of (no_row vars) key) (λ k. stored-none _ def vars c v rows))
in-writes t def vars (Update name sets scan) rows h = scan-writes t def vars scan (updated def vars sets) (updated-own def vars sets) rows h
in-writes t def vars (Delete name scan) rows h = scan-writes t def vars scan removed (λ e. refl) rows h
in-writes t def vars (Ensure e) rows h = ok-bind _ (holds (no_row vars) e) (λ b. if b then Ok (answering vars Answer.Held) else Err Cause.Ensure) (ok-all _ (holds (no_row vars) e) by)
  where
    by : (b : Bool) → IfOk (λ d. Every (Writes None) d.changes) (cond b (Ok (answering vars Answer.Held)) (Err Cause.Ensure))
    by true = tt
    by false = tt

done-writes : (o : Option Reach) (vars : List Binding) (r : Result Done Cause) → IfOk (λ d. Every (Writes o) d.changes) r → Every (Writes o) (done vars r).changes
done-writes o vars (Ok d) h = h
done-writes o vars (Err c) h = tt

at-writes : (vars : List Binding) (st : Statement) (d : Option (ℕ × TableDef)) (rows : List Entry) → Every (λ e. In (option_and_then (λ (d : ℕ × TableDef). reach_in d.0 vars st) d) e.0) rows → Every (Writes (option_and_then (λ (d : ℕ × TableDef). reach_in d.0 vars st) d)) (do_at vars st d rows).changes
at-writes vars (Ensure e) d rows h = ensure-none (holds (no_row vars) e)
  where
    ensure-none : (r : Result Bool Cause) → Every (Writes (option_and_then (λ (d : ℕ × TableDef). reach_in d.0 vars (Ensure e)) d)) (done vars (and_then r (λ b. if b then Ok (answering vars Answer.Held) else Err Cause.Ensure))).changes
    ensure-none (Err c) = tt
    ensure-none (Ok true) = tt
    ensure-none (Ok false) = tt
at-writes vars st None rows h = tt
at-writes vars st (Some d) rows h = done-writes (reach_in d.0 vars st) vars (do_in d.0 d.1 vars st rows) (in-writes d.0 d.1 vars st rows h)

-- the keys that a statement changes lie in its reach, in Write mode
pub statement-writes : (schema : List TableDef) (es : Tables) (vars : List Binding) (st : Statement) → Every (Writes (reach schema vars st)) (outcome_of schema es vars st).changes
unfolding outcome_of reach
statement-writes schema es vars st = at-writes vars st (table_for schema st) (rows_in (reach schema vars st) es) (rows-in (reach schema vars st) es)

-- the frame law: tables with the same entries in the reach do the same
pub statement-frame : (schema : List TableDef) (a b : Tables) (vars : List Binding) (st : Statement) → rows_in (reach schema vars st) a ≡ rows_in (reach schema vars st) b → outcome_of schema a vars st ≡ outcome_of schema b vars st
unfolding outcome_of
statement-frame schema a b vars st e = ap (do_at vars st (table_for schema st)) e
