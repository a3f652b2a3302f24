-- The variables after a statement are those before it, with what its answer stores.
use Rattle.salt_ast.specs.declared.trees.Expr.{Expr}
use Rattle.salt_ast.specs.declared.trees.Statement.TheVariants.{Delete, Ensure, Insert, Select, SelectInto, Update}
use Rattle.salt_ast.specs.declared.trees.Statement.{Statement}
use Rattle.salt_ast.specs.declared.trees.TableDef.{TableDef}
use Rattle.salt_exprs.specs.Names.{is_named}
use Rattle.law_story.proofs.Every.{IfOk, ok-all, ok-bind}
use Rattle.salt_model.specs.Eval.{holds, value_of, values_of}
use Rattle.salt_model.specs.Reaches.{in_row, no_row, range_of, reach, table_for}
use Rattle.salt_model.specs.Statements.{Done, answering, change_to, changing, checked, collect, do_at, do_in, done, inserted, on_match, outcome_of, removed, seen, set_var, shown, stored, updated}
use Rattle.salt_model.specs.Tables.{Entry, Tables, place, rows_in}
use Rattle.salt_model.specs.Words.{and_then}
use Rattle.salt_model.specs.declared.events.Answer.TheVariants.{Count, Failed, Held}
use Rattle.salt_model.specs.declared.events.Cause.TheVariants as cause
use Rattle.salt_model.specs.declared.events.Cause.{Cause}
use Rattle.salt_model.specs.declared.vars.Binding.{Binding}
use Rattle.salt_ast.specs.TokenSpelling.{same_bytes}
use Rattle.salt_units.specs.Acting.{stored_by, vars_with}
use Rattle.salt_values.specs.declared.value.Value.{Value}
use Rattle.std.proofs.Common.{ap, arith, ◌<◌}
use Rattle.std.specs.List.{position_from}
use Rattle.std.specs.Prelude.{Bool, Err, List, None, Ok, Option, Result, Some, [], cond, false, if◌then◌else◌, length, refl, slice_set, suc, true, ℕ, ◌+◌, ◌∷◌, ◌≡◌}
use Rattle.salt_values.specs.Value.{key_of}

module _ (vars : List Binding) where
  abbrev Stores : Statement → Done → Type 0
  Stores st d = d.vars ≡ vars_with (stored_by st d.answer) vars

  failed-stores : (st : Statement) (c : Cause) → vars ≡ vars_with (stored_by st (Failed c)) vars
  failed-stores (Insert name es) c = refl
  failed-stores (Select what name scan) c = refl
  failed-stores (SelectInto column var name key) c = refl
  failed-stores (Update name sets scan) c = refl
  failed-stores (Delete name scan) c = refl
  failed-stores (Ensure e) c = refl

  done-stores : (st : Statement) (r : Result Done Cause) → IfOk (Stores st) r → Stores st (done vars r)
  done-stores st (Ok d) h = h
  done-stores st (Err c) h = failed-stores st c

  insert-stores : (t : ℕ) (def : TableDef) (name : List ℕ) (es : List Expr) (rows : List Entry) (row : List Value) → IfOk (Stores (Insert name es)) (inserted t def vars rows row)
  insert-stores t def name es (e ∷ rows) row = tt
  insert-stores t def name es [] row =
      ok-bind (Stores (Insert name es)) (checked (in_row def row []) def.checks) (λ b. Ok (record { answer = Count 1; changes = change_to (place t (key_of row)) (Some row) ∷ []; vars = vars }))
      (ok-all _ (checked (in_row def row []) def.checks) (λ b. refl))

  into-stores : (def : TableDef) (c v name : List ℕ) (key : Expr) (rows : List Entry) → IfOk (Stores (SelectInto c v name key)) (stored def vars c v rows)
  into-stores def c v name key [] = tt
  into-stores def c v name key (e ∷ es) = refl

  in-stores : (t : ℕ) (def : TableDef) (st : Statement) (rows : List Entry) → IfOk (Stores st) (do_in t def vars st rows)
  in-stores t def (Insert name es) rows = ok-bind (Stores (Insert name es)) (values_of (no_row vars) es) (inserted t def vars rows) (ok-all _ (values_of (no_row vars) es) (λ row. insert-stores t def name es rows row))
  in-stores t def (Select what name scan) rows =
      ok-bind (Stores (Select what name scan)) (range_of vars scan.bound) (λ r. and_then (collect (on_match def vars scan.filter seen) rows) (λ found. and_then (shown def what found) (λ a. Ok (answering vars a))))
      (ok-all _ (range_of vars scan.bound) (λ r. ok-bind (Stores (Select what name scan)) (collect (on_match def vars scan.filter seen) rows) (λ found. and_then (shown def what found) (λ a. Ok (answering vars a)))
      (ok-all _ (collect (on_match def vars scan.filter seen) rows) (λ found. ok-bind (Stores (Select what name scan)) (shown def what found) (λ a. Ok (answering vars a)) (ok-all _ (shown def what found) (λ a. refl))))))
  in-stores t def (SelectInto c v name key) rows = ok-bind (Stores (SelectInto c v name key)) (value_of (no_row vars) key) (λ k. stored def vars c v rows) (ok-all _ (value_of (no_row vars) key) (λ k. into-stores def c v name key rows))
  in-stores t def (Update name sets scan) rows =
      ok-bind (Stores (Update name sets scan)) (range_of vars scan.bound) (λ r. and_then (collect (on_match def vars scan.filter (updated def vars sets)) rows) (λ changes. Ok (changing vars changes)))
      (ok-all _ (range_of vars scan.bound) (λ r. ok-bind (Stores (Update name sets scan)) (collect (on_match def vars scan.filter (updated def vars sets)) rows) (λ changes. Ok (changing vars changes))
      (ok-all _ (collect (on_match def vars scan.filter (updated def vars sets)) rows) (λ changes. refl))))
  in-stores t def (Delete name scan) rows =
      ok-bind (Stores (Delete name scan)) (range_of vars scan.bound) (λ r. and_then (collect (on_match def vars scan.filter removed) rows) (λ changes. Ok (changing vars changes)))
      (ok-all _ (range_of vars scan.bound) (λ r. ok-bind (Stores (Delete name scan)) (collect (on_match def vars scan.filter removed) rows) (λ changes. Ok (changing vars changes))
      (ok-all _ (collect (on_match def vars scan.filter removed) rows) (λ changes. refl))))
  in-stores t def (Ensure e) rows = ok-bind (Stores (Ensure e)) (holds (no_row vars) e) (λ b. if b then Ok (answering vars Held) else Err cause.Ensure) (ok-all _ (holds (no_row vars) e) by)
    where
      by : (b : Bool) → IfOk (Stores (Ensure e)) (cond b (Ok (answering vars Held)) (Err cause.Ensure))
      by true = refl
      by false = tt

  at-stores : (st : Statement) (d : Option (ℕ × TableDef)) (rows : List Entry) → Stores st (do_at vars st d rows)
  at-stores (Ensure e) d rows = done-stores (Ensure e) (do_in 0 (record { name = []; columns = []; checks = [] }) vars (Ensure e) rows) (in-stores 0 (record { name = []; columns = []; checks = [] }) (Ensure e) rows)
  at-stores (Insert name es) None rows = refl
  at-stores (Insert name es) (Some d) rows = done-stores (Insert name es) (do_in d.0 d.1 vars (Insert name es) rows) (in-stores d.0 d.1 (Insert name es) rows)
  at-stores (Select what name scan) None rows = refl
  at-stores (Select what name scan) (Some d) rows = done-stores (Select what name scan) (do_in d.0 d.1 vars (Select what name scan) rows) (in-stores d.0 d.1 (Select what name scan) rows)
  at-stores (SelectInto c v name key) None rows = refl
  at-stores (SelectInto c v name key) (Some d) rows = done-stores (SelectInto c v name key) (do_in d.0 d.1 vars (SelectInto c v name key) rows) (in-stores d.0 d.1 (SelectInto c v name key) rows)
  at-stores (Update name sets scan) None rows = refl
  at-stores (Update name sets scan) (Some d) rows = done-stores (Update name sets scan) (do_in d.0 d.1 vars (Update name sets scan) rows) (in-stores d.0 d.1 (Update name sets scan) rows)
  at-stores (Delete name scan) None rows = refl
  at-stores (Delete name scan) (Some d) rows = done-stores (Delete name scan) (do_in d.0 d.1 vars (Delete name scan) rows) (in-stores d.0 d.1 (Delete name scan) rows)

  pub outcome-stores : (schema : List TableDef) (es : Tables) (st : Statement) → (outcome_of schema es vars st).vars ≡ vars_with (stored_by st (outcome_of schema es vars st).answer) vars
  unfolding outcome_of
  outcome-stores schema es st = at-stores st (table_for schema st) (rows_in (reach schema vars st) es)

-- a name found from a number on stands at its distance from there, and that binding is set
pub set-at : (m : ℕ) (b : Binding) (bs : List Binding) (k : ℕ) → position_from (is_named b.name) m bs ≡ Some k → (j : ℕ) × (k ≡ m + j) × (j < length bs) × (set_var b.name b.value bs ≡ slice_set bs j b)
set-at m b [] k is = absurd cc
set-at m b (x ∷ xs) k is = by (same_bytes b.name x.name) is (set-at (m + 1) b xs k)
  where
    by : (h : Bool) → cond h (Some m) (position_from (is_named b.name) (m + 1) xs) ≡ Some k
        → (position_from (is_named b.name) (m + 1) xs ≡ Some k → (j : ℕ) × (k ≡ (m + 1) + j) × (j < length xs) × (set_var b.name b.value xs ≡ slice_set xs j b))
        → (j : ℕ) × (k ≡ m + j) × (j < length (x ∷ xs)) × (cond h (record { name = b.name; value = b.value } ∷ xs) (x ∷ set_var b.name b.value xs) ≡ slice_set (x ∷ xs) j b)
    by true is more = let same : m ≡ k = cc in (0, omega arith, omega arith, refl)
    by false is more =
        let f = more is in
        let at : k ≡ (m + 1) + f.0 = f.1 in
        let within : f.0 < length xs = f.2 in
        (suc f.0, omega arith, omega arith, ap (λ l. x ∷ l) f.3)

pub set-none : (m : ℕ) (b : Binding) (bs : List Binding) → position_from (is_named b.name) m bs ≡ None → set_var b.name b.value bs ≡ bs
set-none m b [] is = refl
set-none m b (x ∷ xs) is = by (same_bytes b.name x.name) is (set-none (m + 1) b xs)
  where
    by : (h : Bool) → cond h (Some m) (position_from (is_named b.name) (m + 1) xs) ≡ None → (position_from (is_named b.name) (m + 1) xs ≡ None → set_var b.name b.value xs ≡ xs)
        → cond h (record { name = b.name; value = b.value } ∷ xs) (x ∷ set_var b.name b.value xs) ≡ x ∷ xs
    by true is more = absurd cc
    by false is more = ap (λ l. x ∷ l) (more is)
