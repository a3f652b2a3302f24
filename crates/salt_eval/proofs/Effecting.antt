-- What statements do to a table, on the rows that they reach.
use Rattle.salt_ast.specs.declared.trees.Expr.{Expr}
use Rattle.salt_ast.specs.declared.trees.Scan.{Scan}
use Rattle.salt_ast.specs.declared.trees.Set.{Set}
use Rattle.salt_ast.specs.declared.trees.Statement.TheVariants.{Delete, Ensure, Insert, Select, SelectInto, Update}
use Rattle.salt_ast.specs.declared.trees.TableDef.{TableDef}
use Rattle.salt_ast.specs.declared.trees.What.{What}
use Rattle.salt_eval.proofs.Collected.{gathered-collected, rows-at_keys}
use Rattle.salt_eval.proofs.Nexts.{and_true, both_true}
use Rattle.salt_eval.proofs.Points.{filter-alike, point-rows}
use Rattle.salt_eval.proofs.Selecting.{ShownBy, then-then}
use Rattle.salt_eval.specs.Effects.{effect_of, ensured, table_effect}
use Rattle.salt_eval.specs.Filtered.{filtered, kept_by}
use Rattle.salt_eval.specs.Scans.{GivesMeant, IsKeyed, gathered, row_list, statement_err}
use Rattle.salt_eval.specs.Selects.{shown_of}
use Rattle.salt_eval.specs.Updating.{with_change, with_update}
use Rattle.salt_eval.specs.Views.{is_next, range_rows, rows_after}
use Rattle.salt_eval.specs.declared.changed.Removals.{Removals}
use Rattle.salt_eval.specs.declared.changed.Updates.{Updates}
use Rattle.salt_eval.specs.declared.error.StatementErr.{StatementErr}
use Rattle.salt_exprs.specs.Operands.{IsCause}
use Rattle.salt_exprs.specs.declared.error.EvalErr.TheVariants as eval
use Rattle.salt_exprs.specs.declared.error.EvalErr.{EvalErr}
use Rattle.salt_exprs.specs.Resolving.{ResolvesFilter}
use Rattle.salt_exprs.specs.declared.resolved.Resolved.{Resolved}
use Rattle.salt_model.specs.Eval.{holds, value_of, values_of}
use Rattle.salt_model.specs.Reaches.{first_value, in_row, key_reached, no_row, range_of, reach_in, reached}
use Rattle.salt_model.specs.Statements.{answering, change_to, changing, checked, collect, column_of, inserted, on_match, removed, seen, shown, stored, updated, with_sets}
use Rattle.salt_model.specs.Tables.{Entry, Tables, is_within, place, row_at, rows_in}
use Rattle.salt_model.specs.Words.{and_then}
use Rattle.salt_model.specs.declared.events.Answer.TheVariants.{Count, Held, Stored}
use Rattle.salt_model.specs.declared.events.Answer.{Answer}
use Rattle.salt_model.specs.declared.events.Cause.TheVariants as cause
use Rattle.salt_model.specs.declared.events.Cause.{Cause}
use Rattle.salt_model.specs.declared.locks.Mode.TheVariants.{Read, Write}
use Rattle.salt_model.specs.declared.locks.Mode.{Mode}
use Rattle.salt_model.specs.declared.vars.Binding.{Binding}
use Rattle.salt_ranges.specs.Ranges.{ends_meet, has_key, is_above_low, is_below_high, is_range_empty, one_key}
use Rattle.salt_ranges.specs.declared.range.KeyRange.{KeyRange}
use Rattle.salt_values.specs.Value.{value_cmp, value_total, key_of}
use Rattle.salt_values.specs.declared.change.Change.{Change}
use Rattle.salt_values.specs.declared.value.Value.{Value}
use Rattle.std.proofs.Common.{ap, append-nil, append_assoc, subst, sym, ◌∙◌}
use Rattle.std.proofs.lemmas.Cmp.{tied_itself, upto}
use Rattle.std.specs.List.{filter}
use Rattle.std.specs.Ordering.{is_eq, is_gt}
use Rattle.std.specs.Prelude.{Bool, Err, List, None, Ok, Option, Result, Some, [], cond, false, fold, is_some, length, map, not, refl, true, ℕ, ◌&&◌, ◌++◌, ◌==◌, ◌∷◌, ◌≡◌}

low-high : (lo hi : Option Value) (k : Value) → is_above_low lo k ≡ true → is_below_high hi k ≡ true → ends_meet lo hi ≡ true
low-high None hi k a b = refl
low-high (Some lo) None k a b = refl
low-high (Some lo) (Some hi) k a b = ap not (upto value_total lo k hi (un (is_gt (value_cmp lo k)) a) (un (is_gt (value_cmp k hi)) b))
  where
    un : (b : Bool) → not b ≡ true → b ≡ false
    un true e = cc
    un false e = refl

none-within : (range : KeyRange) → is_range_empty range ≡ true → (k : Value) → has_key range k ≡ false
none-within range empty k = by (has_key range k) refl
  where
    by : (b : Bool) → has_key range k ≡ b → b ≡ false
    by false h = refl
    by true h =
        let p = both_true (is_above_low range.lo k) (is_below_high range.hi k) h in
        let meet : is_range_empty range ≡ false = ap not (low-high range.lo range.hi k p.0 p.1) in
        cc

none-next : (t : ℕ) (range : KeyRange) → is_range_empty range ≡ true → (es : List Entry) → filter (λ (e : Entry). is_next t range None e.0) es ≡ []
none-next t range empty [] = refl
none-next t range empty (e ∷ es) =
    ap (λ b. cond (((t == e.0.table) && b) && true) (e ∷ filter (λ (e : Entry). is_next t range None e.0) es) (filter (λ (e : Entry). is_next t range None e.0) es)) (none-within range empty e.0.key)
    ∙ out (t == e.0.table) ∙ none-next t range empty es
  where
    out : (b : Bool) → cond ((b && false) && true) (e ∷ filter (λ (e : Entry). is_next t range None e.0) es) (filter (λ (e : Entry). is_next t range None e.0) es) ≡ filter (λ (e : Entry). is_next t range None e.0) es
    out true = refl
    out false = refl

-- the rows that a range of a table reaches
pub rows-reached : (t : ℕ) (mode : Mode) (range : KeyRange) (es : Tables) → rows_in (reached t mode (Ok range)) es ≡ rows_after t range None es
rows-reached t mode range es = by (is_range_empty range) refl
  where
    by : (b : Bool) → is_range_empty range ≡ b → rows_in (cond b None (Some (record { table = t; range = range; mode = mode }))) es ≡ rows_after t range None es
    by true empty = sym (none-next t range empty es.list)
    by false some = filter-alike (λ (e : Entry). is_within (record { table = t; range = range; mode = mode }) e.0) (λ (e : Entry). is_next t range None e.0) (λ e. sym (and_true _)) es.list

-- the row that a key reaches
pub row-reached : (t : ℕ) (mode : Mode) (k : Value) (es : Tables) → map (λ (e : Entry). e.1) (rows_in (key_reached t mode (Ok k)) es) ≡ row_list (row_at (place t k) es)
row-reached t mode k es =
    ap (map (λ (e : Entry). e.1)) (filter-alike (λ (e : Entry). is_within (record { table = t; range = one_key k; mode = mode }) e.0) (λ (e : Entry). is_next t (one_key k) None e.0) (λ e. sym (and_true _)) es.list)
    ∙ point-rows t (one_key k) k es (ap (λ o. cond (is_eq o) (Some k) None) (tied_itself value_total k))

first-of-values : (vars : List Binding) (es : List Expr) (row : List Value) → values_of (no_row vars) es ≡ Ok row → first_value vars es ≡ Ok (key_of row)
first-of-values vars [] row h = let none : [] ≡ row = cc in ap (λ (r : List Value). Ok (key_of r)) none
first-of-values vars (e ∷ es) row h = by (value_of (no_row vars) e) (values_of (no_row vars) es) h
  where
    by : (v : Result Value Cause) (vs : Result (List Value) Cause) → and_then v (λ v. and_then vs (λ vs. Ok (v ∷ vs))) ≡ Ok row → v ≡ Ok (key_of row)
    by (Err c) vs h = absurd cc
    by (Ok v) (Err c) h = absurd cc
    by (Ok v) (Ok vs) h = let same : v ∷ vs ≡ row = cc in ap (λ (r : List Value). Ok (key_of r)) same

-- a check fails, and so does what waits for it
pub check-fails : {A : Type 0} (meant : Result A Cause) (checks : Result Bool Cause) (f : Bool → Result A Cause) (e : EvalErr) (d : StatementErr) (r : Result A StatementErr) → meant ≡ and_then checks f → (told : Result Bool Cause) → checks ≡ told → IsCause e told → r ≡ Err d → d ≡ statement_err e → GivesMeant meant r
check-fails {A = A} meant checks f (eval.Cause c) d r is told same h got fails = subst (λ (x : Result A StatementErr). GivesMeant meant x) (sym (got ∙ ap Err fails)) (is ∙ ap (λ x. and_then x f) (same ∙ h))
check-fails {A = A} meant checks f eval.Memory d r is told same h got fails = subst (λ (x : Result A StatementErr). GivesMeant meant x) (sym (got ∙ ap Err fails)) tt

-- how many changes there are, and the changes
abbrev pub counted : List Change → Result (Answer × List Change) Cause
counted changes = Ok (Count (length changes), changes)

module _ (t : ℕ) (def : TableDef) (vars : List Binding) (es : Tables) where
  module _ (name : List ℕ) (values : List Expr) (row : List Value) (is : values_of (no_row vars) values ≡ Ok row) where
    reaches-key : reach_in t vars (Insert name values) ≡ key_reached t Write (Ok (key_of row))
    reaches-key = ap (key_reached t Write) (first-of-values vars values row is)

    inserts : table_effect t def vars (Insert name values) es ≡ effect_of (inserted t def vars (rows_in (key_reached t Write (Ok (key_of row))) es) row)
    inserts =
        ap (λ r. effect_of (and_then (values_of (no_row vars) values) (inserted t def vars (rows_in r es)))) reaches-key
        ∙ ap (λ r. effect_of (and_then r (inserted t def vars (rows_in (key_reached t Write (Ok (key_of row))) es)))) is

    pub inserts-duplicate : is_some (row_at (place t (key_of row)) es) ≡ true → table_effect t def vars (Insert name values) es ≡ Err cause.Duplicate
    inserts-duplicate there = inserts ∙ by (rows_in (key_reached t Write (Ok (key_of row))) es) (row_at (place t (key_of row)) es) (row-reached t Write (key_of row) es) there
      where
        by : (l : List Entry) (o : Option (List Value)) → map (λ (e : Entry). e.1) l ≡ row_list o → is_some o ≡ true → effect_of (inserted t def vars l row) ≡ Err cause.Duplicate
        by [] None h some = absurd cc
        by [] (Some old) h some = absurd cc
        by (e ∷ l) o h some = refl

    pub inserts-new : is_some (row_at (place t (key_of row)) es) ≡ false
        → table_effect t def vars (Insert name values) es ≡ and_then (checked (in_row def row []) def.checks) (λ b. Ok (Count 1, change_to (place t (key_of row)) (Some row) ∷ []))
    inserts-new none = inserts ∙ by (rows_in (key_reached t Write (Ok (key_of row))) es) (row_at (place t (key_of row)) es) (row-reached t Write (key_of row) es) none
      where
        told : (r : Result Bool Cause) → effect_of (and_then r (λ b. Ok (record { answer = Count 1; changes = change_to (place t (key_of row)) (Some row) ∷ []; vars = vars }))) ≡ and_then r (λ b. Ok (Count 1, change_to (place t (key_of row)) (Some row) ∷ []))
        told (Ok b) = refl
        told (Err c) = refl

        by : (l : List Entry) (o : Option (List Value)) → map (λ (e : Entry). e.1) l ≡ row_list o → is_some o ≡ false → effect_of (inserted t def vars l row) ≡ and_then (checked (in_row def row []) def.checks) (λ b. Ok (Count 1, change_to (place t (key_of row)) (Some row) ∷ []))
        by [] o h none = told (checked (in_row def row []) def.checks)
        by (e ∷ l) None h none = absurd cc
        by (e ∷ l) (Some old) h none = absurd cc

  module _ (c var name : List ℕ) (key : Expr) (k : Value) (is : value_of (no_row vars) key ≡ Ok k) where
    stores : table_effect t def vars (SelectInto c var name key) es ≡ effect_of (stored def vars c var (rows_in (key_reached t Read (Ok k)) es))
    stores = ap (λ r. effect_of (and_then r (λ k. stored def vars c var (rows_in (key_reached t Read r) es)))) is

    pub stores-missing : row_at (place t k) es ≡ None → table_effect t def vars (SelectInto c var name key) es ≡ Err cause.Missing
    stores-missing none = stores ∙ by (rows_in (key_reached t Read (Ok k)) es) (row-reached t Read k es ∙ ap row_list none)
      where
        by : (l : List Entry) → map (λ (e : Entry). e.1) l ≡ [] → effect_of (stored def vars c var l) ≡ Err cause.Missing
        by [] h = refl
        by (e ∷ l) h = absurd cc

    pub stores-found : (row : List Value) → row_at (place t k) es ≡ Some row → table_effect t def vars (SelectInto c var name key) es ≡ Ok (Stored (column_of def c row), [])
    stores-found row there = stores ∙ by (rows_in (key_reached t Read (Ok k)) es) (row-reached t Read k es ∙ ap row_list there)
      where
        by : (l : List Entry) → map (λ (e : Entry). e.1) l ≡ row ∷ [] → effect_of (stored def vars c var l) ≡ Ok (Stored (column_of def c row), [])
        by [] h = absurd cc
        by (e ∷ l) h = let same : e.1 ≡ row = cc in ap (λ (r : List Value). Ok (Stored (column_of def c r), [])) same

  module _ (name : List ℕ) (scan : Scan) (range : KeyRange) (is : range_of vars scan.bound ≡ Ok range) where
    pub selects : (what : What) → table_effect t def vars (Select what name scan) es ≡ and_then (shown_of t range def vars scan.filter what es) (λ a. Ok (a, []))
    selects what =
        ap (λ r. effect_of (and_then r (λ r'. and_then (collect (on_match def vars scan.filter seen) (rows_in (reached t Read r) es)) (λ found. and_then (shown def what found) (λ a. Ok (answering vars a)))))) is
        ∙ ap (λ (l : List Entry). effect_of (and_then (collect (on_match def vars scan.filter seen) l) (λ found. and_then (shown def what found) (λ a. Ok (answering vars a))))) (rows-reached t Read range es)
        ∙ by (collect (on_match def vars scan.filter seen) (rows_after t range None es))
      where
        told : (r : Result Answer Cause) → effect_of (and_then r (λ a. Ok (answering vars a))) ≡ and_then r (λ a. Ok (a, []))
        told (Ok a) = refl
        told (Err c) = refl

        by : (r : Result (List (List Value)) Cause) → effect_of (and_then r (λ found. and_then (shown def what found) (λ a. Ok (answering vars a)))) ≡ and_then (and_then r (shown def what)) (λ a. Ok (a, []))
        by (Ok found) = told (shown def what found)
        by (Err c) = refl

    -- what changes rows, by what it makes of each
    changes-rows : (f : Entry → Result Change Cause)
        → effect_of (and_then (range_of vars scan.bound) (λ r'. and_then (collect (on_match def vars scan.filter f) (rows_in (reached t Write (range_of vars scan.bound)) es)) (λ changes. Ok (changing vars changes))))
        ≡ and_then (collect (on_match def vars scan.filter f) (rows_after t range None es)) counted
    changes-rows f =
        ap (λ r. effect_of (and_then r (λ r'. and_then (collect (on_match def vars scan.filter f) (rows_in (reached t Write r) es)) (λ changes. Ok (changing vars changes))))) is
        ∙ ap (λ (l : List Entry). effect_of (and_then (collect (on_match def vars scan.filter f) l) (λ changes. Ok (changing vars changes)))) (rows-reached t Write range es)
        ∙ by (collect (on_match def vars scan.filter f) (rows_after t range None es))
      where
        by : (r : Result (List Change) Cause) → effect_of (and_then r (λ changes. Ok (changing vars changes))) ≡ and_then r counted
        by (Ok changes) = refl
        by (Err c) = refl

    module _ (test : Option Resolved) (keys : IsKeyed es) (fits : ResolvesFilter test def.columns vars scan.filter) where
      removals-folded : (t : ℕ) (before cs : List Change) → fold (λ (s : Removals) (c : Change). record { table = s.table; changes = s.changes ++ c ∷ [] }) (record { table = t; changes = before }) cs ≡ record { table = t; changes = before ++ cs }
      removals-folded t before [] = λ i. record { table = t; changes = sym (append-nil before) i }
      removals-folded t before (c ∷ cs) = removals-folded t (before ++ c ∷ []) cs ∙ λ i. record { table = t; changes = append_assoc before (c ∷ []) cs i }

      pub deletes : (first : List Change) → first ≡ []
          → ShownBy (table_effect t def vars (Delete name scan) es)
          (gathered (filtered (kept_by test) (λ (s : Removals) row. Ok (record { table = s.table; changes = s.changes ++ change_to (place s.table (key_of row)) None ∷ [] }))) (record { table = t; changes = first }) (range_rows t range es))
          (λ s. counted s.changes)
      deletes first none = record {
        is =
            changes-rows removed
            ∙ then-alike' (collect (on_match def vars scan.filter removed) (rows_after t range None es))
            ∙ sym (then-then (collect (on_match def vars scan.filter removed) (rows_after t range None es)) (λ cs. fold add start cs) (λ s. counted s.changes))
            ∙ ap (λ r. and_then r (λ (s : Removals). counted s.changes))
            (sym (gathered-collected t def vars scan.filter removed (kept_by test) (λ (s : Removals) row. Ok (record { table = s.table; changes = s.changes ++ change_to (place s.table (key_of row)) None ∷ [] })) add (λ s. s.table ≡ t) (λ s b h. h) fits
            (λ s e same at. ap (λ p. Ok (add s (change_to p None))) ((λ i. place (same i) (key_of e.1)) ∙ sym at)) start (rows_after t range None es) refl (rows-at_keys t range es keys)));
      }
        where
          add : Removals → Change → Removals
          add s c = record { table = s.table; changes = s.changes ++ c ∷ [] }

          start : Removals
          start = record { table = t; changes = first }

          then-alike' : (r : Result (List Change) Cause) → and_then r counted ≡ and_then r (λ cs. counted (fold add start cs).changes)
          then-alike' (Ok cs) = ap counted (sym (ap (λ (s : Removals). s.changes) (removals-folded t first cs) ∙ ap (λ (l : List Change). l ++ cs) none))
          then-alike' (Err c) = refl

      updates-folded : (start : Updates) (cs : List Change) → (fold with_change start cs).changes ≡ start.changes ++ cs
      updates-folded start [] = sym (append-nil start.changes)
      updates-folded start (c ∷ cs) = updates-folded (with_change start c) cs ∙ append_assoc start.changes (c ∷ []) cs

      module _ (sets : List Set) where
        record Fits (s : Updates) : Type 0 where
          of_table : s.table ≡ t
          of_def : s.def.now ≡ def
          of_vars : s.vars.now ≡ vars
          of_sets : s.sets.now ≡ sets

        update-step : (s : Updates) (e : Entry) → Fits s → e.0 ≡ place t (key_of e.1) → with_update s e.1 ≡ and_then (updated def vars sets e) (λ c. Ok (with_change s c))
        update-step s e fits at =
            (λ i. and_then (with_sets (fits.of_def i) (in_row (fits.of_def i) e.1 (fits.of_vars i)) (fits.of_sets i) e.1) more)
            ∙ on (with_sets def (in_row def e.1 vars) sets e.1)
          where
            more : List Value → Result Updates Cause
            more new = and_then (checked (in_row s.def.now new []) s.def.now.checks) (λ b. Ok (with_change s (change_to (place s.table (key_of e.1)) (Some new))))

            where_it_was : place s.table (key_of e.1) ≡ e.0
            where_it_was = (λ i. place (fits.of_table i) (key_of e.1)) ∙ sym at

            checked-then : (new : List Value) (r : Result Bool Cause) → and_then r (λ b. Ok (with_change s (change_to (place s.table (key_of e.1)) (Some new)))) ≡ and_then (and_then r (λ b. Ok (change_to e.0 (Some new)))) (λ c. Ok (with_change s c))
            checked-then new (Ok b) = ap (λ p. Ok (with_change s (change_to p (Some new)))) where_it_was
            checked-then new (Err c) = refl

            on : (r : Result (List Value) Cause) → and_then r more ≡ and_then (and_then r (λ new. and_then (checked (in_row def new []) def.checks) (λ b. Ok (change_to e.0 (Some new))))) (λ c. Ok (with_change s c))
            on (Err c) = refl
            on (Ok new) =
                ap (λ r. and_then r (λ b. Ok (with_change s (change_to (place s.table (key_of e.1)) (Some new))))) (ap (λ (d : TableDef). checked (in_row d new []) d.checks) fits.of_def)
                ∙ checked-then new (checked (in_row def new []) def.checks)

        pub updates : (start : Updates) → start.table ≡ t → start.def.now ≡ def → start.vars.now ≡ vars → start.sets.now ≡ sets → start.changes ≡ []
            → ShownBy (table_effect t def vars (Update name sets scan) es)
            (gathered (filtered (kept_by test) with_update) start (range_rows t range es))
            (λ s. counted s.changes)
        updates start of_table of_def of_vars of_sets none = record {
          is =
              changes-rows (updated def vars sets)
              ∙ told (collect (on_match def vars scan.filter (updated def vars sets)) (rows_after t range None es))
              ∙ sym (then-then (collect (on_match def vars scan.filter (updated def vars sets)) (rows_after t range None es)) (λ cs. fold with_change start cs) (λ (s : Updates). counted s.changes))
              ∙ ap (λ r. and_then r (λ (s : Updates). counted s.changes))
              (sym (gathered-collected t def vars scan.filter (updated def vars sets) (kept_by test) with_update with_change Fits (λ s b h. record { of_table = h.of_table; of_def = h.of_def; of_vars = h.of_vars; of_sets = h.of_sets }) fits update-step start (rows_after t range None es) (record { of_table = of_table; of_def = of_def; of_vars = of_vars; of_sets = of_sets }) (rows-at_keys t range es keys)));
        }
          where
            told : (r : Result (List Change) Cause) → and_then r counted ≡ and_then r (λ l. counted (fold with_change start l).changes)
            told (Ok l) = ap counted (sym (updates-folded start l ∙ ap (λ (x : List Change). x ++ l) none))
            told (Err c) = refl

  pub ensures-alone : (e : Expr) → table_effect t def vars (Ensure e) es ≡ ensured vars e
  ensures-alone e = by (holds (no_row vars) e)
    where
      by : (r : Result Bool Cause) → effect_of (and_then r (λ b. cond b (Ok (answering vars Held)) (Err cause.Ensure))) ≡ and_then r (λ b. cond b (Ok (Held, [])) (Err cause.Ensure))
      by (Ok true) = refl
      by (Ok false) = refl
      by (Err c) = refl
