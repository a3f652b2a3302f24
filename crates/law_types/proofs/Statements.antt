-- A statement that is judged makes changes that fit, and leaves variables of their types.
use Rattle.salt_ast.specs.Judgement.{are_row, bindings, columns_of, field_named, gives_type, is_key, is_nullable, is_typed_set, is_typed_statement, key_type, same_types, takes, type_named, value_type, values}
use Rattle.salt_ast.specs.ProgramJudgement.{are_arguments}
use Rattle.salt_ast.specs.declared.trees.ColType.{ColType}
use Rattle.salt_ast.specs.declared.trees.Expr.{Expr}
use Rattle.salt_ast.specs.declared.trees.Field.{Field}
use Rattle.salt_ast.specs.declared.trees.Scope.{Scope}
use Rattle.salt_ast.specs.declared.trees.Set.{Set}
use Rattle.salt_ast.specs.declared.trees.Statement.TheVariants.{Delete, Ensure, Insert, Select, SelectInto, Update}
use Rattle.salt_ast.specs.declared.trees.Statement.{Statement}
use Rattle.salt_ast.specs.declared.trees.TableDef.{TableDef}
use Rattle.salt_stands.specs.Fitting.{are_of_columns, is_key_of, is_of_column, is_row_of}
use Rattle.law_story.proofs.Every.{IfOk, IfSome, every-collect, every-filter, every-passes, ok-map}
use Rattle.law_story.proofs.Ids.{and_left, and_right}
use Rattle.law_story.proofs.Lists.{not-true}
use Rattle.salt_model.specs.Eval.{holds, known, named_values, passes, value_named, value_of, values_of}
use Rattle.salt_model.specs.Reaches.{first_value, in_row, key_reached, no_row, range_of, reach, reach_in, reached, table_for, table_from, table_in}
use Rattle.salt_model.specs.Statements.{Done, answering, changing, checked, collect, column_of, do_at, do_in, done, inserted, on_match, outcome_of, removed, seen, set_field, shown, stored, updated, with_sets}
use Rattle.salt_model.specs.Tables.{Entry, Tables, is_within, place, rows_in}
use Rattle.salt_model.specs.Words.{Every, and_then}
use Rattle.salt_model.specs.declared.events.Answer.{Answer}
use Rattle.salt_model.specs.declared.events.Cause.{Cause}
use Rattle.salt_model.specs.declared.locks.Mode.TheVariants.{Read, Write}
use Rattle.salt_model.specs.declared.locks.Mode.{Mode}
use Rattle.salt_model.specs.declared.locks.Reach.{Reach}
use Rattle.salt_model.specs.declared.places.Place.{Place}
use Rattle.salt_model.specs.declared.vars.Binding.{Binding}
use Rattle.salt_ranges.specs.Ranges.{is_range_empty}
use Rattle.salt_ranges.specs.declared.range.KeyRange.{KeyRange}
use Rattle.law_types.proofs.Fields.{key-stays, not-before, set-column, set-variable}
use Rattle.law_types.proofs.Values.{column-given, IsGiven, or_none, taken}
use Rattle.law_types.proofs.Words.{alike, both, every-of, found, ok-then, ok-with}
use Rattle.law_types.specs.Typed.{AreApart, AreChangesOf, AreRowsOf, AreVariables, FitsAt, IsProperTable, IsRowAt, IsTypedDone, has_key}
use Rattle.salt_values.specs.Value.{is_null, key_of}
use Rattle.salt_values.specs.declared.change.Change.{Change}
use Rattle.salt_values.specs.declared.value.Value.TheVariants.{Int}
use Rattle.salt_values.specs.declared.value.Value.{Value}
use Rattle.std.proofs.Common.{ap, subst, sym, ◌∙◌}
use Rattle.std.proofs.lemmas.Bool.{eqb-true}
use Rattle.std.specs.List.{list_all}
use Rattle.std.specs.Option.{option_map_or}
use Rattle.std.specs.Prelude.{Bool, Err, List, None, Ok, Option, Result, Some, [], cond, false, is_ok, not, option_and_then, option_map, pos, refl, true, unwrap_or, ℕ, ◌&&◌, ◌==◌, ◌||◌, ◌∷◌, ◌≡◌}
use Rattle.std.specs.Prelude.{slice_get}

-- ROWS THAT ARE REACHED are of the table

abbrev Reaches : ℕ → Option Reach → Type 0
Reaches t o = IfSome (λ (r : Reach). r.table ≡ t) o

of-range : (t : ℕ) (mode : Mode) (r : Result KeyRange Cause) → Reaches t (reached t mode r)
of-range t mode (Err c) = tt
of-range t mode (Ok range) = by (is_range_empty range)
  where
    by : (b : Bool) → Reaches t (cond b None (Some (record { table = t; range = range; mode = mode })))
    by true = tt
    by false = refl

of-key : (t : ℕ) (mode : Mode) (r : Result Value Cause) → Reaches t (key_reached t mode r)
of-key t mode (Err c) = tt
of-key t mode (Ok k) = refl

of-table : (t : ℕ) (vars : List Binding) (st : Statement) → Reaches t (reach_in t vars st)
of-table t vars (Insert name es) = of-key t Write (first_value vars es)
of-table t vars (Select what name scan) = of-range t Read (range_of vars scan.bound)
of-table t vars (SelectInto c v name key) = of-key t Read (value_of (no_row vars) key)
of-table t vars (Update name sets scan) = of-range t Write (range_of vars scan.bound)
of-table t vars (Delete name scan) = of-range t Write (range_of vars scan.bound)
of-table t vars (Ensure e) = tt

-- a row of this table that fits
abbrev pub IsOwn : List TableDef → ℕ → Entry → Type 0
IsOwn schema t e = IsRowAt schema e.0 e.1 × (e.0.table ≡ t)

every-both : {A : Type 0} (P Q R : A → Type 0) → ((x : A) → P x → Q x → R x) → (xs : List A) → Every P xs → Every Q xs → Every R xs
every-both P Q R f [] h g = tt
every-both P Q R f (x ∷ xs) h g = (f x h.0 g.0, every-both P Q R f xs h.1 g.1)

own-rows : (schema : List TableDef) (t : ℕ) (o : Option Reach) (es : Tables) → Reaches t o → AreRowsOf schema es → Every (IsOwn schema t) (rows_in o es)
own-rows schema t None es r h = tt
own-rows schema t (Some r) es same h =
    every-both (λ (e : Entry). IsRowAt schema e.0 e.1) (λ (e : Entry). is_within r e.0 ≡ true) (IsOwn schema t)
    (λ e row within. (row, sym (eqb-true r.table e.0.table (and_left (r.table == e.0.table) _ within)) ∙ same))
    (rows_in (Some r) es)
    (every-filter (λ (e : Entry). IsRowAt schema e.0 e.1) (λ (e : Entry). is_within r e.0) es.list h)
    (every-passes (λ (e : Entry). is_within r e.0) es.list)

-- KEYS

strict : (n z p : Bool) → not n ≡ true → (p || (n && z)) ≡ true → p ≡ true
strict true z p h g = absurd cc
strict false z p h g = plain p g
  where
    plain : (p : Bool) → (p || false) ≡ true → p ≡ true
    plain true q = refl
    plain false q = q

pub key-typed : (fs : List Field) (row : List Value) → has_key fs ≡ true → are_of_columns fs row ≡ true → same_types (key_type fs) (value_type (key_of row)) ≡ true
key-typed [] row h g = absurd cc
key-typed (f ∷ fs) [] h g = absurd cc
key-typed (f ∷ fs) (v ∷ row) h g = strict f.nullable (is_null v) _ h (and_left (is_of_column f v) _ g)

-- STATEMENTS, given the rows that they reach

module _ (schema : List TableDef) (scope : Scope) (apart : AreApart (bindings scope)) (vs : List Value) (held : are_arguments (bindings scope) vs ≡ true) where
  abbrev fields : List Field
  fields = bindings scope

  abbrev vars : List Binding
  vars = named_values (bindings scope) vs

  own : AreVariables fields vars
  own = record { values = vs; named = refl; typed = held }

  abbrev Typed : Done → Type 0
  Typed = IsTypedDone schema (bindings scope)

  nothing : (a : Done) → a.changes ≡ [] → a.vars ≡ vars → Typed a
  nothing a changes same = record { changes = subst (AreChangesOf schema) (sym changes) tt; vars = subst (AreVariables fields) (sym same) own }

  done-typed : (r : Result Done Cause) → IfOk Typed r → Typed (done vars r)
  done-typed (Ok d) h = h
  done-typed (Err c) h = record { changes = tt; vars = own }

  ensure-typed : (e : Expr) (t : ℕ) (def : TableDef) (rows : List Entry) → IfOk Typed (do_in t def vars (Ensure e) rows)
  ensure-typed e t def rows = ok-with Typed (holds (no_row vars) e) _ (λ b _. by b)
    where
      by : (b : Bool) → IfOk Typed (cond b (Ok (answering vars Answer.Held)) (Err Cause.Ensure))
      by true = record { changes = tt; vars = own }
      by false = tt

  values-typed : (fs : List Field) (es : List Expr) → are_row fs fields es ≡ true → IfOk (λ row. are_of_columns fs row ≡ true) (values_of (no_row vars) es)
  values-typed [] [] h = refl
  values-typed [] (e ∷ es) h = absurd cc
  values-typed (f ∷ fs) [] h = absurd cc
  values-typed (f ∷ fs) (e ∷ es) h =
      ok-then (λ v. is_of_column f v ≡ true) (λ row. are_of_columns (f ∷ fs) row ≡ true) (value_of (no_row vars) e) _
      (taken [] [] fields vs refl held f e (and_left (takes [] fields f e) _ h))
      (λ v first. ok-then (λ row. are_of_columns fs row ≡ true) (λ row. are_of_columns (f ∷ fs) row ≡ true) (values_of (no_row vars) es) _
      (values-typed fs es (and_right (takes [] fields f e) _ h)) (λ row rest. both (is_of_column f v) _ first rest))

  module _ (t : ℕ) (def : TableDef) (here : slice_get schema t ≡ Some def) (proper : IsProperTable def) where
    at-table : (p : Place) → p.table ≡ t → slice_get schema p.table ≡ Some def
    at-table p e = ap (slice_get schema) e ∙ here

    cells : (e : Entry) → IsOwn schema t e → are_of_columns def.columns e.1 ≡ true
    cells e is = and_left (are_of_columns def.columns e.1) _ (sym (ap (λ (o : Option TableDef). is_row_of o e.1) (at-table e.0 is.1)) ∙ is.0.fits)

    row-fits : (p : Place) (row : List Value) → p.table ≡ t → p.key ≡ key_of row → are_of_columns def.columns row ≡ true → is_ok (checked (in_row def row []) def.checks) ≡ true → IsRowAt schema p row
    row-fits p row same key typed meets = record {
      fits = ap (λ (o : Option TableDef). is_row_of o row) (at-table p same) ∙ both (are_of_columns def.columns row) _ typed meets;
      key = key;
    }

    insert-typed : (rows : List Entry) (row : List Value) → are_of_columns def.columns row ≡ true → IfOk Typed (inserted t def vars rows row)
    insert-typed [] row h = ok-with Typed (checked (in_row def row []) def.checks) _ (λ b e. record { changes = (row-fits (place t (key_of row)) row refl refl h (ap is_ok e), tt); vars = own })
    insert-typed (e ∷ rows) row h = tt

    -- SELECT .. INTO

    cell-typed : (k : ColType) (o : Option Value) → IsGiven false (values k) (known o) → same_types (Some k) (value_type (unwrap_or o (Int (pos 0)))) ≡ true
    cell-typed k None h = or_none _ false h
    cell-typed k (Some v) h = or_none _ false h

    into-typed : (c v : List ℕ) (rows : List Entry) → same_types (type_named def.columns c) (type_named scope.vars v) ≡ true → is_nullable def.columns c ≡ false → Every (IsOwn schema t) rows →
        IfOk Typed (stored def vars c v rows)
    into-typed c v [] types solid all = tt
    into-typed c v (e ∷ rows) types solid all =
        let a = alike (type_named def.columns c) (type_named scope.vars v) types in
        let given = column-given def.columns e.1 c (values a.0) (cells e all.0) (ap (option_map values) a.1) in
        let cell = cell-typed a.0 (value_named c (named_values def.columns e.1)) (subst (λ n. IsGiven n (values a.0) (known (value_named c (named_values def.columns e.1)))) solid given) in
        record { changes = tt; vars = set-variable fields vs v a.0 (column_of def c e.1) held (not-before [] scope.params scope.vars v a.0 apart a.2) cell }

    -- UPDATE

    abbrev IsMade : List Value → List Value → Type 0
    IsMade row new = (are_of_columns def.columns new ≡ true) × (key_of new ≡ key_of row)

    set-typed : (e : Entry) → IsOwn schema t e → (sets : List Set) → list_all (is_typed_set def.columns fields) sets ≡ true → (row : List Value) → are_of_columns def.columns row ≡ true →
        IfOk (IsMade row) (with_sets def (in_row def e.1 vars) sets row)
    set-typed e is [] h row typed = (typed, refl)
    set-typed e is (s ∷ sets) h row typed =
        by (field_named def.columns s.column) refl (and_right (not (is_key def.columns s.column)) _ first) (set-typed e is sets (and_right (is_typed_set def.columns fields s) _ h))
      where
        first : is_typed_set def.columns fields s ≡ true
        first = and_left _ _ h

        other : is_key def.columns s.column ≡ false
        other = not-true _ (and_left _ _ first)

        by : (o : Option Field) → field_named def.columns s.column ≡ o → option_map_or (λ f. takes def.columns fields f s.value) o false ≡ true →
            ((old : List Value) → are_of_columns def.columns old ≡ true → IfOk (IsMade old) (with_sets def (in_row def e.1 vars) sets old)) →
            IfOk (IsMade row) (and_then (value_of (in_row def e.1 vars) s.value) (λ v. with_sets def (in_row def e.1 vars) sets (set_field def.columns s.column v row)))
        by None q g more = absurd cc
        by (Some f) q g more =
            ok-then (λ v. is_of_column f v ≡ true) (IsMade row) (value_of (in_row def e.1 vars) s.value) _ (taken def.columns e.1 fields vs (cells e is) held f s.value g)
            (λ v fits. ok-map (IsMade (set_field def.columns s.column v row)) (IsMade row) (with_sets def (in_row def e.1 vars) sets (set_field def.columns s.column v row))
            (λ new made. (made.0, made.1 ∙ key-stays def.columns s.column v row other))
            (more (set_field def.columns s.column v row) (set-column [] def.columns s.column f v row proper.apart q fits typed)))

    abbrev Fits : Change → Type 0
    Fits c = FitsAt schema (place c.table c.key) c.row

    update-typed : (sets : List Set) → list_all (is_typed_set def.columns fields) sets ≡ true → (e : Entry) → IsOwn schema t e → IfOk Fits (updated def vars sets e)
    update-typed sets h e is =
        ok-then (IsMade e.1) Fits (with_sets def (in_row def e.1 vars) sets e.1) _ (set-typed e is sets h e.1 (cells e is))
        (λ new made. ok-with Fits (checked (in_row def new []) def.checks) _
        (λ b ok. row-fits e.0 new is.1 (is.0.key ∙ sym made.1) made.0 (ap is_ok ok)))

    remove-typed : (e : Entry) → IsOwn schema t e → IfOk Fits (removed e)
    remove-typed e is =
        ap (λ (o : Option TableDef). is_key_of o e.0.key) (at-table e.0 is.1)
        ∙ ap (λ k. same_types (key_type def.columns) (value_type k)) is.0.key
        ∙ key-typed def.columns e.1 proper.key (cells e is)

    matched : (filter : Option Expr) (f : Entry → Result Change Cause) → ((e : Entry) → IsOwn schema t e → IfOk Fits (f e)) →
        (e : Entry) → IsOwn schema t e → IfOk (IfSome Fits) (on_match def vars filter f e)
    matched filter f each e is = ok-with (IfSome Fits) (passes (in_row def e.1 vars) filter) _ (λ b _. by b)
      where
        by : (b : Bool) → IfOk (IfSome Fits) (cond b (and_then (f e) (λ x. Ok (Some x))) (Ok None))
        by true = ok-then Fits (IfSome Fits) (f e) _ (each e is) (λ x h. h)
        by false = tt

    changing-typed : (filter : Option Expr) (f : Entry → Result Change Cause) → ((e : Entry) → IsOwn schema t e → IfOk Fits (f e)) →
        (range : Result KeyRange Cause) (rows : List Entry) → Every (IsOwn schema t) rows →
        IfOk Typed (and_then range (λ r. and_then (collect (on_match def vars filter f) rows) (λ changes. Ok (changing vars changes))))
    changing-typed filter f each range rows all =
        ok-with Typed range _ (λ r _.
        ok-then (AreChangesOf schema) Typed (collect (on_match def vars filter f) rows) _
        (every-collect (IsOwn schema t) Fits (on_match def vars filter f) (matched filter f each) rows all)
        (λ changes fit. record { changes = fit; vars = own }))

    -- what the judgement says of a statement, whose table has these columns
    abbrev pub IsIn : Statement → Type 0
    IsIn st = IfSome (λ name. columns_of schema name ≡ def.columns) (table_in st)

    do-typed : (st : Statement) → IsIn st → is_typed_statement schema scope st ≡ true → (rows : List Entry) → Every (IsOwn schema t) rows → IfOk Typed (do_in t def vars st rows)
    do-typed (Insert name es) same h rows all =
        ok-then (λ row. are_of_columns def.columns row ≡ true) Typed (values_of (no_row vars) es) _ (values-typed def.columns es (subst (λ fs. are_row fs fields es ≡ true) same h)) (insert-typed rows)
    do-typed (Select what name scan) same h rows all =
        ok-with Typed (range_of vars scan.bound) _ (λ r _. ok-with Typed (collect (on_match def vars scan.filter seen) rows) _ (λ found _. ok-with Typed (shown def what found) _ (λ a _.
        record { changes = tt; vars = own })))
    do-typed (SelectInto c v name key) same h rows all =
        let into : (same_types (type_named def.columns c) (type_named scope.vars v) && not (is_nullable def.columns c) && gives_type [] fields (key_type def.columns) key) ≡ true =
        subst (λ fs. (same_types (type_named fs c) (type_named scope.vars v) && not (is_nullable fs c) && gives_type [] fields (key_type fs) key) ≡ true) same h in
        let first = and_left _ _ into in
        ok-with Typed (value_of (no_row vars) key) _ (λ k _. into-typed c v rows (and_left _ _ first) (not-true _ (and_right (same_types (type_named def.columns c) (type_named scope.vars v)) _ first)) all)
    do-typed (Update name sets scan) same h rows all =
        let typed = subst (λ fs. list_all (is_typed_set fs fields) sets ≡ true) same (and_left _ _ h) in
        changing-typed scan.filter (updated def vars sets) (update-typed sets typed) (range_of vars scan.bound) rows all
    do-typed (Delete name scan) same h rows all = changing-typed scan.filter removed remove-typed (range_of vars scan.bound) rows all
    do-typed (Ensure e) same h rows all = ensure-typed e t def rows

  none-typed : (st : Statement) (rows : List Entry) → Typed (do_at vars st None rows)
  none-typed (Insert name es) rows = record { changes = tt; vars = own }
  none-typed (Select what name scan) rows = record { changes = tt; vars = own }
  none-typed (SelectInto c v name key) rows = record { changes = tt; vars = own }
  none-typed (Update name sets scan) rows = record { changes = tt; vars = own }
  none-typed (Delete name scan) rows = record { changes = tt; vars = own }
  none-typed (Ensure e) rows = done-typed _ (ensure-typed e 0 (record { name = []; columns = []; checks = [] }) rows)

  at-some : (st : Statement) (d : ℕ × TableDef) (rows : List Entry) → done vars (do_in d.0 d.1 vars st rows) ≡ do_at vars st (Some d) rows
  at-some (Insert name es) d rows = refl
  at-some (Select what name scan) d rows = refl
  at-some (SelectInto c v name key) d rows = refl
  at-some (Update name sets scan) d rows = refl
  at-some (Delete name scan) d rows = refl
  at-some (Ensure e) d rows = refl

  module _ (each : Every IsProperTable schema) (es : Tables) (fit : AreRowsOf schema es) where
    -- the table of the statement
    looked-up : (st : Statement) (d : ℕ × TableDef) → table_for schema st ≡ Some d → (slice_get schema d.0 ≡ Some d.1) × IsProperTable d.1 × IfSome (λ name. columns_of schema name ≡ d.1.columns) (table_in st)
    looked-up st d e = by (table_in st) e
      where
        by : (o : Option (List ℕ)) → option_and_then (λ name. table_from 0 name schema) o ≡ Some d →
            (slice_get schema d.0 ≡ Some d.1) × IsProperTable d.1 × IfSome (λ name. columns_of schema name ≡ d.1.columns) o
        by None g = absurd cc
        by (Some name) g = let f = found schema name d g in (f.place, every-of IsProperTable d.1 schema each f.one, f.columns)

    pub outcome-typed : (st : Statement) → is_typed_statement schema scope st ≡ true → Typed (outcome_of schema es vars st)
    unfolding outcome_of reach
    outcome-typed st h = by (table_for schema st) refl
      where
        by : (o : Option (ℕ × TableDef)) → table_for schema st ≡ o → Typed (do_at vars st o (rows_in (option_and_then (λ (d : ℕ × TableDef). reach_in d.0 vars st) o) es))
        by None e = none-typed st (rows_in None es)
        by (Some d) e =
            let is = looked-up st d e in
            let rows = own-rows schema d.0 (reach_in d.0 vars st) es (of-table d.0 vars st) fit in
            subst Typed (at-some st d (rows_in (reach_in d.0 vars st) es)) (done-typed _ (do-typed d.0 d.1 is.0 is.1 st is.2 h (rows_in (reach_in d.0 vars st) es) rows))
