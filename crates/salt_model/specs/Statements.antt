-- What a statement does, and statements one after another.
use Rattle.salt_ast.specs.TokenSpelling.{same_bytes}
use Rattle.salt_ast.specs.declared.trees.Bound.TheVariants.{All}
use Rattle.salt_ast.specs.declared.trees.Expr.{Expr}
use Rattle.salt_ast.specs.declared.trees.Field.{Field}
use Rattle.salt_ast.specs.declared.trees.Set.{Set}
use Rattle.salt_ast.specs.declared.trees.Statement.TheVariants.{Delete, Ensure, Insert, Select, SelectInto, Update}
use Rattle.salt_ast.specs.declared.trees.Statement.{Statement}
use Rattle.salt_ast.specs.declared.trees.TableDef.{TableDef}
use Rattle.salt_ast.specs.declared.trees.What.TheVariants.{All, Columns, Count, Max, Min, Sum}
use Rattle.salt_ast.specs.declared.trees.What.{What}
use Rattle.salt_model.specs.Eval.{Visible, holds, is_int64, is_no, named_values, passes, truth_of, value_named, value_of, values_of}
use Rattle.salt_model.specs.Tables.{Edits, Entry, Tables, place, put_changes, rows_in, with_changes}
use Rattle.salt_model.specs.Words.{and_then}
use Rattle.salt_model.specs.declared.events.Answer.TheVariants.{Cell, Count, Failed, Rows, Stored}
use Rattle.salt_model.specs.declared.events.Answer.{Answer}
use Rattle.salt_model.specs.declared.events.Cause.TheVariants.{Check, Duplicate, Ensure, Missing, Overflow}
use Rattle.salt_model.specs.declared.events.Cause.{Cause}
use Rattle.salt_model.specs.declared.events.End.TheVariants.{Failed}
use Rattle.salt_model.specs.declared.locks.Reach.{Reach}
use Rattle.salt_model.specs.declared.places.Place.{Place}
use Rattle.salt_model.specs.declared.vars.Binding.{Binding}
use Rattle.salt_values.specs.Value.{int_in, is_null, is_value_below, key_of}
use Rattle.salt_values.specs.declared.change.Change.{Change}
use Rattle.salt_values.specs.declared.value.Value.TheVariants.{Int}
use Rattle.salt_values.specs.declared.value.Value.{Value}
use Rattle.std.specs.List.{cons_option, filter}
use Rattle.std.specs.Prelude.{Bool, Err, List, None, Ok, Option, Result, Some, [], false, if◌then◌else◌}
use Rattle.std.specs.Prelude.{length, map, not, option_to_list, pos, true, unwrap_or, ℕ, ℤ, ◌++◌, ◌+ℤ◌, ◌∷◌}
use Rattle.salt_model.specs.Reaches.{in_row, no_row, range_of, reach, table_for}

-- the answer, the changes, and the variables after
pub record Done : Type 0 where
  pub answer : Answer
  pub changes : List Change
  pub vars : List Binding

-- a statement that fails changes nothing
abbrev pub done : List Binding → Result Done Cause → Done
done vars (Ok d) = d
done vars (Err c) = record { answer = Failed c; changes = []; vars = vars }

abbrev pub answering : List Binding → Answer → Done
answering vars a = record { answer = a; changes = []; vars = vars }

-- the checks of a table on a row: the first that is false or has a cause; one that is unknown passes
abbrev pub checked : Visible → List Expr → Result Bool Cause
checked s [] = Ok true
checked s (e ∷ es) = and_then (truth_of s e) (λ t. if is_no t then Err Check else checked s es)

abbrev pub change_to : Place → Option (List Value) → Change
change_to p row = record { table = p.table; key = p.key; row = row }

-- what f gives of each element, as far as it gives something
abbrev pub collect : {A B : Type 0} → (A → Result (Option B) Cause) → List A → Result (List B) Cause
collect f [] = Ok []
collect f (x ∷ xs) = and_then (f x) (λ o. and_then (collect f xs) (λ more. Ok (cons_option o more)))

-- what f gives of a row whose filter is true
abbrev pub on_match : {B : Type 0} → TableDef → List Binding → Option Expr → (Entry → Result B Cause) → Entry → Result (Option B) Cause
on_match def vars filter f e = and_then (passes (in_row def e.1 vars) filter) (λ b. if b then and_then (f e) (λ x. Ok (Some x)) else Ok None)

abbrev pub set_field : List Field → List ℕ → Value → List Value → List Value
set_field [] c v vs = vs
set_field (f ∷ fs) c v [] = []
set_field (f ∷ fs) c v (w ∷ ws) = (if same_bytes c f.name then v else w) ∷ set_field fs c v ws

-- each set's value on the old row, in the order written
abbrev pub with_sets : TableDef → Visible → List Set → List Value → Result (List Value) Cause
with_sets def old [] row = Ok row
with_sets def old (s ∷ sets) row = and_then (value_of old s.value) (λ v. with_sets def old sets (set_field def.columns s.column v row))

-- the sets and the checks of a row
abbrev pub updated : TableDef → List Binding → List Set → Entry → Result Change Cause
updated def vars sets e =
    and_then (with_sets def (in_row def e.1 vars) sets e.1) (λ new. and_then (checked (in_row def new []) def.checks) (λ b. Ok (change_to e.0 (Some new))))

abbrev pub removed : Entry → Result Change Cause
removed e = Ok (change_to e.0 None)

abbrev pub seen : Entry → Result (List Value) Cause
seen e = Ok e.1

abbrev pub column_of : TableDef → List ℕ → List Value → Value
column_of def c row = unwrap_or (value_named c (named_values def.columns row)) (Int (pos 0))

abbrev pub total : List Value → ℤ
total [] = pos 0
total (v ∷ vs) = int_in v +ℤ total vs

abbrev pub least : List Value → Option Value
least [] = None
least (v ∷ vs) = elim (least vs) [ None ↦ Some v | Some w ↦ Some (if is_value_below w v then w else v) ]

abbrev pub most_value : List Value → Option Value
most_value [] = None
most_value (v ∷ vs) = elim (most_value vs) [ None ↦ Some v | Some w ↦ Some (if is_value_below v w then w else v) ]

-- the values of a column, without NULLs
abbrev pub values_in : TableDef → List ℕ → List (List Value) → List Value
values_in def c rows = filter (λ v. not (is_null v)) (map (column_of def c) rows)

abbrev pub shown : TableDef → What → List (List Value) → Result Answer Cause
shown def All rows = Ok (Rows rows)
shown def (Columns names) rows = Ok (Rows (map (λ row. map (λ c. column_of def c row) names) rows))
shown def Count rows = Ok (Cell (Some (Int (pos (length rows)))))
shown def (Sum c) rows = let t = total (values_in def c rows) in (if is_int64 t then Ok (Cell (Some (Int t))) else Err Overflow)
shown def (Min c) rows = Ok (Cell (least (values_in def c rows)))
shown def (Max c) rows = Ok (Cell (most_value (values_in def c rows)))

abbrev pub set_var : List ℕ → Value → List Binding → List Binding
set_var n v [] = []
set_var n v (b ∷ bs) = if same_bytes n b.name then record { name = n; value = v } ∷ bs else b ∷ set_var n v bs

abbrev pub inserted : ℕ → TableDef → List Binding → List Entry → List Value → Result Done Cause
inserted t def vars [] row =
    and_then (checked (in_row def row []) def.checks) (λ b.
    Ok (record { answer = Count 1; changes = change_to (place t (key_of row)) (Some row) ∷ []; vars = vars }))
inserted t def vars (e ∷ es) row = Err Duplicate

abbrev pub stored : TableDef → List Binding → List ℕ → List ℕ → List Entry → Result Done Cause
stored def vars c v [] = Err Missing
stored def vars c v (e ∷ es) = let x = column_of def c e.1 in Ok (record { answer = Stored x; changes = []; vars = set_var v x vars })

abbrev pub changing : List Binding → List Change → Done
changing vars changes = record { answer = Count (length changes); changes = changes; vars = vars }

-- doing a statement, given the entries in its reach
abbrev pub do_in : ℕ → TableDef → List Binding → Statement → List Entry → Result Done Cause
do_in t def vars (Insert name es) rows = and_then (values_of (no_row vars) es) (inserted t def vars rows)
do_in t def vars (Select what name scan) rows =
    and_then (range_of vars scan.bound) (λ r.
    and_then (collect (on_match def vars scan.filter seen) rows) (λ found. and_then (shown def what found) (λ a. Ok (answering vars a))))
do_in t def vars (SelectInto c v name key) rows = and_then (value_of (no_row vars) key) (λ k. stored def vars c v rows)
do_in t def vars (Update name sets scan) rows =
    and_then (range_of vars scan.bound) (λ r.
    and_then (collect (on_match def vars scan.filter (updated def vars sets)) rows) (λ changes. Ok (changing vars changes)))
do_in t def vars (Delete name scan) rows =
    and_then (range_of vars scan.bound) (λ r. and_then (collect (on_match def vars scan.filter removed) rows) (λ changes. Ok (changing vars changes)))
do_in t def vars (Ensure e) rows = and_then (holds (no_row vars) e) (λ b. if b then Ok (answering vars Answer.Held) else Err Cause.Ensure)

abbrev pub do_at : List Binding → Statement → Option (ℕ × TableDef) → List Entry → Done
do_at vars (Ensure e) d rows = done vars (do_in 0 (record { name = []; columns = []; checks = [] }) vars (Ensure e) rows)
do_at vars st None rows = done vars (Err Missing)
do_at vars st (Some d) rows = done vars (do_in d.0 d.1 vars st rows)

-- doing a statement on the tables: it sees the entries in its reach, and no others
unfoldable pub outcome_of : List TableDef → Tables → List Binding → Statement → Done
outcome_of schema tables vars st = do_at vars st (table_for schema st) (rows_in (reach schema vars st) tables)

-- what doing statements one after another gives
pub record UnitRun : Type 0 where
  pub answers : List Answer
  pub tables : Tables
  pub vars : List Binding
  pub changes : Edits
  pub reaches : List Reach

abbrev pub has_failed : Answer → Bool
has_failed (Failed c) = true
has_failed a = false

abbrev pub after_done : UnitRun → Option Reach → Done → UnitRun
after_done r reach d = record {
  answers = r.answers ++ d.answer ∷ [];
  tables = with_changes d.changes r.tables;
  vars = d.vars;
  changes = put_changes d.changes r.changes;
  reaches = r.reaches ++ option_to_list reach;
}

abbrev pub doing : List TableDef → UnitRun → Statement → Done
doing schema r st = outcome_of schema r.tables r.vars st

abbrev pub with_done : List TableDef → UnitRun → Statement → UnitRun
with_done schema r st = after_done r (reach schema r.vars st) (doing schema r st)

-- a fold, which ends at the first failed answer
abbrev pub run_on : List TableDef → List Statement → UnitRun → UnitRun
run_on schema [] r = r
run_on schema (st ∷ sts) r = if has_failed (doing schema r st).answer then with_done schema r st else run_on schema sts (with_done schema r st)

abbrev pub run_from : Tables → List Binding → UnitRun
run_from tables vars = record { answers = []; tables = tables; vars = vars; changes = record { list = []; sorted = tt }; reaches = [] }

abbrev pub serial : List TableDef → Tables → List Binding → List Statement → UnitRun
serial schema tables vars sts = run_on schema sts (run_from tables vars)
