-- The rows of a range with the changes there made in them.
use Rattle.salt_values.specs.Value.{key_of, value_cmp}
use Rattle.salt_values.specs.declared.change.Change.{Change}
use Rattle.salt_values.specs.declared.value.Value.{Value}
use Rattle.salt_eval.specs.Scans.{row_list}
use Rattle.std.specs.Prelude.{Bool, List, Option, [], drop, if◌then◌else◌, option_and_then, slice_get, take, unwrap_or, ℕ, ◌++◌, ◌-◌, ◌∷◌}
use Rattle.std.specs.declared.cmp.Ordering.TheVariants.{Equal, Greater, Less}
use Rattle.std.specs.declared.cmp.Ordering.{Ordering}

-- a change made in rows in order of their keys, and what is made of those behind it
abbrev pub put_by : Ordering → (put : List (List Value)) → (before with_it behind : List (List Value)) → List (List Value)
put_by Less put before with_it behind = before
put_by Equal put before with_it behind = put ++ with_it
put_by Greater put before with_it behind = put ++ behind

abbrev pub put_in : Change → (List (List Value) → List (List Value)) → List (List Value) → List (List Value)
put_in c more [] = row_list c.row ++ more []
put_in c more (row ∷ rows) = put_by (value_cmp (key_of row) c.key) (row_list c.row) (row ∷ put_in c more rows) (more rows) (more (row ∷ rows))

-- changes made in rows, both in order of keys
abbrev pub merged : List Change → List (List Value) → List (List Value)
merged [] rows = rows
merged (c ∷ cs) rows = put_in c (merged cs) rows

-- the changes from one number up to another
abbrev pub changes_ahead : (next end : ℕ) → List Change → List Change
changes_ahead next end cs = take (end - next) (drop next cs)

-- the rows that are still to come of a view, and the one that it stands at, where it waits
abbrev pub rows_ahead : (waits : Bool) → List Value → List (List Value) → List (List Value)
rows_ahead waits row rows = if waits then row ∷ rows else rows

-- a row before others, where there is one
abbrev pub either : (stands : Bool) → List Value → List (List Value) → List (List Value)
either stands row rows = if stands then row ∷ rows else rows

-- the row that the change of a number puts, if there is one
abbrev pub put_at : List Change → Option ℕ → Option (List Value)
put_at cs at = option_and_then (λ (c : Change). c.row) (option_and_then (slice_get cs) at)

-- a row that is put, else the one below
abbrev pub shown_at : Option (List Value) → List Value → List Value
shown_at put below = unwrap_or put below

-- where no row waits, none is before a key
abbrev pub waiting_cmp : (waits : Bool) → List Value → Value → Ordering
waiting_cmp waits row key = if waits then value_cmp (key_of row) key else Greater
