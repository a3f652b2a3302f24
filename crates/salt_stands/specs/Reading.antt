-- What the layer of definitions tells of texts: a parameter here.
use Rattle.salt_values.specs.declared.cont.Cont.{Cont}
use Rattle.salt_values.specs.declared.value.Value.{Value}
use Rattle.std.specs.Prelude.{Bool, List, Option, ℕ}

-- D is a definition: a table or a program
pub record Reading (D : Type 0) : Type 0 where
  -- the definition whose canonical text this is, with no count of the text passed
  pub read : List ℕ → Option D
  -- under the definitions before it, it passes a limit of what is kept, or names or types or branches are refused
  pub is_refused : List D → D → Bool
  pub count_tables : List D → ℕ
  -- the row has the types of this table, and no check of it is false or has a cause
  pub fits_row : List D → ℕ → List Value → Bool
  -- the value has the type of this table's key
  pub fits_key : List D → ℕ → Value → Bool
  -- a BASE program of this name is defined; the numbers and types of arguments and variables are its own; next is one of
  -- its parts after the first, and there are at most that part's tries
  pub fits_cont : List D → Cont → Bool
