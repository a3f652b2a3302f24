-- Units do the statements that programs declare and lines ask for.
use Rattle.salt_ast.specs.declared.lines.Act.TheVariants.{Do}
use Rattle.salt_ast.specs.declared.lines.Line.TheVariants.{Session}
use Rattle.salt_ast.specs.declared.lines.Line.{Line}
use Rattle.salt_ast.specs.declared.trees.Statement.{Statement}
use Rattle.salt_model.specs.After.{kept}
use Rattle.salt_model.specs.Everywhere.{Each}
use Rattle.salt_model.specs.Kept.{block_of_kind}
use Rattle.salt_model.specs.Trace.{Trace, line_of}
use Rattle.salt_model.specs.Units.{Standing, Waiting, done_of, kind_of, line_begun, line_waited, standing}
use Rattle.salt_model.specs.declared.events.End.TheVariants.{Committed}
use Rattle.salt_model.specs.declared.events.Event.TheVariants.{Did, Ended}
use Rattle.salt_model.specs.declared.events.Event.{Event}
use Rattle.salt_model.specs.declared.events.UnitKind.TheVariants.{Acid}
use Rattle.salt_model.specs.declared.events.UnitKind.{UnitKind}
use Rattle.salt_values.specs.declared.id.Id.{Id}
use Rattle.std.specs.Prelude.{List, None, Option, Some, [], length, option_and_then, option_map, slice_get, ℕ, ⊤, ◌∷◌, ◌≡◌}

-- the session's line asks for it: the line in whose segment it is done, or that in whose segment the unit began to wait
abbrev pub IsOfLine : ℕ → Trace → Id → Standing → Statement → Type 0
IsOfLine s trace u Waiting st = line_waited u trace ≡ Session s (Do st)
IsOfLine s trace u standing st = line_of trace ≡ Session s (Do st)

-- where the unit began with a statement's line, it is that statement, and the unit's first
abbrev pub IsOnly : Trace → Id → Statement → Line → Type 0
IsOnly trace u st (Session s (Do only)) = (st ≡ only) × (done_of u trace ≡ [])
IsOnly trace u st line = ⊤

-- a program's unit does the statement of its block behind those done, of the program as it is kept; a session's unit what lines ask
abbrev pub IsDeclaredBy : Trace → Id → Statement → Option UnitKind → Type 0
IsDeclaredBy trace u st None = ⊥
IsDeclaredBy trace u st (Some (Acid s)) = IsOfLine s trace u (standing u trace) st × IsOnly trace u st (line_begun u trace)
IsDeclaredBy trace u st (Some kind) = option_and_then (λ block. slice_get block (length (done_of u trace))) (block_of_kind (kept trace) kind) ≡ Some st

-- where the unit began with a statement's line, that statement
abbrev pub IsOnlyDone : List Statement → Line → Type 0
IsOnlyDone done (Session s (Do only)) = done ≡ only ∷ []
IsOnlyDone done line = ⊤

-- nothing is left that the unit has to do: a program's has done as many statements as its block has
abbrev pub HasDoneAll : Trace → Id → Option UnitKind → Type 0
HasDoneAll trace u None = ⊥
HasDoneAll trace u (Some (Acid s)) = IsOnlyDone (done_of u trace) (line_begun u trace)
HasDoneAll trace u (Some kind) = option_map length (block_of_kind (kept trace) kind) ≡ Some (length (done_of u trace))

-- a unit does what is declared, and commits when it has done all of it
abbrev pub DoesDeclared : Trace → Event → Type 0
DoesDeclared trace (Did u st answer) = IsDeclaredBy trace u st (kind_of u trace)
DoesDeclared trace (Ended u (Committed n)) = HasDoneAll trace u (kind_of u trace)
DoesDeclared trace e = ⊤

abbrev pub IsDeclared : Trace → Type 0
IsDeclared trace = Each DoesDeclared trace
