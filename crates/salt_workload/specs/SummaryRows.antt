-- Summaries of stories, computed.
use Rattle.salt_ast.specs.declared.trees.Statement.{Statement}
use Rattle.salt_ast.specs.declared.trees.Statement.TheVariants.{Ensure}
use Rattle.salt_ast.specs.declared.trees.Expr.TheVariants.{Lit}
use Rattle.salt_model.specs.declared.events.Answer.TheVariants.{Cell, Count, Rows}
use Rattle.salt_model.specs.declared.events.Cause.TheVariants.{Check}
use Rattle.salt_model.specs.declared.events.End.TheVariants.{Branched, Committed, Victim}
use Rattle.salt_model.specs.declared.events.Event.{Event}
use Rattle.salt_model.specs.declared.events.Event.TheVariants.{Accepted, Began, Did, Early, Ended, Finished, Ready, Released, Waits}
use Rattle.salt_model.specs.declared.events.Owner.TheVariants.{Unit}
use Rattle.salt_model.specs.declared.events.UnitKind.TheVariants.{Acid, Later}
use Rattle.salt_model.specs.Summary.{summary_of}
use Rattle.salt_values.specs.declared.id.Id.{Id}
use Rattle.salt_values.specs.declared.value.Value.TheVariants.{Int}
use Rattle.std.specs.Fmt.{digits}
use Rattle.std.specs.Prelude.{List, Some, [], codes, negsuc, pos, refl, ℕ, ◌++◌, ◌∷◌, ◌≡◌}

abbrev id_at : ℕ → Id
id_at n = record { boot = 1; seq = n }

-- what is done does not matter here, but for its answer
abbrev done : Statement
done = Ensure (Lit (Int (pos 1)))

-- an opening alone
nothing_done : summary_of 8 0 (Ready ∷ []) ≡ codes "load 8 lines 0 units 0 committed 0 accepted 0 released 0 waits 0 victims 0 total none" ++ 10 ∷ []
unfolding digits
nothing_done = refl

-- the programs that an early opening names are not released
only_opened : summary_of 8 0 (Early (id_at 1 ∷ id_at 2 ∷ []) ∷ []) ≡
    codes "load 8 lines 0 units 0 committed 0 accepted 0 released 0 waits 0 victims 0 total none" ++ 10 ∷ []
unfolding digits
only_opened = refl

-- Two units begin, and one waits and is given up; the other commits and is accepted. A later part branches, which is no commit; two
-- programs are released by one event.
abbrev story : List Event
story =
    Began (id_at 1) (Acid 1) ∷ Began (id_at 2) (Acid 2) ∷ Waits (id_at 2) (Unit (id_at 1) ∷ []) ∷ Ended (id_at 2) Victim ∷ Did (id_at 1) done (Count 7) ∷
    Ended (id_at 1) (Committed 1) ∷ Accepted (id_at 1) ∷ Began (id_at 3) (Later (id_at 1) 2) ∷ Ended (id_at 3) (Branched 2 Check) ∷ Finished (id_at 1) ∷
    Released (id_at 1 ∷ id_at 2 ∷ []) ∷ []

all_counted : summary_of 1 9 story ≡ codes "load 1 lines 9 units 3 committed 1 accepted 1 released 2 waits 1 victims 1 total none" ++ 10 ∷ []
unfolding digits
all_counted = refl

-- the total is the value of the last statement, where it gave one value
last_value : summary_of 1 10 (Did (id_at 4) done (Cell (Some (Int (pos 5)))) ∷ Did (id_at 5) done (Cell (Some (Int (negsuc 2)))) ∷ []) ≡
    codes "load 1 lines 10 units 0 committed 0 accepted 0 released 0 waits 0 victims 0 total -3" ++ 10 ∷ []
unfolding digits
last_value = refl

rows_behind_a_value : summary_of 1 10 (Did (id_at 4) done (Cell (Some (Int (pos 5)))) ∷ Did (id_at 5) done (Rows []) ∷ []) ≡
    codes "load 1 lines 10 units 0 committed 0 accepted 0 released 0 waits 0 victims 0 total none" ++ 10 ∷ []
unfolding digits
rows_behind_a_value = refl
