-- The tables that are known, behind a fall and while lines are served.
use Rattle.salt_ast.specs.declared.trees.TableDef.{TableDef}
use Rattle.salt_books.specs.declared.books.Books.{Books}
use Rattle.salt_engine.specs.Standing.{CanReopenAt, StandsAtEventIn, serving_books}
use Rattle.salt_engine.specs.declared.flights.InFlight.{InFlight}
use Rattle.salt_engine.specs.declared.stage.Stage.{Stage}
use Rattle.salt_engine.specs.declared.stage.Stage.TheVariants as at
use Rattle.law_states.specs.Points.{Point}
use Rattle.law_states.specs.States.{State}
use Rattle.salt_model.specs.Kept.{Kept, schema_of}
use Rattle.salt_scheduler.specs.Standing.{books_of}
use Rattle.salt_scheduler.specs.declared.scheduler.Scheduler.{Scheduler}
use Rattle.salt_storage.specs.declared.found.Numbers.{Numbers}
use Rattle.salt_values.specs.declared.id.Id.{Id}
use Rattle.std.proofs.Common.{◌∙◌}
use Rattle.std.specs.Prelude.{Bool, List, None, Option, Some, refl, ℕ, ◌≡◌}

-- THE TABLES, by what is answered where there are books

pub lies-schema : (holds : Kept → Type 0) (leaves : Kept → Kept → Type 0) (stoppable : Bool) (found : Option Numbers) (books : Option Books) (single : Bool) (in_flight : Option InFlight)
    (room : ℕ) (p : Point) (schema : List TableDef) → ((x : Books) → books ≡ Some x → schema ≡ x.known.schema) → CanReopenAt holds leaves stoppable found books single in_flight room p →
    schema ≡ schema_of p.state.units.kept
lies-schema holds leaves stoppable found books single in_flight room p schema tells h = tells h.knows.0 h.knows.1 ∙ h.knows.2.are.known.schema

pub seen-schema : (holds : Kept → Type 0) (is_new : Id → Type 0) (stage : Stage Scheduler) (s : State) (schema : List TableDef) →
    ((x : Books) → serving_books stage ≡ Some x → schema ≡ x.known.schema) → StandsAtEventIn holds is_new stage None s → schema ≡ schema_of s.units.kept
seen-schema holds is_new (at.Going x) s schema tells h = tells (books_of x) refl ∙ h.0.books.known.schema
seen-schema holds is_new (at.Down books) s schema tells h = absurd h
seen-schema holds is_new at.Lost s schema tells h = absurd h
