use Rattle.salt_ast.specs.declared.lines.Line.TheVariants.{Crash, Go, GoAll, Net, Nothing, Program, Session, ShowBases, ShowLocks, Table}
use Rattle.salt_ast.specs.declared.lines.Line.{Line}
use Rattle.salt_books.proofs.books.Books.to_go_by.Goals as goal
use Rattle.law_states.specs.Steps.{to_go_by}
use Rattle.salt_model.specs.Kept.{Kept}
use Rattle.salt_model.specs.Trace.{Tree}
use Rattle.std.proofs.Common.{[], refl, ◌∙◌, ◌≡◌}

-- other lines go to no program
to-none : (line : Line) (k : Kept) → (line ≡ GoAll → ⊥) → [] ≡ to_go_by (Tree line) k
to-none GoAll k h = absurd (h refl)
to-none Nothing k h = refl
to-none (Table d) k h = refl
to-none (Program p) k h = refl
to-none (Session s act) k h = refl
to-none (Go b) k h = refl
to-none ShowLocks k h = refl
to-none ShowBases k h = refl
to-none (Crash pairs) k h = refl
to-none (Net pairs) k h = refl

pub returns-in_default : goal.returns-in_default
returns-in_default c = λ s h. c.new.ensures.items ∙ to-none c.args.line.now s.kept c.in_default.not-GoAll
