use Rattle.salt_books.proofs.Shown.{books-shown}
use Rattle.salt_books.proofs.books.Books.can_go.Goals as goal
use Rattle.law_states.specs.OpenUnits.{is_not_waiting}
use Rattle.std.proofs.Common.{◌∙◌}
use Rattle.std.specs.Prelude.{is_some, ◌&&◌}

pub returns : goal.returns
returns c = λ s h. c.is_left_to_go.ensures ∙ (λ i. is_some (c.cont-cont.ensures s.kept (books-shown _ _ s c.self.view_is h).known i) && is_not_waiting (c.unit_of_program.ensures s h i))
