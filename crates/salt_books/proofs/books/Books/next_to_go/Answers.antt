use Rattle.salt_books.proofs.Shown.{books-shown}
use Rattle.salt_books.proofs.books.Books.next_to_go.Goals as goal
use Rattle.law_states.specs.OpenUnits.{can_go_in}
use Rattle.std.proofs.Common.{ap, ◌∙◌}
use Rattle.std.specs.List.{find}

pub returns : goal.returns
returns c = λ s h. c.first_that_goes.ensures s h ∙ ap (find (can_go_in s)) (c.as_slice.ensures ∙ (books-shown _ _ s c.self.view_is h).to_go)
