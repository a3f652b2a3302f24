use Rattle.salt_books.proofs.LookUps.{names-seen}
use Rattle.salt_books.proofs.Shown.{books-shown}
use Rattle.salt_books.proofs.books.Books.names.Goals as goal
use Rattle.law_states.specs.OpenUnits.{names_in}
use Rattle.salt_books.specs.Held.{seen}
use Rattle.std.proofs.Common.{ap, ◌∙◌}
use Rattle.std.specs.Prelude.{map}

pub returns : goal.returns
returns c = λ s h. c.in_ok-names.ensures ∙ names-seen c.as_slice.result.now ∙ ap names_in (ap (map seen) c.as_slice.ensures.value ∙ (books-shown _ _ s c.self.view_is h).units)
