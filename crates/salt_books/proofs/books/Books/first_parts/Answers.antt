use Rattle.salt_books.proofs.LookUps.{parts-seen}
use Rattle.salt_books.proofs.Shown.{books-shown}
use Rattle.salt_books.proofs.books.Books.first_parts.Goals as goal
use Rattle.salt_books.specs.Held.{seen}
use Rattle.law_states.specs.Readings.{first_parts}
use Rattle.std.proofs.Common.{ap, ◌∙◌}
use Rattle.std.specs.Prelude.{map}

pub returns : goal.returns
returns c = λ s h. c.in_ok-bases.ensures ∙ parts-seen c.as_slice.result.now ∙ ap first_parts (ap (map seen) c.as_slice.ensures.value ∙ (books-shown _ _ s c.self.view_is h).units)
