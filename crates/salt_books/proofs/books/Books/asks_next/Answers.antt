use Rattle.salt_books.proofs.Shown.{books-shown}
use Rattle.salt_books.proofs.books.Books.asks_next.Goals as goal
use Rattle.salt_books.specs.Held.{seen}
use Rattle.law_states.specs.OpenUnits.{asking}
use Rattle.std.proofs.Common.{◌∙◌}

pub returns : goal.returns
returns c = λ s h line. c.asked.ensures ∙ (λ i. asking (line i) (seen c.args.held.now) (c.block_of_kind-block.ensures s.kept (books-shown _ _ s c.self.view_is h).known i))
