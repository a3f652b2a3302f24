use Rattle.salt_books.proofs.Shown.{books-shown}
use Rattle.salt_books.proofs.books.Books.is_at_end.Goals as goal
use Rattle.salt_books.specs.Held.{seen}
use Rattle.law_states.specs.Told.{is_at_end_in}
use Rattle.std.proofs.Common.{ap, ◌∙◌}

pub returns : goal.returns
returns c = λ s h. c.ends_block.ensures ∙ ap (is_at_end_in (seen c.args.held.now)) (c.block_of_kind-block.ensures s.kept (books-shown _ _ s c.self.view_is h).known)
