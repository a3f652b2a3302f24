use Rattle.salt_books.proofs.AtEnd.{at-end, not-at-end}
use Rattle.salt_books.proofs.books.Books.commit_at_end.Goals as goal
use Rattle.salt_books.specs.Held.{seen}
use Rattle.std.proofs.Common.{sym}

pub returns-then-is_at_end : goal.returns-then-is_at_end
returns-then-is_at_end c = λ s books.
    at-end s c.args.unit (seen c.in-Some.held.now) (sym (c.in-Some.ensures s books)) (sym (c.if-is_at_end.ensures s books))

pub returns-else-is_at_end : goal.returns-else-is_at_end
returns-else-is_at_end c = λ s books.
    not-at-end s c.args.unit (seen c.in-Some.held.now) (sym (c.in-Some.ensures s books)) (sym (c.if-is_at_end.ensures s books))
