use Rattle.salt_ast.specs.declared.lines.Line.TheVariants.{Nothing}
use Rattle.salt_books.proofs.Shown.{have-unit}
use Rattle.salt_books.proofs.States.{books-by, state_by}
use Rattle.salt_books.specs.Held.{seen}
use Rattle.salt_engine.proofs.given.is_open.Goals as goal
use Rattle.std.proofs.Common.{sym}

pub returns-in-Some : goal.returns-in-Some
returns-in-Some c = λ is.
    let x = c.args.books.now in
    have-unit x (state_by x Nothing) c.args.unit (seen c.in-Some._held.now) (books-by x Nothing) (sym (c.in-Some.ensures (state_by x Nothing) (books-by x Nothing)))
