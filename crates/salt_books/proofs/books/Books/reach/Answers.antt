use Rattle.salt_books.proofs.Shown.{books-shown}
use Rattle.salt_books.proofs.books.Books.reach.Goals as goal
use Rattle.salt_model.specs.Reaches.{reach}
use Rattle.std.proofs.Common.{ap, ◌∙◌}
use Rattle.std.proofs.lemmas.Result.{IfOk-weaker}

pub returns : goal.returns
returns c = IfOk-weaker c.ask.result _ _ (λ found e s h.
    e ∙ ap (λ schema. reach schema c.args.held.now.open.vars c.args.statement.now) (c.schema.ensures ∙ (books-shown _ _ s c.self.view_is h).known.schema)) c.ask.ensures
