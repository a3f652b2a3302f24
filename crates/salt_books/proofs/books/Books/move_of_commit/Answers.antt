use Rattle.salt_books.proofs.Shown.{books-shown}
use Rattle.salt_books.proofs.books.Books.move_of_commit.Goals as goal
use Rattle.salt_books.specs.Held.{seen}
use Rattle.law_states.specs.OpenUnits.{OpenUnit}
use Rattle.law_states.specs.Told.{next_decision_number}
use Rattle.salt_books.specs.Moves.{CanMove}
use Rattle.salt_model.specs.Kept.{conts_committed}
use Rattle.std.proofs.Common.{Some, ap, subst, sym, ◌∙◌, ◌≡◌}
use Rattle.std.proofs.lemmas.Result.{IfOk-weaker}

pub returns : goal.returns
returns c = IfOk-weaker c.move_of_commit.result _ _ (λ made f s o h named stands can.
    let found = c.held-held.ensures s h in
    let same : o ≡ seen c.held-held.result.now = let both : Some o ≡ Some (seen c.held-held.result.now) = sym named ∙ found in cc in
    f s.kept (books-shown _ _ s c.self.view_is h).known (stands (seen c.held-held.result.now) found) (subst (λ (x : OpenUnit). CanMove s.kept x.kind) same can)
    ∙ ap (λ (x : OpenUnit). Some (conts_committed s.kept (next_decision_number s) x.kind x.vars)) (sym same)) c.move_of_commit.ensures
