use Rattle.salt_books.proofs.LookUps.{find-seen}
use Rattle.salt_books.proofs.Shown.{books-shown}
use Rattle.salt_books.proofs.books.Books.unit_of_session.Goals as goal
use Rattle.salt_books.specs.Held.{is_of_session, seen}
use Rattle.law_states.specs.OpenUnits.{OpenUnit, belongs_to_session}
use Rattle.std.proofs.Common.{List, ap, ◌∙◌}
use Rattle.std.specs.List.{find}
use Rattle.std.specs.Prelude.{map, option_map}

pub returns : goal.returns
unfolding is_of_session
returns c = λ s h.
    ap (option_map seen) c.session_in.ensures ∙ find-seen (belongs_to_session c.args.session) c.as_slice.result.now
    ∙ ap (λ (os : List OpenUnit). find (belongs_to_session c.args.session) os) (ap (map seen) c.as_slice.ensures.value ∙ (books-shown _ _ s c.self.view_is h).units)
