use Rattle.salt_books.proofs.LookUps.{find-seen}
use Rattle.salt_books.proofs.Shown.{books-shown}
use Rattle.salt_books.proofs.books.Books.unit_of_program.Goals as goal
use Rattle.salt_books.specs.Held.{is_of_program, seen}
use Rattle.law_states.specs.OpenUnits.{OpenUnit, belongs_to_program}
use Rattle.std.proofs.Common.{List, ap, ◌∙◌}
use Rattle.std.specs.List.{find}
use Rattle.std.specs.Prelude.{map, option_map}

pub returns : goal.returns
unfolding is_of_program
returns c = λ s h.
    ap (option_map seen) c.program_in.ensures ∙ find-seen (belongs_to_program c.args.base) c.as_slice.result.now
    ∙ ap (λ (os : List OpenUnit). find (belongs_to_program c.args.base) os) (ap (map seen) c.as_slice.ensures.value ∙ (books-shown _ _ s c.self.view_is h).units)
