use Rattle.salt_books.proofs.Cuts.{first-cut}
use Rattle.salt_books.proofs.Shown.{books-shown}
use Rattle.salt_books.proofs.books.Books.next_cut.Goals as goal
use Rattle.salt_books.specs.Held.{seen}
use Rattle.salt_books.specs.declared.held.Held.{Held}
use Rattle.law_states.specs.OpenUnits.{OpenUnit, names_in}
use Rattle.law_states.specs.Rising.{Rising}
use Rattle.salt_model.specs.Words.{first_of_list}
use Rattle.salt_values.specs.Id.{in_order}
use Rattle.salt_values.specs.declared.id.Id.{Id}
use Rattle.std.proofs.Common.{Bor, List, Option, ap, subst, sym, ◌∙◌}
use Rattle.std.specs.List.{filter, find}
use Rattle.std.specs.Option.{option_copied}
use Rattle.std.specs.Prelude.{nat_lt, option_map}

pub returns-in_err-held : goal.returns-in_err-held
returns-in_err-held c = λ s h rises.
    let was = books-shown _ _ s c.self.view_is h in
    let boot = c.boot.ensures ∙ was.known.boot in
    c.from_residual.ensures ∙ ap (λ (o : Option (Bor Held)). option_map (λ (x : Held). (seen x).unit) (option_copied o)) (sym c.in_err-held.was)
    ∙ ap (option_map (λ (x : Held). (seen x).unit))
    (c.first_before.ensures ∙ (λ i. find (λ (x : Held). nat_lt (seen x).unit.boot (boot i)) (c.as_slice.ensures.value i)))
    ∙ first-cut (λ (u : Id). nat_lt u.boot s.kept.boot) c.self.inside.units.items (subst (λ (os : List OpenUnit). Rising (names_in os)) (sym was.units) rises)
    ∙ ap (λ (os : List OpenUnit). first_of_list (in_order (filter (λ (u : Id). nat_lt u.boot s.kept.boot) (names_in os)))) was.units

pub returns : goal.returns
returns c = λ s h rises.
    let was = books-shown _ _ s c.self.view_is h in
    let boot = c.boot.ensures ∙ was.known.boot in
    ap (λ (o : Option (Bor Held)). option_map (λ (x : Held). (seen x).unit) (option_copied o)) (sym c.in_ok-held.was)
    ∙ ap (option_map (λ (x : Held). (seen x).unit))
    (c.first_before.ensures ∙ (λ i. find (λ (x : Held). nat_lt (seen x).unit.boot (boot i)) (c.as_slice.ensures.value i)))
    ∙ first-cut (λ (u : Id). nat_lt u.boot s.kept.boot) c.self.inside.units.items (subst (λ (os : List OpenUnit). Rising (names_in os)) (sym was.units) rises)
    ∙ ap (λ (os : List OpenUnit). first_of_list (in_order (filter (λ (u : Id). nat_lt u.boot s.kept.boot) (names_in os)))) was.units
