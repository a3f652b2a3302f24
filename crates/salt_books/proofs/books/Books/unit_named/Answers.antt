use Rattle.salt_books.proofs.LookUps.{find-seen}
use Rattle.salt_books.proofs.Shown.{books-shown}
use Rattle.salt_books.proofs.books.Books.unit_named.Goals as goal
use Rattle.law_states.specs.Rising.{AreInOrder}
use Rattle.salt_books.specs.Held.{seen}
use Rattle.salt_books.specs.Names.{names_held}
use Rattle.salt_books.specs.declared.held.Held.{Held}
use Rattle.law_states.specs.OpenUnits.{OpenUnit}
use Rattle.salt_values.specs.Id.{is_same_id}
use Rattle.std.proofs.Common.{List, ap, subst, sym, ◌∙◌}
use Rattle.std.specs.List.{find}
use Rattle.std.specs.Prelude.{map, option_map}

pub returns : goal.returns
returns c = λ s h.
    ap (option_map seen) c.named_among.ensures ∙ find-seen (λ (o : OpenUnit). is_same_id o.unit c.args.unit) c.as_slice.result.now
    ∙ ap (λ (os : List OpenUnit). find (λ (o : OpenUnit). is_same_id o.unit c.args.unit) os) (ap (map seen) c.as_slice.ensures.value ∙ (books-shown _ _ s c.self.view_is h).units)

pub named_among-requires : goal.named_among-requires
named_among-requires c = λ is. subst (λ (hs : List Held). AreInOrder (names_held hs)) (sym c.as_slice.ensures.value) (c.self.invariant is)
