use Rattle.salt_drain.proofs.recovery.Recovery.open_early.Goals as goal
use Rattle.law_states.specs.Steps.{units_after}
use Rattle.salt_books.specs.Books.{AreBooks}
use Rattle.salt_books.specs.Known.{IsKnown}
use Rattle.salt_books.specs.declared.known.Known.{Known}
use Rattle.salt_model.specs.declared.events.Event.TheVariants.{Early}
use Rattle.salt_drain.proofs.Done.{gives}
use Rattle.salt_values.specs.Id.{in_order}
use Rattle.salt_values.specs.declared.cont.Cont.{Cont}
use Rattle.salt_values.specs.declared.id.Id.{Id}
use Rattle.std.proofs.Common.{subst, sym, ◌∙◌}
use Rattle.std.specs.Prelude.{List, map, refl}

pub returns : goal.returns
returns c = λ s stands r.
    let bs : List Id = in_order (map (λ (d : Cont). d.base) s.units.kept.conts) in
    let told = c.in_ok-bases.ensures s.units.kept (subst (λ (x : Known). IsKnown x s.units.kept) (sym c.known.ensures) stands.books.known) in
    let named = c.in_ok-named.ensures ∙ c.as_slice.ensures.value ∙ told in
    gives (Early bs) _ _ s _ r (λ i. Early ((c.from_vec.ensures ∙ told) i)) refl refl
    (subst (λ (ids : List Id). AreBooks c.open_early.new.self (units_after (Early ids) s.units)) named (c.open_early.ensures s.units stands.books), refl)
    refl
