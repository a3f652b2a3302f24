use Rattle.salt_books.proofs.ByName.{order-left}
use Rattle.salt_books.proofs.LookUps.{there}
use Rattle.salt_books.proofs.OneHeld.{left}
use Rattle.salt_books.proofs.Shown.{books-shown}
use Rattle.salt_books.proofs.books.Books.branch.Goals as goal
use Rattle.law_states.specs.Rising.{AreInOrder}
use Rattle.salt_books.specs.Books.{units_in}
use Rattle.salt_books.specs.Held.{seen}
use Rattle.salt_books.specs.Names.{names_held}
use Rattle.salt_books.specs.declared.held.Held.{Held}
use Rattle.law_states.specs.Steps.{kept_ended}
use Rattle.law_states.specs.Told.{next_decision_number}
use Rattle.salt_books.specs.Known.{IsKnown}
use Rattle.salt_model.specs.Kept.{Kept}
use Rattle.salt_model.specs.declared.events.End.TheVariants.{Branched}
use Rattle.std.proofs.Common.{List, ap, length, subst, sym, ◌<◌, ◌∙◌, ◌≡◌}
use Rattle.std.specs.Prelude.{get_or, map}

pub returns : goal.returns
returns c = λ s o conts cause is h rises named moves are.
    let was = books-shown _ _ s c.self.view_is h in
    let within = subst (λ (hs : List Held). c.place_named-at.result < length hs) c.as_slice.ensures.value c.place_named-at.ensures.within in
    let named-at = λ (d : Held). subst (λ (hs : List Held). (get_or hs c.place_named-at.result d).open.unit ≡ c.args.unit) c.as_slice.ensures.value (c.place_named-at.ensures.named d) in
    let held = c.remove-held.result in
    let items = c.self.inside.units.items in
    let end = Branched (next_decision_number s) cause in
    record {
      known = subst (λ (k : Kept). IsKnown c.commit.new.self k)
          ((λ i. record s.kept { decisions = is i; tables = s.kept.tables; conts = are i }) ∙ sym (ap (kept_ended s.kept end) named))
          (c.in_ok-commit.ensures s.kept conts was.known moves (s.kept.tables));
      units = ap (map seen) c.remove-held.ensures.items
          ∙ left items s.units c.place_named-at.result c.args.unit was.units rises within held (named-at held);
      unit_count = was.unit_count;
      base_count = was.base_count;
      to_go = was.to_go;
      early = was.early;
      named = was.named;
      owes = was.owes;
    }

pub invariant_of-self : goal.invariant_of-self
invariant_of-self c = λ is. subst (λ (hs : List Held). AreInOrder (names_held hs)) (sym c.remove-held.ensures.items) (order-left c.self.inside.units.items c.place_named-at.result (c.self.invariant is))

pub invariant_of-self-2 : goal.invariant_of-self-2
invariant_of-self-2 c = λ is. subst (λ (hs : List Held). AreInOrder (names_held hs)) (sym c.remove-held.ensures.items) (order-left c.self.inside.units.items c.place_named-at.result (c.self.invariant is))

pub place_named-at-requires : goal.place_named-at-requires
place_named-at-requires c = record {
  ordered = λ is. subst (λ (hs : List Held). AreInOrder (names_held hs)) (sym c.as_slice.ensures.value) (c.self.invariant is);
  there = there c.args.unit c.self.inside.units.items _ _ c.as_slice.ensures.value (ap units_in c.self.view_is) c.requires;
}
