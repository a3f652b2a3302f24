use Rattle.salt_books.proofs.ByName.{names-set}
use Rattle.salt_books.proofs.LookUps.{there}
use Rattle.salt_books.proofs.OneHeld.{changed}
use Rattle.salt_books.proofs.Shown.{books-shown}
use Rattle.salt_books.proofs.books.Books.wait.Goals as goal
use Rattle.law_states.specs.Rising.{AreInOrder}
use Rattle.salt_books.specs.Books.{units_in}
use Rattle.salt_books.specs.Held.{seen}
use Rattle.salt_books.specs.Names.{names_held}
use Rattle.salt_books.specs.declared.held.Held.{Held}
use Rattle.law_states.specs.OpenUnits.{OpenUnit}
use Rattle.law_states.specs.Steps.{waiting_by}
use Rattle.std.proofs.Common.{List, ap, length, refl, subst, sym, ◌<◌, ◌≡◌}
use Rattle.std.specs.Prelude.{get_or, true}

pub returns : goal.returns
returns c = λ s owners h rises same.
    let was = books-shown _ _ s c.self.view_is h in
    let within = subst (λ (hs : List Held). c.place_named-at.result < length hs) c.as_slice.ensures.value c.place_named-at.ensures.within in
    let named-at = λ (d : Held). subst (λ (hs : List Held). (get_or hs c.place_named-at.result d).open.unit ≡ c.args.unit) c.as_slice.ensures.value (c.place_named-at.ensures.named d) in
    let held = c.index_mut-held.result.now in
    let now : OpenUnit = seen held in
    record {
      known = was.known;
      units = changed c.self.inside.units.items s.units c.place_named-at.result c.args.unit was.units rises within held (named-at held)
          (record held { waiting = true; asks = c.args.asks }) (waiting_by s.line) c.index_mut-held.ensures.value (λ i. record now { waiting = true; asks = same i });
      unit_count = was.unit_count;
      base_count = was.base_count;
      to_go = was.to_go;
      early = was.early;
      named = was.named;
      owes = was.owes;
    }

pub invariant_of-self : goal.invariant_of-self
invariant_of-self c =
    let held = c.index_mut-held.result.now in
    λ is. subst AreInOrder
    (sym (names-set c.self.inside.units.items c.place_named-at.result held (record held { waiting = true; asks = c.args.asks }) (subst (λ (hs : List Held). c.place_named-at.result < length hs) c.as_slice.ensures.value c.place_named-at.ensures.within) c.index_mut-held.ensures.value refl))
    (c.self.invariant is)

pub place_named-at-requires : goal.place_named-at-requires
place_named-at-requires c = record {
  ordered = λ is. subst (λ (hs : List Held). AreInOrder (names_held hs)) (sym c.as_slice.ensures.value) (c.self.invariant is);
  there = there c.args.unit c.self.inside.units.items _ _ c.as_slice.ensures.value (ap units_in c.self.view_is) c.requires;
}
