use Rattle.salt_books.proofs.ByName.{names-set}
use Rattle.salt_books.proofs.LookUps.{there}
use Rattle.salt_books.proofs.OneHeld.{changed, held-named}
use Rattle.salt_books.proofs.Shown.{books-shown}
use Rattle.salt_books.proofs.books.Books.act.Goals as goal
use Rattle.law_states.specs.Rising.{AreInOrder}
use Rattle.salt_books.specs.Books.{AreLoaded, units_in}
use Rattle.salt_books.specs.Held.{seen}
use Rattle.salt_books.specs.Names.{names_held}
use Rattle.salt_books.specs.declared.held.Held.{Held}
use Rattle.law_states.specs.OpenUnits.{OpenUnit}
use Rattle.salt_ast.specs.declared.trees.Statement.{Statement}
use Rattle.law_states.specs.Steps.{doing_one, outcome_under}
use Rattle.salt_model.specs.Kept.{schema_of}
use Rattle.salt_model.specs.Reaches.{reach}
use Rattle.std.proofs.Common.{List, Some, ap, length, subst, sym, ◌<◌, ◌∙◌, ◌≡◌}
use Rattle.std.specs.Prelude.{get_or}

pub returns-clause-answer : goal.returns-clause-answer
returns-clause-answer c = λ s o h rises named loaded.
    let was = books-shown _ _ s c.self.view_is h in
    let within = subst (λ (hs : List Held). c.place_named-at.result < length hs) c.as_slice.ensures.value c.place_named-at.ensures.within in
    let named-at = λ (d : Held). subst (λ (hs : List Held). (get_or hs c.place_named-at.result d).open.unit ≡ c.args.unit) c.as_slice.ensures.value (c.place_named-at.ensures.named d) in
    let held = c.index_mut.result.now in
    let items = c.self.inside.units.items in
    let st = c.get.result.now in
    let found = held-named items s.units c.place_named-at.result c.args.unit was.units rises within held (named-at held) c.index_mut.ensures.value in
    let lent = subst (λ (x : Statement). AreLoaded (reach (schema_of s.kept) o.vars x) c.args.rows.now s.kept.tables) (sym c.get.ensures) loaded in
    let same : o ≡ seen held = let both : Some o ≡ Some (seen held) = sym named ∙ found in cc in
    let own = subst (λ (x : OpenUnit). AreLoaded (reach (schema_of s.kept) x.vars st) c.args.rows.now s.kept.tables) same lent in
    let did = c.in_ok-answer.ensures.done s.kept (c.schema-schema.ensures ∙ was.known.schema) own in
    did.answer ∙ ap (λ (x : OpenUnit). (outcome_under s.kept x st).answer) (sym same) ∙ ap (λ (x : Statement). (outcome_under s.kept o x).answer) c.get.ensures

pub returns-clause-state : goal.returns-clause-state
returns-clause-state c = λ s o answer h rises named loaded.
    let was = books-shown _ _ s c.self.view_is h in
    let within = subst (λ (hs : List Held). c.place_named-at.result < length hs) c.as_slice.ensures.value c.place_named-at.ensures.within in
    let named-at = λ (d : Held). subst (λ (hs : List Held). (get_or hs c.place_named-at.result d).open.unit ≡ c.args.unit) c.as_slice.ensures.value (c.place_named-at.ensures.named d) in
    let held = c.index_mut.result.now in
    let items = c.self.inside.units.items in
    let st = c.get.result.now in
    let found = held-named items s.units c.place_named-at.result c.args.unit was.units rises within held (named-at held) c.index_mut.ensures.value in
    let lent = subst (λ (x : Statement). AreLoaded (reach (schema_of s.kept) o.vars x) c.args.rows.now s.kept.tables) (sym c.get.ensures) loaded in
    let same : o ≡ seen held = let both : Some o ≡ Some (seen held) = sym named ∙ found in cc in
    let own = subst (λ (x : OpenUnit). AreLoaded (reach (schema_of s.kept) x.vars st) c.args.rows.now s.kept.tables) same lent in
    let did = c.in_ok-answer.ensures.done s.kept (c.schema-schema.ensures ∙ was.known.schema) own in
    record {
      known = was.known;
      units = changed items s.units c.place_named-at.result c.args.unit was.units rises within held (named-at held)
          c.act.new.self (doing_one s.kept c.args.statement.now) c.index_mut.ensures.value
          (did.unit ∙ ap (λ (x : Statement). doing_one s.kept x (seen held)) c.get.ensures);
      unit_count = was.unit_count;
      base_count = was.base_count;
      to_go = was.to_go;
      early = was.early;
      named = was.named;
      owes = was.owes;
    }

pub invariant_of-self : goal.invariant_of-self
invariant_of-self c =
    let held = c.index_mut.result.now in
    λ is. subst AreInOrder
    (sym (names-set c.self.inside.units.items c.place_named-at.result held c.act.new.self (subst (λ (hs : List Held). c.place_named-at.result < length hs) c.as_slice.ensures.value c.place_named-at.ensures.within) c.index_mut.ensures.value c.act.ensures.unit))
    (c.self.invariant is)

pub invariant_of-self-2 : goal.invariant_of-self-2
invariant_of-self-2 c =
    let held = c.index_mut.result.now in
    λ is. subst AreInOrder
    (sym (names-set c.self.inside.units.items c.place_named-at.result held c.act.new.self (subst (λ (hs : List Held). c.place_named-at.result < length hs) c.as_slice.ensures.value c.place_named-at.ensures.within) c.index_mut.ensures.value c.act.ensures.unit))
    (c.self.invariant is)

pub place_named-at-requires : goal.place_named-at-requires
place_named-at-requires c = record {
  ordered = λ is. subst (λ (hs : List Held). AreInOrder (names_held hs)) (sym c.as_slice.ensures.value) (c.self.invariant is);
  there = there c.args.unit c.self.inside.units.items _ _ c.as_slice.ensures.value (ap units_in c.self.view_is) c.requires.there;
}
