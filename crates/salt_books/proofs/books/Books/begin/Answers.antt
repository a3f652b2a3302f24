use Rattle.salt_books.proofs.ByName.{order-begun}
use Rattle.salt_books.proofs.Shown.{books-shown}
use Rattle.salt_books.proofs.books.Books.begin.Goals as goal
use Rattle.law_states.specs.Rising.{AreInOrder}
use Rattle.salt_books.specs.Held.{seen}
use Rattle.salt_books.specs.Names.{names_held}
use Rattle.salt_books.specs.declared.held.Held.{Held}
use Rattle.law_states.specs.Overlays.{edits_of}
use Rattle.law_states.specs.Told.{next_unit}
use Rattle.salt_model.specs.Units.{program_begun}
use Rattle.salt_values.specs.declared.id.Id.{Id}
use Rattle.std.proofs.Common.{List, None, [], ap, false, subst, sym, true, ◌+◌, ◌++◌, ◌∙◌, ◌∷◌, ◌≡◌}
use Rattle.std.proofs.lemmas.List.{map-append}
use Rattle.std.specs.Prelude.{if◌then◌else◌, is_some, map}

pub returns-clause-name : goal.returns-clause-name
returns-clause-name c = λ s h i.
    let was = books-shown _ _ s c.self.view_is h in
    record {
      boot = (c.boot-boot.ensures ∙ was.known.boot) i;
      seq = (c.in_ok-seq.ensures ∙ ap (λ n. n + 1) was.unit_count) i;
    }

pub returns-clause-state : goal.returns-clause-state
returns-clause-state c = λ s h single.
    let was = books-shown _ _ s c.self.view_is h in
    let seq = c.in_ok-seq.ensures ∙ ap (λ n. n + 1) was.unit_count in
    let name : ◌≡◌ {A = Id} (record { boot = c.boot-boot.result; seq = c.in_ok-seq.seq }) (next_unit s) =
    λ i. record { boot = (c.boot-boot.ensures ∙ was.known.boot) i; seq = seq i } in
    let vars = c.in_ok-vars.ensures s.kept was.known in
    record {
      known = was.known;
      units = ap (map seen) c.in_ok-push.ensures.items ∙ map-append seen c.self.inside.units.items _
          ∙ (λ i. was.units i ++ record {
            unit = (c.new.ensures.unit ∙ name) i;
            kind = c.args.kind;
            single = single i;
            waiting = false;
            asks = None;
            done = 0;
            vars = (c.new.ensures.vars ∙ vars) i;
            changes = ap edits_of c.new.ensures.changes i;
          } ∷ []);
      unit_count = seq;
      base_count = c.in_ok-base_count.ensures ∙ ap (λ n. if is_some (program_begun c.args.kind) then n + 1 else n) was.base_count;
      to_go = was.to_go;
      early = was.early;
      named = was.named;
      owes = was.owes;
    }

pub stays_in_order-rising-requires : goal.stays_in_order-rising-requires
stays_in_order-rising-requires c = λ is. subst (λ (hs : List Held). AreInOrder (names_held hs)) (sym c.as_slice.ensures.value) (c.self.invariant is)

never : false ≡ true → ⊥
never h = cc

pub invariant_of-self : goal.invariant_of-self
invariant_of-self c = λ is. absurd (never is)

pub invariant_of-self-2 : goal.invariant_of-self-2
invariant_of-self-2 c =
    let name : Id = record { boot = c.boot-boot.result; seq = c.in_ok-seq.seq } in
    λ is. order-begun c.self.inside.units.items c.push.new.self.items _ name c.in_ok-push.ensures.items c.new.ensures.unit
    (subst (λ (hs : List Held). AreInOrder (names_held hs ++ name ∷ [])) c.as_slice.ensures.value (c.stays_in_order-rising.ensures is))
