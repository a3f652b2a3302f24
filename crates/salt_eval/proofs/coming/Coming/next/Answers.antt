use Rattle.salt_eval.proofs.Comings.{first-comes, left-coming, none-behind, none-comes}
use Rattle.salt_eval.proofs.coming.Coming.next.Goals as goal
use Rattle.salt_eval.proofs.coming.Coming.next.Goals.{else-place-self-via-else-place-self, else-place-self-via-then-place-self+else-has}
use Rattle.salt_eval.specs.Comings.{AreComing}
use Rattle.salt_eval.specs.Views.{is_next}
use Rattle.salt_model.specs.Tables.{Entry, place_cmp}
use Rattle.salt_ranges.specs.Ranges.{has_key}
use Rattle.salt_values.specs.declared.value.Value.{Value}
use Rattle.std.proofs.Common.{List, None, [], ap, false, map, refl, subst, sym, true, ◌&&◌, ◌==◌, ◌∙◌, ◌∷◌, ◌≡◌}
use Rattle.std.proofs.lemmas.Bool.{eq-eqb, ne_eqb}
use Rattle.std.specs.FinMap.Entries.{where_key}

pub returns-in_default : goal.returns-in_default
returns-in_default c =
    let none : (c.args.self.now.entries ≡ []) × (c.next_entry.new.entries ≡ []) = rw c.in_default.is at c.next_entry.ensures in
    let shown : List Entry → List (List Value) = λ es. map (λ (e : Entry). e.1) (where_key place_cmp (is_next c.args.self.now.table c.args.self.now.range None) es) in
    (ap shown none.0, ap shown none.1)

pub returns-then-has : goal.returns-then-has
returns-then-has c =
    let t = c.args.self.now.table in
    let range = c.args.self.now.range in
    let e : Entry = (c.in-Some.place.now, c.in-Some.row.now) in
    let rest = c.next_entry.new.entries in
    let first : c.args.self.now.entries ≡ e ∷ rest = rw c.in-Some.is at c.next_entry.ensures in
    let here : (t == c.in-Some.place.now.table) ≡ true = eq-eqb _ _ (sym c.if-place-self.true) in
    let within : has_key range c.in-Some.place.now.key ≡ true = sym c.has.ensures ∙ c.if-has.true in
    ap (λ (es : List Entry). map (λ (e : Entry). e.1) (where_key place_cmp (is_next t range None) es)) first
    ∙ first-comes t range e rest (subst (λ (es : List Entry). AreComing t range es) first c.args.self.now.in_order) (rw (here, within) refl)

pub returns-else-place-self : goal.returns-else-place-self
returns-else-place-self c =
    let t = c.args.self.now.table in
    let range = c.args.self.now.range in
    let e : Entry = (c.in-Some.place.now, c.in-Some.row.now) in
    let rest = c.next_entry.new.entries in
    let first : c.args.self.now.entries ≡ e ∷ rest = rw c.in-Some.is at c.next_entry.ensures in
    let shown : List Entry → List (List Value) = λ es. map (λ (e : Entry). e.1) (where_key place_cmp (is_next t range None) es) in
    let coming = subst (λ (es : List Entry). AreComing t range es) first c.args.self.now.in_order in
    let past : ((t == c.in-Some.place.now.table) && has_key range c.in-Some.place.now.key) ≡ false → (shown c.args.self.now.entries ≡ []) × (shown rest ≡ []) =
    λ outside. (ap shown first ∙ none-comes t range e rest coming outside, none-behind t range e rest coming outside) in
    elim c.else-place-self.branch [
      | else-place-self-via-then-place-self+else-has w ↦
          let here : (t == c.in-Some.place.now.table) ≡ true = eq-eqb _ _ (sym w.if-place-self.true) in
          let outside : has_key range c.in-Some.place.now.key ≡ false = sym w.has.ensures ∙ w.if-has.false in
          past (rw (here, outside) refl)
      | else-place-self-via-else-place-self w ↦ past (ap (λ b. b && has_key range c.in-Some.place.now.key) (ne_eqb t c.in-Some.place.now.table (λ e. w.if-place-self.false (sym e))))
    ]

-- what is left is still in order
pub invariant_of-self : goal.invariant_of-self
invariant_of-self c = record { in_order = left-coming c.args.self.now.table c.args.self.now.range _ c.next_entry.result c.args.self.now.entries c.next_entry.new.entries c.args.self.now.in_order c.next_entry.ensures }
