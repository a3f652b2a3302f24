-- The lines of what is shown.
use Rattle.salt_ast.specs.declared.trees.TableDef.{TableDef}
use Rattle.salt_model.specs.EventTexts.{family_text, item_text, lock_text, mode_text, place_text, range_text, table_name}
use Rattle.salt_model.specs.Printable.{IsPrintableItem}
use Rattle.salt_model.specs.Words.{Every}
use Rattle.salt_model.specs.declared.locks.Lock.{Lock}
use Rattle.salt_model.specs.declared.shown.Item.TheVariants as item
use Rattle.salt_model.specs.declared.shown.Item.{Item}
use Rattle.law_texts.proofs.Clear.{differ, first}
use Rattle.law_texts.proofs.Names.{name_clear}
use Rattle.law_texts.proofs.Numbering.{table_is_name, table_number_one}
use Rattle.law_texts.proofs.Numbers.{base_clear, owner_clear}
use Rattle.law_texts.proofs.Parts.{place_one, range_one}
use Rattle.law_texts.proofs.Words.{family_one, mode_one}
use Rattle.salt_model.specs.Naming.{IsNaming}
use Rattle.salt_model.specs.Sized.{IsSizedItem}
use Rattle.std.proofs.Common.{List, [], ap, append_assoc, codes, drop, flat_map, refl, sym, ℕ, ◌++◌, ◌∙◌, ◌∷◌, ◌≡◌}

-- A lock's text is parts with blanks between them.
module _ (schema : List TableDef) where
  abbrev pub range_part : Lock → List ℕ
  range_part l = codes " " ++ range_text l.range.lo l.range.hi

  abbrev pub table_part : Lock → List ℕ
  table_part l = codes " " ++ (table_name schema l.table ++ range_part l)

  abbrev pub mode_part : Lock → List ℕ
  mode_part l = codes " " ++ (mode_text l.mode ++ table_part l)

  abbrev pub family_part : Lock → List ℕ
  family_part l = codes " " ++ (family_text l.family ++ mode_part l)

module _ (schema : List TableDef) (naming : IsNaming schema) where
  pub lock_one : (a b : Lock) (x y : List ℕ) → IsPrintableItem schema (item.Lock a) → IsPrintableItem schema (item.Lock b) →
      IsSizedItem (item.Lock a) → IsSizedItem (item.Lock b) → lock_text schema a ++ (10 ∷ x) ≡ lock_text schema b ++ (10 ∷ y) → (a ≡ b) × (x ≡ y)
  lock_one a b x y g h p q e =
      let owner = first owner_clear a.owner b.owner (family_part schema a) (family_part schema b) (10 ∷ x) (10 ∷ y) p.0 q.0 refl refl
      (ap (drop 5) e) in
      let family = family_one a.family b.family (mode_part schema a ++ (10 ∷ x)) (mode_part schema b ++ (10 ∷ y))
      (sym (append_assoc (family_text a.family) (mode_part schema a) (10 ∷ x)) ∙ ap (drop 1) owner.1
      ∙ append_assoc (family_text b.family) (mode_part schema b) (10 ∷ y)) in
      let mode = mode_one a.mode b.mode (table_part schema a ++ (10 ∷ x)) (table_part schema b ++ (10 ∷ y))
      (sym (append_assoc (mode_text a.mode) (table_part schema a) (10 ∷ x)) ∙ ap (drop 1) family.1
      ∙ append_assoc (mode_text b.mode) (table_part schema b) (10 ∷ y)) in
      let name = first name_clear (table_name schema a.table) (table_name schema b.table) (range_part schema a) (range_part schema b)
      (10 ∷ x) (10 ∷ y) (table_is_name schema naming a.table g.0) (table_is_name schema naming b.table h.0) refl refl (ap (drop 1) mode.1) in
      let table = table_number_one schema naming a.table b.table g.0 h.0 name.0 in
      let range = range_one a.range.lo a.range.hi b.range.lo b.range.hi x y g.1 h.1 p.1 p.2 q.1 q.2 (ap (drop 1) name.1) in (
        (λ i. record {
          owner = owner.0 i;
          family = family.0 i;
          mode = mode.0 i;
          table = table i;
          range =
              record { lo = range.0 i; hi = range.1 i };
        }),
        range.2,
      )

  pub item_one : (a b : Item) (x y : List ℕ) → IsPrintableItem schema a → IsPrintableItem schema b → IsSizedItem a → IsSizedItem b →
      item_text schema a ++ x ≡ item_text schema b ++ y → (a ≡ b) × (x ≡ y)
  item_one (item.Lock a) (item.Lock b) x y g h p q e =
      let r = lock_one a b x y g h p q (sym (append_assoc (lock_text schema a) (10 ∷ []) x) ∙ e ∙ append_assoc (lock_text schema b) (10 ∷ []) y) in
      (ap item.Lock r.0, r.1)
  item_one (item.Base c n at) (item.Base d m to) x y g h p q e =
      let base = first base_clear c d (32 ∷ (n ++ (32 ∷ (place_text at ++ 10 ∷ []))))
      (32 ∷ (m ++ (32 ∷ (place_text to ++ 10 ∷ [])))) x y p.0 q.0 refl refl (ap (drop 5) e) in
      let name = first name_clear n m (32 ∷ (place_text at ++ 10 ∷ [])) (32 ∷ (place_text to ++ 10 ∷ [])) x y g h refl refl (ap (drop 1) base.1) in
      let place = place_one at to x y p.1 q.1
      (sym (append_assoc (place_text at) (10 ∷ []) x) ∙ ap (drop 1) name.1 ∙ append_assoc (place_text to) (10 ∷ []) y) in
      ((λ i. item.Base (base.0 i) (name.0 i) (place.0 i)), place.1)
  item_one (item.Lock a) (item.Base d m to) x y g h p q e = absurd (differ _ _ e refl)
  item_one (item.Base c n at) (item.Lock b) x y g h p q e = absurd (differ _ _ e refl)

  -- the lines of items, up to the line that begins with an s
  pub items_one : (xs ys : List Item) (x y : List ℕ) → Every (IsPrintableItem schema) xs → Every (IsPrintableItem schema) ys → Every IsSizedItem xs →
      Every IsSizedItem ys → flat_map (item_text schema) xs ++ (115 ∷ x) ≡ flat_map (item_text schema) ys ++ (115 ∷ y) → (xs ≡ ys) × (x ≡ y)
  items_one [] [] x y g h p q e = (refl, ap (drop 1) e)
  items_one [] (item.Lock b ∷ ys) x y g h p q e = absurd (differ _ _ e refl)
  items_one [] (item.Base d m to ∷ ys) x y g h p q e = absurd (differ _ _ e refl)
  items_one (item.Lock a ∷ xs) [] x y g h p q e = absurd (differ _ _ e refl)
  items_one (item.Base c n at ∷ xs) [] x y g h p q e = absurd (differ _ _ e refl)
  items_one (a ∷ xs) (b ∷ ys) x y g h p q e =
      let here = item_one a b (flat_map (item_text schema) xs ++ (115 ∷ x)) (flat_map (item_text schema) ys ++ (115 ∷ y)) g.0 h.0 p.0 q.0
      (sym (append_assoc (item_text schema a) (flat_map (item_text schema) xs) (115 ∷ x)) ∙ e
      ∙ append_assoc (item_text schema b) (flat_map (item_text schema) ys) (115 ∷ y)) in
      let more = items_one xs ys x y g.1 h.1 p.1 q.1 here.1 in
      ((λ i. here.0 i ∷ more.0 i), more.1)
