-- One text of events is of one story.
use Rattle.salt_ast.specs.ProgramTexts.{base_text, id_text}
use Rattle.salt_ast.specs.Texts.{preceded, statement_text}
use Rattle.salt_ast.specs.declared.trees.TableDef.{TableDef}
use Rattle.salt_model.specs.EventTexts.{answer_text, end_text, event_line, event_text, item_text, kind_text, owner_text, story_text, unit_text}
use Rattle.salt_model.specs.Printable.{HasPrintedForm, IsPrintable, IsPrintableStory}
use Rattle.salt_model.specs.Words.{Every}
use Rattle.salt_model.specs.declared.events.End.TheVariants as end
use Rattle.salt_model.specs.declared.events.End.{End}
use Rattle.salt_model.specs.declared.events.Event.TheVariants as event
use Rattle.salt_model.specs.declared.events.Event.{Event}
use Rattle.salt_model.specs.declared.events.UnitKind.TheVariants as kind
use Rattle.salt_model.specs.declared.events.UnitKind.{UnitKind}
use Rattle.salt_model.specs.declared.shown.Item.TheVariants as item
use Rattle.salt_model.specs.declared.shown.Item.{Item}
use Rattle.law_texts.proofs.Clear.{Stops, apart, differ, each_one, first}
use Rattle.law_texts.proofs.Inline.{definition_inline, line_one}
use Rattle.law_texts.proofs.Items.{items_one}
use Rattle.law_texts.proofs.Numbers.{base_clear, decimal_clear, owner_clear, stop_clear, unit_clear}
use Rattle.law_texts.proofs.Parts.{answer_one, end_one, kind_one, number_one, refusal_one}
use Rattle.law_texts.proofs.Statements.{statement_one}
use Rattle.law_texts.proofs.Values.{number_begins}
use Rattle.law_texts.proofs.Words.{why_one}
use Rattle.salt_model.specs.Naming.{IsNaming}
use Rattle.salt_model.specs.Sized.{IsSizedEvent, IsSizedId}
use Rattle.law_texts.specs.Below.{LawsBelow}
use Rattle.salt_values.specs.declared.id.Id.{Id}
use Rattle.std.proofs.Common.{List, [], ap, append-nil, append_assoc, arith, codes, decimal, drop, flat_map, length, refl, sym, true, ℕ, ◌++◌, ◌∙◌}
use Rattle.std.proofs.Common.{◌∷◌, ◌≡◌}
use Rattle.std.proofs.lemmas.List.{append_cancel_left}

-- ---- what stands behind the name of a unit

kind_stops : (k : UnitKind) (z : List ℕ) → Stops (kind_text k ++ z)
kind_stops (kind.Acid s) z = refl
kind_stops k z = refl

end_stops : (e : End) (z : List ℕ) → Stops (end_text e ++ z)
end_stops end.Cut z = refl
end_stops e z = refl

kind_not_did : (k : UnitKind) (z w : List ℕ) → apart (kind_text k ++ z) (32 ∷ 100 ∷ w) ≡ true
kind_not_did (kind.Acid s) z w = refl
kind_not_did k z w = refl

kind_not_waits : (k : UnitKind) (z w : List ℕ) → apart (kind_text k ++ z) (32 ∷ 119 ∷ w) ≡ true
kind_not_waits (kind.Acid s) z w = refl
kind_not_waits k z w = refl

began_not_end : (e : End) (z w : List ℕ) → apart (32 ∷ 98 ∷ 101 ∷ z) (end_text e ++ w) ≡ true
began_not_end end.Cut z w = refl
began_not_end e z w = refl

kind_not_end : (k : UnitKind) (e : End) (z w : List ℕ) → apart (kind_text k ++ z) (end_text e ++ w) ≡ true
kind_not_end (kind.Acid s) e z w = began_not_end e (drop 3 (kind_text (kind.Acid s) ++ z)) w
kind_not_end k e z w = began_not_end e (drop 3 (kind_text k ++ z)) w

end_not_did : (e : End) (z w : List ℕ) → apart (end_text e ++ z) (32 ∷ 100 ∷ w) ≡ true
end_not_did end.Cut z w = refl
end_not_did e z w = refl

end_not_waits : (e : End) (z w : List ℕ) → apart (end_text e ++ z) (32 ∷ 119 ∷ w) ≡ true
end_not_waits end.Cut z w = refl
end_not_waits e z w = refl

-- two lines of units that differ behind their names
units_differ : (u v : Id) (p q x y : List ℕ) → IsSizedId u → IsSizedId v → Stops (p ++ x) → Stops (q ++ y) → apart (p ++ x) (q ++ y) ≡ true →
    (unit_text u ++ p) ++ x ≡ (unit_text v ++ q) ++ y → ⊥
units_differ u v p q x y g h s t d e = differ (p ++ x) (q ++ y) (first unit_clear u v p q x y g h s t e).1 d

bases_differ : (u v : Id) (p q x y : List ℕ) → IsSizedId u → IsSizedId v → Stops (p ++ x) → Stops (q ++ y) → apart (p ++ x) (q ++ y) ≡ true →
    (base_text u ++ p) ++ x ≡ (base_text v ++ q) ++ y → ⊥
bases_differ u v p q x y g h s t d e = differ (p ++ x) (q ++ y) (first base_clear u v p q x y g h s t e).1 d

-- a program's name does not begin as the line of an item does
base_not_item : (b : Id) (p z w : List ℕ) → IsSizedId b → (base_text b ++ p) ++ z ≡ 98 ∷ 97 ∷ w → ⊥
base_not_item b p z w h e =
    number_begins b.boot 97 ((46 ∷ decimal b.seq) ++ (p ++ z)) w h.0 refl
    (sym (append_assoc (decimal b.boot) (46 ∷ decimal b.seq) (p ++ z)) ∙ sym (append_assoc (id_text b) p z) ∙ ap (drop 1) e)

nothing_is_no_event : (p q : List ℕ) → [] ≡ (p ++ 10 ∷ []) ++ q → ⊥
nothing_is_no_event [] q e = differ _ _ e refl
nothing_is_no_event (c ∷ cs) q e = differ _ _ e refl

module _ (laws : LawsBelow) (schema : List TableDef) (naming : IsNaming schema) where
  event_one : (a b : Event) (x y : List ℕ) → HasPrintedForm schema a → HasPrintedForm schema b → IsSizedEvent a → IsSizedEvent b →
      event_line schema a ++ (10 ∷ x) ≡ event_line schema b ++ (10 ∷ y) → (a ≡ b) × (x ≡ y)
  event_one (event.Began u k) (event.Began v l) x y g h p q e =
      let unit = first unit_clear u v (kind_text k) (kind_text l) (10 ∷ x) (10 ∷ y) p.0 q.0 (kind_stops k (10 ∷ x)) (kind_stops l (10 ∷ y)) e in
      let kind = kind_one k l x y g h p.1 q.1 unit.1 in
      ((λ i. event.Began (unit.0 i) (kind.0 i)), kind.1)
  event_one (event.Did u st k) (event.Did v su l) x y g h p q e =
      let unit = first unit_clear u v (codes " did " ++ (statement_text st ++ (codes " -> " ++ answer_text k)))
      (codes " did " ++ (statement_text su ++ (codes " -> " ++ answer_text l))) (10 ∷ x) (10 ∷ y) p.0 q.0 refl refl e in
      let bare = sym (append_assoc (statement_text st) (codes " -> " ++ answer_text k) (10 ∷ x)) ∙ ap (drop 5) unit.1
      ∙ append_assoc (statement_text su) (codes " -> " ++ answer_text l) (10 ∷ y) in
      let statement = statement_one laws st su (32 ∷ (answer_text k ++ (10 ∷ x))) (32 ∷ (answer_text l ++ (10 ∷ y))) g h bare in
      let answer = answer_one k l x y p.1 q.1 (ap (drop 1) statement.1) in
      ((λ i. event.Did (unit.0 i) (statement.0 i) (answer.0 i)), answer.1)
  event_one (event.Waits u k) (event.Waits v l) x y g h p q e =
      let unit = first unit_clear u v (codes " waits" ++ preceded (codes " ") owner_text k) (codes " waits" ++ preceded (codes " ") owner_text l)
      (10 ∷ x) (10 ∷ y) p.0 q.0 refl refl e in
      let owners = each_one owner_clear 32 [] refl 10 (λ z. omega arith) refl k l x y p.1 q.1 (ap (drop 6) unit.1) in
      ((λ i. event.Waits (unit.0 i) (owners.0 i)), owners.1)
  event_one (event.Ended u k) (event.Ended v l) x y g h p q e =
      let unit = first unit_clear u v (end_text k) (end_text l) (10 ∷ x) (10 ∷ y) p.0 q.0 (end_stops k (10 ∷ x)) (end_stops l (10 ∷ y)) e in
      let ends = end_one k l x y p.1 q.1 unit.1 in
      ((λ i. event.Ended (unit.0 i) (ends.0 i)), ends.1)
  event_one (event.Accepted u) (event.Accepted v) x y g h p q e =
      let base = first base_clear u v (codes " accepted") (codes " accepted") (10 ∷ x) (10 ∷ y) p q refl refl e in
      (ap event.Accepted base.0, ap (drop 10) base.1)
  event_one (event.Finished u) (event.Finished v) x y g h p q e =
      let base = first base_clear u v (codes " finished") (codes " finished") (10 ∷ x) (10 ∷ y) p q refl refl e in
      (ap event.Finished base.0, ap (drop 10) base.1)
  event_one (event.Released k) (event.Released l) x y g h p q e =
      let bases = each_one base_clear 32 [] refl 10 (λ z. omega arith) refl k l x y p q (ap (drop 8) e) in
      (ap event.Released bases.0, bases.1)
  event_one (event.Down k) (event.Down l) x y g h p q e =
      let why = why_one k l (10 ∷ x) (10 ∷ y) (ap (drop 5) e) in
      (ap event.Down why.0, ap (drop 1) why.1)
  event_one (event.Opened k m) (event.Opened l n) x y g h p q e =
      let boot = first decimal_clear k l (32 ∷ decimal m) (32 ∷ decimal n) (10 ∷ x) (10 ∷ y) p.0 q.0 refl refl (ap (drop 7) e) in
      let number = number_one m n x y p.1 q.1 (ap (drop 1) boot.1) in
      ((λ i. event.Opened (boot.0 i) (number.0 i)), number.1)
  event_one event.Ready event.Ready x y g h p q e =
      (refl, ap (drop 6) e)
  event_one (event.Early k) (event.Early l) x y g h p q e =
      let bases = each_one base_clear 32 [] refl 10 (λ z. omega arith) refl k l x y p q (ap (drop 5) e) in
      (ap event.Early bases.0, bases.1)
  event_one (event.Defined k m) (event.Defined l n) x y g h p q e =
      let number = first decimal_clear k l (32 ∷ m) (32 ∷ n) (10 ∷ x) (10 ∷ y) p q refl refl (ap (drop 8) e) in
      let text = line_one m n x y (definition_inline laws m g) (definition_inline laws n h) (ap (drop 1) number.1) in
      ((λ i. event.Defined (number.0 i) (text.0 i)), text.1)
  event_one (event.Refused k) (event.Refused l) x y g h p q e =
      let refusal = refusal_one k l x y g h (ap (drop 8) e) in
      (ap event.Refused refusal.0, refusal.1)
  event_one (event.Armed k) (event.Armed l) x y g h p q e =
      let pairs = each_one stop_clear 32 [] refl 10 (λ z. omega arith) refl k l x y p q (ap (drop 5) e) in
      (ap event.Armed pairs.0, pairs.1)
  event_one (event.Shown k) (event.Shown l) x y g h p q e =
      let bare = sym (append_assoc (flat_map (item_text schema) k) (codes "shown " ++ decimal (length k)) (10 ∷ x)) ∙ e
      ∙ append_assoc (flat_map (item_text schema) l) (codes "shown " ++ decimal (length l)) (10 ∷ y) in
      let items = items_one schema naming k l ((codes "hown " ++ decimal (length k)) ++ (10 ∷ x))
      ((codes "hown " ++ decimal (length l)) ++ (10 ∷ y)) g h p q bare in
      let counts = ap (drop 5) items.1 ∙ ap (λ (n : List Item). decimal (length n) ++ (10 ∷ y)) (sym items.0) in
      (ap event.Shown items.0, ap (drop 1) (append_cancel_left (decimal (length k)) (10 ∷ x) (10 ∷ y) counts))
  event_one (event.Began u k) (event.Did v su l) x y g h p q e =
      absurd (units_differ u v (kind_text k) (codes " did " ++ (statement_text su ++ (codes " -> " ++ answer_text l))) (10 ∷ x) (10 ∷ y) p.0 q.0
      (kind_stops k _) refl (kind_not_did k _ _) e)
  event_one (event.Began u k) (event.Waits v l) x y g h p q e =
      absurd (units_differ u v (kind_text k) (codes " waits" ++ preceded (codes " ") owner_text l) (10 ∷ x) (10 ∷ y) p.0 q.0 (kind_stops k _) refl
      (kind_not_waits k _ _) e)
  event_one (event.Began u k) (event.Ended v l) x y g h p q e =
      absurd (units_differ u v (kind_text k) (end_text l) (10 ∷ x) (10 ∷ y) p.0 q.0 (kind_stops k _) (end_stops l _) (kind_not_end k l _ _) e)
  event_one (event.Did u st k) (event.Began v l) x y g h p q e =
      absurd (units_differ v u (kind_text l) (codes " did " ++ (statement_text st ++ (codes " -> " ++ answer_text k))) (10 ∷ y) (10 ∷ x) q.0 p.0
      (kind_stops l _) refl (kind_not_did l _ _) (sym e))
  event_one (event.Did u st k) (event.Waits v l) x y g h p q e =
      absurd (units_differ u v (codes " did " ++ (statement_text st ++ (codes " -> " ++ answer_text k)))
      (codes " waits" ++ preceded (codes " ") owner_text l) (10 ∷ x) (10 ∷ y) p.0 q.0 refl refl refl e)
  event_one (event.Did u st k) (event.Ended v l) x y g h p q e =
      absurd (units_differ v u (end_text l) (codes " did " ++ (statement_text st ++ (codes " -> " ++ answer_text k))) (10 ∷ y) (10 ∷ x) q.0 p.0
      (end_stops l _) refl (end_not_did l _ _) (sym e))
  event_one (event.Waits u k) (event.Began v l) x y g h p q e =
      absurd (units_differ v u (kind_text l) (codes " waits" ++ preceded (codes " ") owner_text k) (10 ∷ y) (10 ∷ x) q.0 p.0 (kind_stops l _) refl
      (kind_not_waits l _ _) (sym e))
  event_one (event.Waits u k) (event.Did v su l) x y g h p q e =
      absurd (units_differ v u (codes " did " ++ (statement_text su ++ (codes " -> " ++ answer_text l)))
      (codes " waits" ++ preceded (codes " ") owner_text k) (10 ∷ y) (10 ∷ x) q.0 p.0 refl refl refl (sym e))
  event_one (event.Waits u k) (event.Ended v l) x y g h p q e =
      absurd (units_differ v u (end_text l) (codes " waits" ++ preceded (codes " ") owner_text k) (10 ∷ y) (10 ∷ x) q.0 p.0 (end_stops l _) refl
      (end_not_waits l _ _) (sym e))
  event_one (event.Ended u k) (event.Began v l) x y g h p q e =
      absurd (units_differ v u (kind_text l) (end_text k) (10 ∷ y) (10 ∷ x) q.0 p.0 (kind_stops l _) (end_stops k _) (kind_not_end l k _ _) (sym e))
  event_one (event.Ended u k) (event.Did v su l) x y g h p q e =
      absurd (units_differ u v (end_text k) (codes " did " ++ (statement_text su ++ (codes " -> " ++ answer_text l))) (10 ∷ x) (10 ∷ y) p.0 q.0
      (end_stops k _) refl (end_not_did k _ _) e)
  event_one (event.Ended u k) (event.Waits v l) x y g h p q e =
      absurd (units_differ u v (end_text k) (codes " waits" ++ preceded (codes " ") owner_text l) (10 ∷ x) (10 ∷ y) p.0 q.0 (end_stops k _) refl
      (end_not_waits k _ _) e)
  event_one (event.Accepted u) (event.Finished v) x y g h p q e =
      absurd (bases_differ u v (codes " accepted") (codes " finished") (10 ∷ x) (10 ∷ y) p q refl refl refl e)
  event_one (event.Finished u) (event.Accepted v) x y g h p q e =
      absurd (bases_differ u v (codes " finished") (codes " accepted") (10 ∷ x) (10 ∷ y) p q refl refl refl e)
  event_one (event.Accepted u) (event.Shown (item.Base d n at ∷ l)) x y g h p q e =
      absurd (base_not_item u (codes " accepted") (10 ∷ x) _ p e)
  event_one (event.Shown (item.Base d n at ∷ l)) (event.Accepted u) x y g h p q e =
      absurd (base_not_item u (codes " accepted") (10 ∷ y) _ q (sym e))
  event_one (event.Finished u) (event.Shown (item.Base d n at ∷ l)) x y g h p q e =
      absurd (base_not_item u (codes " finished") (10 ∷ x) _ p e)
  event_one (event.Shown (item.Base d n at ∷ l)) (event.Finished u) x y g h p q e =
      absurd (base_not_item u (codes " finished") (10 ∷ y) _ q (sym e))
  event_one (event.Shown []) b x y g h p q e = absurd (differ _ _ e refl)
  event_one a (event.Shown []) x y g h p q e = absurd (differ _ _ e refl)
  event_one (event.Shown (item.Lock l ∷ k)) b x y g h p q e = absurd (differ _ _ e refl)
  event_one a (event.Shown (item.Lock l ∷ k)) x y g h p q e = absurd (differ _ _ e refl)
  event_one (event.Shown (item.Base d n at ∷ k)) b x y g h p q e = absurd (differ _ _ e refl)
  event_one a (event.Shown (item.Base d n at ∷ k)) x y g h p q e = absurd (differ _ _ e refl)
  event_one a b x y g h p q e = absurd (differ _ _ e refl)

  printed_one : (a b : Event) (x y : List ℕ) → IsPrintable schema a → IsPrintable schema b →
      event_line schema a ++ (10 ∷ x) ≡ event_line schema b ++ (10 ∷ y) → (a ≡ b) × (x ≡ y)
  printed_one a b x y g h e = event_one a b x y g.form h.form g.sizes h.sizes e

  begins : (a b : List Event) (x : List ℕ) → Every (IsPrintable schema) a → Every (IsPrintable schema) b →
      story_text schema a ++ x ≡ story_text schema b → (c : List Event) × (b ≡ a ++ c) × (x ≡ story_text schema c)
  begins [] b x g h e = (b, refl, e)
  begins (a ∷ more) [] x g h e =
      let whole = append_assoc (event_text schema a) (story_text schema more) x in
      absurd (nothing_is_no_event (event_line schema a) (story_text schema more ++ x) (sym e ∙ whole))
  begins (a ∷ more) (b ∷ bs) x g h e =
      let left = append_assoc (event_line schema a) (10 ∷ []) (story_text schema more ++ x) in
      let whole = append_assoc (event_text schema a) (story_text schema more) x in
      let right = append_assoc (event_line schema b) (10 ∷ []) (story_text schema bs) in
      let here = printed_one a b (story_text schema more ++ x) (story_text schema bs) g.0 h.0 (sym left ∙ sym whole ∙ e ∙ right) in
      let rest = begins more bs x g.1 h.1 here.1 in
      (rest.0, (λ i. sym here.0 i ∷ rest.1 i), rest.2)

module _ (laws : LawsBelow) (schema : List TableDef) where
  -- an event's lines, whatever comes behind them
  pub event_told : (a b : Event) (x y : List ℕ) → IsPrintableStory schema (a ∷ []) → IsPrintableStory schema (b ∷ []) →
      event_line schema a ++ (10 ∷ x) ≡ event_line schema b ++ (10 ∷ y) → (a ≡ b) × (x ≡ y)
  event_told a b x y g h e = printed_one laws schema g.naming a b x y g.events.0 h.events.0 e

  -- what stands in front of a story's text tells what the story begins with
  pub story_begins : (a b : List Event) (x : List ℕ) → IsPrintableStory schema a → IsPrintableStory schema b →
      story_text schema a ++ x ≡ story_text schema b → (c : List Event) × (b ≡ a ++ c) × (x ≡ story_text schema c)
  story_begins a b x g h e = begins laws schema g.naming a b x g.events h.events e

  pub story_one : (a b : List Event) → IsPrintableStory schema a → IsPrintableStory schema b → story_text schema a ≡ story_text schema b → a ≡ b
  story_one a b g h e =
      let r = story_begins a b [] g h (append-nil (story_text schema a) ∙ e) in
      sym (append-nil a) ∙ ap (λ (c : List Event). a ++ c) (nothing r.0 r.2) ∙ sym r.1
    where
      nothing : (c : List Event) → [] ≡ story_text schema c → [] ≡ c
      nothing [] e = refl
      nothing (b ∷ bs) e = absurd (nothing_is_no_event (event_line schema b) (story_text schema bs) e)
