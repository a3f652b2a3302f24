-- What stands behind a story is read in one way: as items that are still to be counted, or as an event.
use Rattle.salt_ast.specs.ProgramTexts.{base_text}
use Rattle.salt_ast.specs.declared.trees.TableDef.{TableDef}
use Rattle.salt_audit.specs.Transcripts.{IsShowable}
use Rattle.salt_model.specs.EventTexts.{event_line, event_text, item_text, place_text}
use Rattle.salt_model.specs.Naming.{IsNaming}
use Rattle.salt_model.specs.Printable.{IsPrintable, IsPrintableItem, IsPrintableStory}
use Rattle.salt_model.specs.Sized.{IsSizedEvent, IsSizedItem}
use Rattle.salt_model.specs.Words.{Every}
use Rattle.salt_model.specs.declared.events.Event.TheVariants as event
use Rattle.salt_model.specs.declared.events.Event.{Event}
use Rattle.salt_model.specs.declared.shown.Item.TheVariants as item
use Rattle.salt_model.specs.declared.shown.Item.{Item}
use Rattle.law_texts.specs.EventLines.{Inline, event_lines, is_inline, item_line}
use Rattle.salt_values.specs.declared.id.Id.{Id}
use Rattle.std.proofs.Common.{Bool, List, [], ap, append_assoc, arith, codes, false, flat_map, length, map, refl, sym, true≢false, ℕ, ◌++◌, ◌<◌, ◌==◌, ◌^◌, ◌∙◌, ◌∷◌, ◌≡◌, ◌≤◌}
use Rattle.std.proofs.lemmas.Bool.Decides.{nat_tests}
use Rattle.std.proofs.lemmas.Fmt.{decimal_is_IsNumeral}
use Rattle.std.proofs.lemmas.List.{length-append}
use Rattle.std.proofs.lemmas.Str.Parse.{digit_at}
use Rattle.std.specs.Fmt.{decimal}
use Rattle.std.specs.Str.Parse.{AllDigits}

-- LINES

not_inline : is_inline 10 ≡ false
not_inline = refl

-- two lines with what is behind them
pub one_line : (a b x y : List ℕ) → Inline a → Inline b → a ++ (10 ∷ x) ≡ b ++ (10 ∷ y) → (a ≡ b) × (x ≡ y)
one_line [] [] x y g h e = (refl, cc)
one_line [] (b ∷ bs) x y g h e = let is : 10 ≡ b = cc in absurd (true≢false (sym h.0 ∙ ap is_inline (sym is)))
one_line (a ∷ as_) [] x y g h e = let is : a ≡ 10 = cc in absurd (true≢false (sym g.0 ∙ ap is_inline is))
one_line (a ∷ as_) (b ∷ bs) x y g h e =
    let head : a ≡ b = cc in
    let tail : as_ ++ (10 ∷ x) ≡ bs ++ (10 ∷ y) = cc in
    let r = one_line as_ bs x y g.1 h.1 tail in
    let rest = r.0 in
    let all : a ∷ as_ ≡ b ∷ bs = cc in
    (all, r.1)

pub item_ended : (schema : List TableDef) (i : Item) → item_text schema i ≡ item_line schema i ++ 10 ∷ []
item_ended schema (item.Lock l) = refl
item_ended schema (item.Base b n at) =
    sym (ap (λ l. codes "base " ++ l) (append_assoc (base_text b) (codes " " ++ (n ++ (codes " " ++ place_text at))) (10 ∷ [])
    ∙ ap (λ l. base_text b ++ (codes " " ++ l)) (append_assoc n (codes " " ++ place_text at) (10 ∷ []))))

-- FIRST BYTES

abbrev starts : ℕ → List ℕ → Bool
starts b [] = false
starts b (c ∷ bytes) = c == b

abbrev second : ℕ → List ℕ → Bool
second b [] = false
second b (c ∷ bytes) = starts b bytes

digit_first : (n c : ℕ) (x : List ℕ) → n < 2 ^ 64 → 57 < c → starts c (decimal n ++ x) ≡ false
digit_first n c x h large = go (decimal n) (decimal_is_IsNumeral n h).0.0 (decimal_is_IsNumeral n h).0.1
  where
    go : (ds : List ℕ) → 0 < length ds → AllDigits 10 ds → starts c (ds ++ x) ≡ false
    go [] some d = absurd (omega arith)
    go (d ∷ ds) some all = let r = digit_at (d ∷ ds) 0 all (omega arith) in grind (arith, nat_tests)

-- no lock
no_lock : (schema : List TableDef) (e : Event) (z : List ℕ) → ((is : List Item) → e ≡ event.Shown is → ⊥) → starts 108 (event_text schema e ++ z) ≡ false
no_lock schema (event.Shown is) z other = absurd (other is refl)
no_lock schema (event.Began u k) z other = refl
no_lock schema (event.Did u st a) z other = refl
no_lock schema (event.Waits u os) z other = refl
no_lock schema (event.Ended u e) z other = refl
no_lock schema (event.Accepted b) z other = refl
no_lock schema (event.Finished b) z other = refl
no_lock schema (event.Released bs) z other = refl
no_lock schema (event.Early bs) z other = refl
no_lock schema (event.Down w) z other = refl
no_lock schema (event.Opened boot n) z other = refl
no_lock schema event.Ready z other = refl
no_lock schema (event.Defined n text) z other = refl
no_lock schema (event.Refused r) z other = refl
no_lock schema (event.Armed pairs) z other = refl

-- no program shown: its second byte is no digit
base_second : (b : Id) (w z : List ℕ) → b.boot < 2 ^ 64 → second 97 (((base_text b ++ w) ++ 10 ∷ []) ++ z) ≡ false
base_second b w z h =
    let e : ((base_text b ++ w) ++ 10 ∷ []) ++ z ≡ 98 ∷ (decimal b.boot ++ ((46 ∷ decimal b.seq) ++ (w ++ (10 ∷ z)))) =
    append_assoc (base_text b ++ w) (10 ∷ []) z ∙ append_assoc (base_text b) w (10 ∷ z)
    ∙ ap (λ l. 98 ∷ l) (append_assoc (decimal b.boot) (46 ∷ decimal b.seq) (w ++ (10 ∷ z))) in
    ap (second 97) e ∙ digit_first b.boot 97 ((46 ∷ decimal b.seq) ++ (w ++ (10 ∷ z))) h (omega arith)

abbrev twice : List ℕ → Bool
twice bytes = second 97 bytes

no_base : (schema : List TableDef) (e : Event) (b : Id) (w z : List ℕ) → IsSizedEvent e → ((is : List Item) → e ≡ event.Shown is → ⊥) →
    98 ∷ 97 ∷ w ≡ event_text schema e ++ z → ⊥
no_base schema (event.Shown is) b w z g other e = other is refl
no_base schema (event.Accepted c) b w z g other e = true≢false (ap (second 97) e ∙ base_second c (codes " accepted") z g.0)
no_base schema (event.Finished c) b w z g other e = true≢false (ap (second 97) e ∙ base_second c (codes " finished") z g.0)
no_base schema (event.Began u k) b w z g other e = true≢false (ap (starts 98) e)
no_base schema (event.Did u st a) b w z g other e = true≢false (ap (starts 98) e)
no_base schema (event.Waits u os) b w z g other e = true≢false (ap (starts 98) e)
no_base schema (event.Ended u d) b w z g other e = true≢false (ap (starts 98) e)
no_base schema (event.Released bs) b w z g other e = true≢false (ap (starts 98) e)
no_base schema (event.Early bs) b w z g other e = true≢false (ap (starts 98) e)
no_base schema (event.Down y) b w z g other e = true≢false (ap (starts 98) e)
no_base schema (event.Opened boot n) b w z g other e = true≢false (ap (starts 98) e)
no_base schema event.Ready b w z g other e = true≢false (ap (starts 98) e)
no_base schema (event.Defined n text) b w z g other e = true≢false (ap (starts 98) e)
no_base schema (event.Refused r) b w z g other e = true≢false (ap (starts 98) e)
no_base schema (event.Armed pairs) b w z g other e = true≢false (ap (starts 98) e)

-- an item's line begins no other event's
pub no_item : (schema : List TableDef) (i : Item) (e : Event) (x z : List ℕ) → IsSizedEvent e → ((is : List Item) → e ≡ event.Shown is → ⊥) →
    item_text schema i ++ x ≡ event_text schema e ++ z → ⊥
no_item schema (item.Lock l) e x z g other q = true≢false (ap (starts 108) q ∙ no_lock schema e z other)
no_item schema (item.Base b n at) e x z g other q = no_base schema e b _ z g other q

-- ITEMS AND THEIR COUNT

abbrev pub count_line : ℕ → List ℕ
count_line n = (codes "shown " ++ decimal n) ++ 10 ∷ []

no_count : (schema : List TableDef) (i : Item) (n : ℕ) (x z : List ℕ) → item_text schema i ++ x ≡ count_line n ++ z → ⊥
no_count schema (item.Lock l) n x z q = true≢false (ap (starts 108) q)
no_count schema (item.Base b m at) n x z q = true≢false (ap (starts 98) q)

shorter : (a b x : List ℕ) (c : ℕ) → c ∷ a ++ x ≡ b → length x < length b
shorter a b x c e = omega (arith, ap length e, length-append a x)

-- as long as the items that are told go on
abbrev pub AreLines : List TableDef → List Item → Type 0
AreLines schema is = Every (λ i. Inline (item_line schema i)) is

items_clash : (schema : List TableDef) (is js : List Item) (n : ℕ) (r z : List ℕ) → AreLines schema is → AreLines schema js →
    flat_map (item_text schema) is ++ r ≡ (flat_map (item_text schema) js ++ count_line n) ++ z → length r ≤ length z → ⊥
items_clash schema [] [] n r z g h e le =
    let more = length-append (count_line n) z in
    let all = ap length e in
    omega (arith, le, more, all)
items_clash schema [] (j ∷ js) n r z g h e le =
    let all = ap length e in
    let a = length-append (flat_map (item_text schema) (j ∷ js) ++ count_line n) z in
    let b = length-append (flat_map (item_text schema) (j ∷ js)) (count_line n) in
    omega (arith, le, all, a, b)
items_clash schema (i ∷ is) [] n r z g h e le =
    no_count schema i n (flat_map (item_text schema) is ++ r) z (sym (append_assoc (item_text schema i) (flat_map (item_text schema) is) r) ∙ e)
items_clash schema (i ∷ is) (j ∷ js) n r z g h e le =
    let left : flat_map (item_text schema) (i ∷ is) ++ r ≡ item_line schema i ++ (10 ∷ (flat_map (item_text schema) is ++ r)) =
    append_assoc (item_text schema i) (flat_map (item_text schema) is) r
    ∙ ap (λ l. l ++ (flat_map (item_text schema) is ++ r)) (item_ended schema i) ∙ append_assoc (item_line schema i) (10 ∷ []) (flat_map (item_text schema) is ++ r) in
    let right : (flat_map (item_text schema) (j ∷ js) ++ count_line n) ++ z ≡ item_line schema j ++ (10 ∷ ((flat_map (item_text schema) js ++ count_line n) ++ z)) =
    ap (λ l. l ++ z) (append_assoc (item_text schema j) (flat_map (item_text schema) js) (count_line n))
    ∙ append_assoc (item_text schema j) (flat_map (item_text schema) js ++ count_line n) z
    ∙ ap (λ l. l ++ ((flat_map (item_text schema) js ++ count_line n) ++ z)) (item_ended schema j)
    ∙ append_assoc (item_line schema j) (10 ∷ []) ((flat_map (item_text schema) js ++ count_line n) ++ z) in
    let same = one_line (item_line schema i) (item_line schema j) (flat_map (item_text schema) is ++ r) ((flat_map (item_text schema) js ++ count_line n) ++ z)
    g.0 h.0 (sym left ∙ e ∙ right) in
    items_clash schema is js n r z g.1 h.1 same.1 le

-- THE LAW

abbrev pub LinesAreWhole : Type 0
LinesAreWhole = (schema : List TableDef) (e : Event) → IsPrintableStory schema (e ∷ []) → Every Inline (event_lines schema e)

module _ (whole : LinesAreWhole) (schema : List TableDef) (naming : IsNaming schema) where
  lines_of : (is : List Item) (n : ℕ) → Every Inline (map (item_line schema) is ++ (codes "shown " ++ decimal n) ∷ []) → AreLines schema is
  lines_of [] n h = tt
  lines_of (i ∷ is) n h = (h.0, lines_of is n h.1)

  items_form : (is : List Item) → Every (IsShowable schema) is → Every (IsPrintableItem schema) is × Every IsSizedItem is
  items_form [] h = (tt, tt)
  items_form (i ∷ is) h = let r = items_form is h.1 in ((h.0.0, r.0), (h.0.1, r.1))

  shown_lines : (is : List Item) → IsPrintable schema (event.Shown is) → AreLines schema is
  shown_lines is p = lines_of is (length is) (whole schema (event.Shown is) (record { naming = naming; events = (p, tt) }))

  pub are_lines : (is : List Item) → Every (IsShowable schema) is → AreLines schema is
  are_lines is h = let r = items_form is h in shown_lines is (record { form = r.0; sizes = r.1 })

  -- items that leave no more than an event and what is behind it
  pub clash : (is : List Item) (e : Event) (r z : List ℕ) → Every (IsShowable schema) is → IsPrintable schema e →
      flat_map (item_text schema) is ++ r ≡ event_text schema e ++ z → length r ≤ length z → ⊥
  clash is (event.Shown js) r z g p e le =
      items_clash schema is js (length js) r z (are_lines is g) (shown_lines js p)
      (e ∙ ap (λ l. l ++ z) (append_assoc (flat_map (item_text schema) js) (codes "shown " ++ decimal (length js)) (10 ∷ []))) le
  clash [] f r z g p e le =
      let all = ap length e in
      let a = length-append (event_line schema f ++ 10 ∷ []) z in
      let b = length-append (event_line schema f) (10 ∷ []) in
      omega (arith, le, all, a, b)
  clash (i ∷ is) f r z g p e le =
      no_item schema i f (flat_map (item_text schema) is ++ r) z p.sizes (λ js q. cc) (sym (append_assoc (item_text schema i) (flat_map (item_text schema) is) r) ∙ e)
