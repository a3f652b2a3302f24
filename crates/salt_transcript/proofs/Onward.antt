-- What is read, with one line more.
use Rattle.law_texts.specs.EventLines.{item_line}
use Rattle.salt_ast.specs.declared.trees.TableDef.{TableDef}
use Rattle.salt_audit.proofs.Clashing.{item_ended}
use Rattle.salt_audit.proofs.OneMore.{lines_more, text_more}
use Rattle.salt_audit.specs.Retelling.{retold}
use Rattle.salt_audit.specs.Transcripts.{IsShowable, SoFar, lines_of_event, lines_so_far, tables_told, text_on, text_so_far}
use Rattle.salt_events.specs.Lines.{GoesOn, an_event, an_item, counts}
use Rattle.salt_model.specs.EventTexts.{ShowsNothing, event_line, event_text, item_text}
use Rattle.salt_model.specs.Printable.{IsPrintable, IsPrintableItem}
use Rattle.salt_model.specs.Sized.{IsSizedItem}
use Rattle.salt_model.specs.Words.{Every}
use Rattle.salt_model.specs.declared.events.Event.TheVariants as event
use Rattle.salt_model.specs.declared.events.Event.{Event}
use Rattle.salt_model.specs.declared.shown.Item.{Item}
use Rattle.std.proofs.Common.{List, None, Option, Some, [], ap, append-nil, append_assoc, arith, codes, flat_map, length, refl, sym, ℕ, ◌+◌, ◌++◌, ◌∙◌, ◌∷◌, ◌≡◌}
use Rattle.std.proofs.lemmas.List.{length-append}
use Rattle.std.specs.Fmt.{decimal}

-- AN ITEM

flat_more : (schema : List TableDef) (is : List Item) (i : Item) → flat_map (item_text schema) (is ++ i ∷ []) ≡ flat_map (item_text schema) is ++ item_text schema i
flat_more schema [] i = append-nil (item_text schema i)
flat_more schema (j ∷ is) i =
    ap (λ (l : List ℕ). item_text schema j ++ l) (flat_more schema is i) ∙ sym (append_assoc (item_text schema j) (flat_map (item_text schema) is) (item_text schema i))

every_more : (P : Item → Type 0) (is : List Item) (i : Item) → Every P is → P i → Every P (is ++ i ∷ [])
every_more P [] i h p = (p, tt)
every_more P (j ∷ is) i h p = (h.0, every_more P is i h.1 p)

abbrev with_item : SoFar → Item → SoFar
with_item s i = record { story = s.story; items = s.items ++ i ∷ [] }

item_read : (s : SoFar) (i : Item) → text_so_far (with_item s i) ≡ text_so_far s ++ (item_line (tables_told s.story) i ++ 10 ∷ [])
item_read s i =
    let schema = tables_told s.story in
    let told = text_on (retold []) s.story in
    ap (λ (l : List ℕ). told ++ l) (flat_more schema s.items i ∙ ap (λ (l : List ℕ). flat_map (item_text schema) s.items ++ l) (item_ended schema i))
    ∙ sym (append_assoc told (flat_map (item_text schema) s.items) (item_line schema i ++ 10 ∷ []))

item_lines : (s : SoFar) (i : Item) → lines_so_far (with_item s i) ≡ lines_so_far s + 1
item_lines s i = let more = length-append s.items (i ∷ []) in omega (arith, more)

-- AN EVENT

abbrev pub with_event : SoFar → Event → SoFar
with_event s e = record { story = s.story ++ e ∷ []; items = [] }

pub event_read : (s : SoFar) (e : Event) → text_so_far (with_event s e) ≡ text_on (retold []) s.story ++ event_text (tables_told s.story) e
event_read s e = append-nil (text_on (retold []) (s.story ++ e ∷ [])) ∙ text_more (retold []) s.story e

-- one that shows nothing, behind no items
plain_text : (s : SoFar) (e : Event) → s.items ≡ [] → text_so_far (with_event s e) ≡ text_so_far s ++ (event_line (tables_told s.story) e ++ 10 ∷ [])
plain_text s e none =
    event_read s e
    ∙ ap (λ (l : List ℕ). l ++ event_text (tables_told s.story) e)
    (sym (ap (λ (is : List Item). text_on (retold []) s.story ++ flat_map (item_text (tables_told s.story)) is) none ∙ append-nil (text_on (retold []) s.story)))

one_line : (e : Event) → ShowsNothing e → lines_of_event e ≡ 1
one_line (event.Shown is) h = absurd h
one_line (event.Began u k) h = refl
one_line (event.Did u st a) h = refl
one_line (event.Waits u os) h = refl
one_line (event.Ended u e) h = refl
one_line (event.Accepted b) h = refl
one_line (event.Finished b) h = refl
one_line (event.Released bs) h = refl
one_line (event.Early bs) h = refl
one_line (event.Down w) h = refl
one_line (event.Opened boot n) h = refl
one_line event.Ready h = refl
one_line (event.Defined n text) h = refl
one_line (event.Refused r) h = refl
one_line (event.Armed pairs) h = refl

plain_lines : (s : SoFar) (e : Event) → s.items ≡ [] → ShowsNothing e → lines_so_far (with_event s e) ≡ lines_so_far s + 1
plain_lines s e none h =
    let more = lines_more s.story e in
    let one = one_line e h in
    let zero_items = ap length none in
    omega (arith, more, one, zero_items)

-- one that shows the items
shown_text : (s : SoFar) → text_so_far (with_event s (event.Shown s.items)) ≡ text_so_far s ++ ((codes "shown " ++ decimal (length s.items)) ++ 10 ∷ [])
shown_text s =
    let told = text_on (retold []) s.story in
    let items = flat_map (item_text (tables_told s.story)) s.items in
    let count = codes "shown " ++ decimal (length s.items) in
    event_read s (event.Shown s.items) ∙ ap (λ (l : List ℕ). told ++ l) (append_assoc items count (10 ∷ [])) ∙ sym (append_assoc told items (count ++ 10 ∷ []))

shown_lines : (s : SoFar) → lines_so_far (with_event s (event.Shown s.items)) ≡ lines_so_far s + 1
shown_lines s = let more = lines_more s.story (event.Shown s.items) in omega (arith, more)

items_form : (schema : List TableDef) (is : List Item) → Every (IsShowable schema) is → Every (IsPrintableItem schema) is × Every IsSizedItem is
items_form schema [] h = (tt, tt)
items_form schema (i ∷ is) h = let r = items_form schema is h.1 in ((h.0.0, r.0), (h.0.1, r.1))

-- A LINE THAT GOES ON

abbrev pub onward : SoFar → List Item → Option Event → SoFar
onward s after None = record { story = s.story; items = after }
onward s after (Some e) = with_event s e

-- what an event leaves
abbrev Leaves : SoFar → List Item → Option Event → Type 0
Leaves s after None = Every (IsShowable (tables_told s.story)) after
Leaves s after (Some e) = (after ≡ []) × IsPrintable (tables_told s.story) e

pub record Goes (s : SoFar) (line : List ℕ) (after : List Item) (told : Option Event) : Type 0 where
  pub text : text_so_far (onward s after told) ≡ text_so_far s ++ (line ++ 10 ∷ [])
  pub lines : lines_so_far (onward s after told) ≡ lines_so_far s + 1
  pub leaves : Leaves s after told

goes_by : (s : SoFar) (line : List ℕ) (step : List Item × Option Event) → Every (IsShowable (tables_told s.story)) s.items →
    GoesOn (tables_told s.story) s.items line step → Goes s line step.0 step.1
goes_by s line step h (an_item i p z e) = record {
  text = item_read s i ∙ ap (λ (l : List ℕ). text_so_far s ++ (l ++ 10 ∷ [])) (sym e);
  lines = item_lines s i;
  leaves = every_more (IsShowable (tables_told s.story)) s.items i h (p, z);
}
goes_by s line step h (counts z e) = record {
  text = shown_text s ∙ ap (λ (l : List ℕ). text_so_far s ++ (l ++ 10 ∷ [])) (sym e);
  lines = shown_lines s;
  leaves = (refl, (let r = items_form (tables_told s.story) s.items h in record { form = r.0; sizes = r.1 }));
}
goes_by s line step h (an_event e shows none p is) = record {
  text = plain_text s e none ∙ ap (λ (l : List ℕ). text_so_far s ++ (l ++ 10 ∷ [])) (sym is);
  lines = plain_lines s e none shows;
  leaves = (refl, p);
}

pub goes : (s : SoFar) (line : List ℕ) (after : List Item) (told : Option Event) → Every (IsShowable (tables_told s.story)) s.items →
    GoesOn (tables_told s.story) s.items line (after, told) → Goes s line after told
goes s line after told h g = goes_by s line (after, told) h g
