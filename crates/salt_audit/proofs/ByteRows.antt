-- Verdicts on bytes.
use Rattle.salt_ast.specs.declared.trees.TableDef.{TableDef}
use Rattle.salt_audit.specs.Transcripts.{IsVerdict, all_told, is_unformed, no_text, tables_told, text_on, text_so_far}
use Rattle.salt_audit.specs.Retelling.{retold, told}
use Rattle.salt_model.specs.After.{kept}
use Rattle.salt_model.specs.Kept.{schema_of}
use Rattle.salt_audit.specs.declared.verdict.Verdict.TheVariants.{NotText, Unformed, Yes}
use Rattle.salt_model.specs.EventTexts.{event_text, item_text}
use Rattle.salt_model.specs.declared.events.Event.TheVariants as event
use Rattle.salt_model.specs.declared.events.Event.{Event}
use Rattle.salt_model.specs.declared.shown.Item.TheVariants as item
use Rattle.salt_model.specs.declared.shown.Item.{Item}
use Rattle.std.proofs.Common.{Bool, List, [], ap, arith, codes, false, flat_map, length, refl, true≢false, ℕ, ◌++◌, ◌==◌, ◌∙◌, ◌∷◌, ◌≡◌, ◌≤◌}

-- the first byte
abbrev begins_with : ℕ → List ℕ → Bool
begins_with b [] = false
begins_with b (c ∷ bytes) = c == b

-- no event's text begins as `hello` does
no_event : (schema : List TableDef) (e : Event) (x y z : List ℕ) → begins_with 104 (((event_text schema e ++ x) ++ y) ++ z) ≡ false
no_event schema (event.Began u k) x y z = refl
no_event schema (event.Did u st a) x y z = refl
no_event schema (event.Waits u os) x y z = refl
no_event schema (event.Ended u e) x y z = refl
no_event schema (event.Accepted b) x y z = refl
no_event schema (event.Finished b) x y z = refl
no_event schema (event.Released bs) x y z = refl
no_event schema (event.Early bs) x y z = refl
no_event schema (event.Down w) x y z = refl
no_event schema (event.Opened boot n) x y z = refl
no_event schema event.Ready x y z = refl
no_event schema (event.Defined n text) x y z = refl
no_event schema (event.Refused r) x y z = refl
no_event schema (event.Armed pairs) x y z = refl
no_event schema (event.Shown []) x y z = refl
no_event schema (event.Shown (item.Lock l ∷ is)) x y z = refl
no_event schema (event.Shown (item.Base b n at ∷ is)) x y z = refl

no_item : (schema : List TableDef) (i : Item) (x y : List ℕ) → begins_with 104 ((item_text schema i ++ x) ++ y) ≡ false
no_item schema (item.Lock l) x y = refl
no_item schema (item.Base b n at) x y = refl

abbrev hello : List ℕ
hello = codes "hello" ++ 10 ∷ []

-- nothing of it is told
none_told : (story : List Event) (items : List Item) (less : List ℕ) → hello ≡ text_so_far (record { story = story; items = items }) ++ less → length hello ≤ length less
none_told [] [] less e = omega (arith, ap length e)
none_told [] (i ∷ is) less e = absurd (true≢false (ap (begins_with 104) e ∙ no_item (tables_told []) i (flat_map (item_text (tables_told [])) is) less))
none_told (f ∷ fs) items less e = absurd (true≢false (ap (begins_with 104) e ∙ no_event (schema_of (kept (retold []))) f (text_on (told (retold []) f) fs) (flat_map (item_text (tables_told (f ∷ fs))) items) less))

pub hello_no_text : IsVerdict (codes "hello" ++ 10 ∷ []) (NotText 1)
hello_no_text =
    no_text (record { story = []; items = [] }) hello (record { text = refl; events = tt; items = tt }) refl tt
    (λ s less b. none_told s.story s.items less b.text)

pub ready_unformed : IsVerdict (codes "ready" ++ 10 ∷ []) (Unformed 1)
ready_unformed = is_unformed [] event.Ready [] (record { text = refl; events = (record { form = tt; sizes = tt }, tt); items = tt }) refl

pub nothing_yes : IsVerdict [] (Yes 0)
nothing_yes = all_told [] (record { text = refl; events = tt; items = tt }) refl
