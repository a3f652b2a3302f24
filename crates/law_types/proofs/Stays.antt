-- A story of tables of a schema reads the same when the schema has grown.
use Rattle.law_types.specs.Naming.{IsEventOf, IsItemOf, IsStoryOf}
use Rattle.salt_ast.specs.declared.trees.TableDef.{TableDef}
use Rattle.salt_model.specs.EventTexts.{event_text, family_text, item_text, mode_text, owner_text, range_text, story_text, table_name}
use Rattle.std.specs.Fmt.{decimal}
use Rattle.salt_model.specs.Words.{Every}
use Rattle.salt_model.specs.declared.events.Event.TheVariants.{Shown}
use Rattle.salt_model.specs.declared.events.Event.{Event}
use Rattle.salt_model.specs.declared.shown.Item.TheVariants.{Base, Lock}
use Rattle.salt_model.specs.declared.shown.Item.{Item}
use Rattle.std.proofs.Common.{ap, arith}
use Rattle.std.specs.List.{flat_map}
use Rattle.std.specs.Prelude.{List, None, codes, Option, Some, [], length, refl, slice_get, suc, zero, ℕ, ◌++◌, ◌<◌, ◌∷◌, ◌≡◌}

get-left : {A : Type 0} (xs ys : List A) (n : ℕ) → n < length xs → slice_get (xs ++ ys) n ≡ slice_get xs n
get-left [] ys n h = absurd (omega arith)
get-left (x ∷ xs) ys zero h = refl
get-left (x ∷ xs) ys (suc n) h = get-left xs ys n (omega arith)

name-stays : (schema more : List TableDef) (n : ℕ) → n < length schema → table_name (schema ++ more) n ≡ table_name schema n
name-stays schema more n h = ap (λ (o : Option TableDef). elim o [ None ↦ [] | Some d ↦ d.name ]) (get-left schema more n h)

item-stays : (schema more : List TableDef) (i : Item) → IsItemOf (length schema) i → item_text (schema ++ more) i ≡ item_text schema i
item-stays schema more (Lock l) h =
    λ j. (codes "lock " ++ (owner_text l.owner ++ (codes " " ++ (family_text l.family ++ (codes " " ++ (mode_text l.mode ++
    (codes " " ++ (name-stays schema more l.table h j ++ (codes " " ++ range_text l.range.lo l.range.hi))))))))) ++ 10 ∷ []
item-stays schema more (Base b n at) h = refl

items-stay : (schema more : List TableDef) (is : List Item) → Every (IsItemOf (length schema)) is →
    flat_map (item_text (schema ++ more)) is ≡ flat_map (item_text schema) is
items-stay schema more [] h = refl
items-stay schema more (i ∷ is) h = λ j. item-stays schema more i h.0 j ++ items-stay schema more is h.1 j

event-stays : (schema more : List TableDef) (e : Event) → IsEventOf (length schema) e → event_text (schema ++ more) e ≡ event_text schema e
event-stays schema more (Shown items) h = λ j. (items-stay schema more items h j ++ (codes "shown " ++ decimal (length items))) ++ 10 ∷ []
event-stays schema more e h = refl

pub story-stays : (schema more : List TableDef) (es : List Event) → IsStoryOf (length schema) es → story_text (schema ++ more) es ≡ story_text schema es
story-stays schema more [] h = refl
story-stays schema more (e ∷ es) h = λ j. event-stays schema more e h.0 j ++ story-stays schema more es h.1 j
