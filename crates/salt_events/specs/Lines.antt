-- What a line tells: an event, or an item of the event that a later line counts.
use Rattle.salt_ast.specs.declared.trees.TableDef.{TableDef}
use Rattle.salt_events.specs.Fronts.{behind, id_at}
use Rattle.salt_events.specs.Items.{item_in}
use Rattle.salt_events.specs.Lists.{base_at, list_in, stop_at}
use Rattle.salt_events.specs.Reading.{base_line_in, defined_in, either, number_in, opened_in, plain_line_in, unit_line_in}
use Rattle.salt_events.specs.Refusing.{refusal_in}
use Rattle.salt_model.specs.declared.events.Event.TheVariants as event
use Rattle.salt_model.specs.declared.events.Event.{Event}
use Rattle.salt_model.specs.EventTexts.{ShowsNothing, event_line}
use Rattle.salt_model.specs.Printable.{IsPrintable, IsPrintableItem}
use Rattle.salt_model.specs.Sized.{IsSized, IsSizedItem}
use Rattle.salt_model.specs.declared.shown.Item.{Item}
use Rattle.law_texts.specs.EventLines.{item_line}
use Rattle.std.specs.Bool.{then_some}
use Rattle.std.specs.Fmt.{decimal}
use Rattle.std.specs.Prelude.{List, None, Option, Some, [], codes, length, option_and_then, option_map, ℕ, ◌++◌, ◌==◌, ◌∷◌, ◌≡◌}

abbrev pub event_in : List ℕ → Option Event
event_in bytes =
    either (behind (codes "u") bytes) (λ r. option_and_then (λ u. unit_line_in u.0 u.1) (id_at r))
    (either (behind (codes "b") bytes) (λ r. option_and_then (λ b. base_line_in b.0 b.1) (id_at r))
    (either (behind (codes "opened ") bytes) opened_in
    (either (behind (codes "defined ") bytes) defined_in
    (either (behind (codes "refused ") bytes) (λ r. option_map event.Refused (refusal_in r))
    (either (behind (codes "released") bytes) (λ r. option_map event.Released (list_in base_at r))
    (either (behind (codes "early") bytes) (λ r. option_map event.Early (list_in base_at r))
    (either (behind (codes "armed") bytes) (λ r. option_map event.Armed (list_in stop_at r)) (plain_line_in bytes))))))))

-- behind `shown`: the number of the items
abbrev pub shown_in : List Item → List ℕ → Option Event
shown_in items bytes = option_and_then (λ n. then_some (n == length items) (event.Shown items)) (number_in bytes)

-- behind items nothing comes but their number
abbrev pub event_behind : List Item → List ℕ → Option Event
event_behind [] line = event_in line
event_behind (i ∷ is) line = None

abbrev pub told_in : List Item → List ℕ → Option Event
told_in items line = either (behind (codes "shown ") line) (shown_in items) (event_behind items line)

abbrev pub line_taken : List Item → List ℕ → Option Item → Option (List Item × Option Event)
line_taken items line (Some i) = Some (items ++ i ∷ [], None)
line_taken items line None = option_map (λ e. ([], Some e)) (told_in items line)

-- the items that are then still to be counted, and the event if the line ends one
abbrev pub line_in : List TableDef → List Item → List ℕ → Option (List Item × Option Event)
line_in schema items line = line_taken items line (item_in schema line)

-- the line goes on with a story, behind items that are still to be counted
pub data GoesOn (schema : List TableDef) (items : List Item) (line : List ℕ) : List Item × Option Event → Type 0 where
  an_item : (i : Item) → IsPrintableItem schema i → IsSizedItem i → line ≡ item_line schema i → GoesOn schema items line (items ++ i ∷ [], None)
  counts : IsSized (length items) → line ≡ codes "shown " ++ decimal (length items) → GoesOn schema items line ([], Some (event.Shown items))
  an_event : (e : Event) → ShowsNothing e → items ≡ [] → IsPrintable schema e → line ≡ event_line schema e → GoesOn schema items line ([], Some e)
