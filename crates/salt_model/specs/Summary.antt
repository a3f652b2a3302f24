-- The summary of a run that prints no story: one line of counts.
use Rattle.salt_model.specs.Continuing.{accepted_by}
use Rattle.salt_model.specs.EventTexts.{cell_text}
use Rattle.salt_model.specs.Releasing.{released_names}
use Rattle.salt_model.specs.declared.events.Answer.TheVariants as answer
use Rattle.salt_model.specs.declared.events.End.TheVariants as end
use Rattle.salt_model.specs.declared.events.Event.TheVariants as event
use Rattle.salt_model.specs.declared.events.Event.{Event}
use Rattle.salt_values.specs.declared.value.Value.{Value}
use Rattle.std.specs.Fmt.{decimal}
use Rattle.std.specs.List.{filter, flat_map}
use Rattle.std.specs.Prelude.{Bool, List, None, Option, [], codes, false, is_some, length, true, ℕ, ◌++◌, ◌+◌, ◌∷◌}

abbrev pub is_began : Event → Bool
is_began (event.Began u k) = true
is_began e = false

abbrev pub is_committed : Event → Bool
is_committed (event.Ended u (end.Committed n)) = true
is_committed e = false

abbrev pub is_victim : Event → Bool
is_victim (event.Ended u end.Victim) = true
is_victim e = false

abbrev pub is_wait : Event → Bool
is_wait (event.Waits u owners) = true
is_wait e = false

abbrev pub count_of : (Event → Bool) → List Event → ℕ
count_of is_one story = length (filter is_one story)

-- the value that the last statement done gave, if it gave one
abbrev pub last_value : Option Value → List Event → Option Value
last_value found [] = found
last_value found (event.Did u st a ∷ es) = last_value (elim a [ answer.Cell v ↦ v | _ ↦ None ]) es
last_value found (e ∷ es) = last_value found es

-- of `n` transfers, of which so many lines were done
abbrev pub summary_of : (n lines : ℕ) → List Event → List ℕ
summary_of n lines story =
    codes "load " ++ (decimal n ++ (codes " lines " ++ (decimal lines ++ (codes " units " ++ (decimal (count_of is_began story) ++
    (codes " committed " ++ (decimal (count_of is_committed story) ++ (codes " accepted " ++ (decimal (count_of (λ e. is_some (accepted_by e)) story) ++
    (codes " released " ++ (decimal (length (flat_map released_names story)) ++ (codes " waits " ++ (decimal (count_of is_wait story) ++
    (codes " victims " ++ (decimal (count_of is_victim story) ++ (codes " total " ++ (cell_text (last_value None story) ++ 10 ∷ [])))))))))))))))))
