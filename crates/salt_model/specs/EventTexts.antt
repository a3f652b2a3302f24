-- The text of an event and of a story, under a schema that names the tables of locks.
use Rattle.salt_ast.specs.Limits.{limit_word}
use Rattle.salt_ast.specs.ProgramTexts.{base_text, call_text, id_text, row_text, stop_text}
use Rattle.salt_ast.specs.Texts.{preceded, statement_text, value_text}
use Rattle.salt_ast.specs.declared.trees.TableDef.{TableDef}
use Rattle.salt_model.specs.declared.events.Answer.{Answer}
use Rattle.salt_model.specs.declared.events.Cause.{Cause}
use Rattle.salt_model.specs.declared.events.End.{End}
use Rattle.salt_model.specs.declared.events.Event.{Event}
use Rattle.salt_model.specs.declared.events.Owner.{Owner}
use Rattle.salt_model.specs.declared.events.Refusal.{Refusal}
use Rattle.salt_model.specs.declared.events.UnitKind.{UnitKind}
use Rattle.salt_model.specs.declared.events.Why.{Why}
use Rattle.salt_model.specs.declared.locks.Family.{Family}
use Rattle.salt_model.specs.declared.locks.Lock.{Lock}
use Rattle.salt_model.specs.declared.locks.Mode.{Mode}
use Rattle.salt_model.specs.declared.shown.BaseAt.{BaseAt}
use Rattle.salt_model.specs.declared.shown.Item.{Item}
use Rattle.salt_values.specs.declared.id.Id.{Id}
use Rattle.salt_values.specs.declared.value.Value.{Value}
use Rattle.std.specs.Fmt.{decimal}
use Rattle.std.specs.Prelude.{List, None, Option, Some, [], codes, flat_map, length, slice_get, ℕ, ⊤, ◌++◌, ◌∷◌}
use Rattle.std.specs.Option.{option_map_or}
use Rattle.salt_model.specs.declared.events.Answer.TheVariants as answer
use Rattle.salt_model.specs.declared.events.Cause.TheVariants as cause
use Rattle.salt_model.specs.declared.events.End.TheVariants as end
use Rattle.salt_model.specs.declared.events.Event.TheVariants as event
use Rattle.salt_model.specs.declared.events.Owner.TheVariants as owner
use Rattle.salt_model.specs.declared.events.Refusal.TheVariants as refused
use Rattle.salt_model.specs.declared.events.UnitKind.TheVariants as kind
use Rattle.salt_model.specs.declared.events.Why.TheVariants as why
use Rattle.salt_model.specs.declared.locks.Family.TheVariants as family
use Rattle.salt_model.specs.declared.locks.Mode.TheVariants as mode
use Rattle.salt_model.specs.declared.shown.BaseAt.TheVariants as place
use Rattle.salt_model.specs.declared.shown.Item.TheVariants as item

-- a unit's name, as u1.2
abbrev pub unit_text : Id → List ℕ
unit_text u = codes "u" ++ id_text u

abbrev pub owner_text : Owner → List ℕ
owner_text (owner.Unit u) = unit_text u
owner_text (owner.Base b) = base_text b

abbrev pub cause_text : Cause → List ℕ
cause_text cause.Duplicate = codes "duplicate"
cause_text cause.Check = codes "check"
cause_text cause.Missing = codes "missing"
cause_text cause.Ensure = codes "ensure"
cause_text cause.Overflow = codes "overflow"
cause_text cause.TooLong = codes "toolong"

abbrev pub kind_text : UnitKind → List ℕ
kind_text (kind.Acid s) = codes " began @" ++ decimal s
kind_text (kind.Call s n args) = codes " began @" ++ (decimal s ++ (codes " call " ++ call_text n args))
kind_text (kind.First s b n args) =
    codes " began @" ++ (decimal s ++ (codes " " ++ (base_text b ++ (codes " part 1 of " ++ call_text n args))))
kind_text (kind.Later b part) = codes " began " ++ (base_text b ++ (codes " part " ++ decimal part))

abbrev pub cell_text : Option Value → List ℕ
cell_text v = option_map_or value_text v (codes "none")

abbrev pub answer_text : Answer → List ℕ
answer_text (answer.Count n) = codes "count " ++ decimal n
answer_text (answer.Rows rows) = codes "rows" ++ preceded (codes " ") row_text rows
answer_text (answer.Cell v) = codes "value " ++ cell_text v
answer_text (answer.Stored v) = codes "stored " ++ value_text v
answer_text answer.Held = codes "true"
answer_text (answer.Failed c) = codes "failed " ++ cause_text c

abbrev pub end_text : End → List ℕ
end_text (end.Committed n) = codes " committed " ++ decimal n
end_text (end.Failed c) = codes " failed " ++ cause_text c
end_text (end.Branched n c) = codes " branched " ++ (decimal n ++ (codes " " ++ cause_text c))
end_text end.RolledBack = codes " rolled back"
end_text end.Victim = codes " victim"
end_text end.Cut = codes " cut"

abbrev pub refusal_text : Refusal → List ℕ
refusal_text refused.Long = codes "1 long"
refusal_text refused.Byte = codes "2 byte"
refusal_text refused.Syntax = codes "3 syntax"
refusal_text (refused.Limit l) = codes "4 limit " ++ limit_word l
refusal_text (refused.Unknown n) = codes "5 unknown " ++ n
refusal_text (refused.Exists n) = codes "6 exists " ++ n
refusal_text refused.Mistyped = codes "7 type"
refusal_text (refused.Branch n) = codes "8 branch " ++ decimal n
refusal_text refused.State = codes "9 state"
refusal_text refused.Busy = codes "10 busy"

abbrev pub why_text : Why → List ℕ
why_text why.Stopped = codes "stopped"
why_text why.Fault = codes "fault"

abbrev pub family_text : Family → List ℕ
family_text family.Acid = codes "acid"
family_text family.Alkaline = codes "alkaline"
family_text family.Saline = codes "saline"

abbrev pub mode_text : Mode → List ℕ
mode_text mode.Read = codes "read"
mode_text mode.Write = codes "write"

-- the name of the table of this number
abbrev pub table_name : List TableDef → ℕ → List ℕ
table_name schema n = elim (slice_get schema n) [ None ↦ [] | Some d ↦ d.name ]

-- a printed range has both ends or none
abbrev pub range_text : Option Value → Option Value → List ℕ
range_text (Some lo) (Some hi) = value_text lo ++ (codes ".." ++ value_text hi)
range_text lo hi = codes "all"

abbrev pub lock_text : List TableDef → Lock → List ℕ
lock_text schema l =
    codes "lock " ++ (owner_text l.owner ++ (codes " " ++ (family_text l.family ++ (codes " " ++ (mode_text l.mode ++
    (codes " " ++ (table_name schema l.table ++ (codes " " ++ range_text l.range.lo l.range.hi))))))))

abbrev pub place_text : BaseAt → List ℕ
place_text place.First = codes "first"
place_text (place.Next n) = codes "next " ++ decimal n
place_text place.Finished = codes "finished"

-- an item's line
abbrev pub item_text : List TableDef → Item → List ℕ
item_text schema (item.Lock l) = lock_text schema l ++ 10 ∷ []
item_text schema (item.Base b n at) = codes "base " ++ (base_text b ++ (codes " " ++ (n ++ (codes " " ++ (place_text at ++ 10 ∷ [])))))

-- an event's text, without the LF that ends it
abbrev pub event_line : List TableDef → Event → List ℕ
event_line schema (event.Began u k) = unit_text u ++ kind_text k
event_line schema (event.Did u st a) = unit_text u ++ (codes " did " ++ (statement_text st ++ (codes " -> " ++ answer_text a)))
event_line schema (event.Waits u owners) = unit_text u ++ (codes " waits" ++ preceded (codes " ") owner_text owners)
event_line schema (event.Ended u e) = unit_text u ++ end_text e
event_line schema (event.Accepted b) = base_text b ++ codes " accepted"
event_line schema (event.Finished b) = base_text b ++ codes " finished"
event_line schema (event.Released bs) = codes "released" ++ preceded (codes " ") base_text bs
event_line schema (event.Down w) = codes "down " ++ why_text w
event_line schema (event.Opened boot n) = codes "opened " ++ (decimal boot ++ (codes " " ++ decimal n))
event_line schema event.Ready = codes "ready"
event_line schema (event.Early bs) = codes "early" ++ preceded (codes " ") base_text bs
event_line schema (event.Defined n text) = codes "defined " ++ (decimal n ++ (codes " " ++ text))
event_line schema (event.Refused r) = codes "refused " ++ refusal_text r
event_line schema (event.Armed pairs) = codes "armed" ++ preceded (codes " ") stop_text pairs
event_line schema (event.Shown items) = flat_map (item_text schema) items ++ (codes "shown " ++ decimal (length items))

abbrev pub event_text : List TableDef → Event → List ℕ
event_text schema e = event_line schema e ++ 10 ∷ []

-- the lines of a story, one after another
abbrev pub story_text : List TableDef → List Event → List ℕ
story_text schema events = flat_map (event_text schema) events

-- an event that shows nothing reads the same under each schema
abbrev pub ShowsNothing : Event → Type 0
ShowsNothing (event.Shown items) = ⊥
ShowsNothing e = ⊤
