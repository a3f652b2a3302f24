-- The lines of an event: no byte within one ends it.
use Rattle.salt_ast.specs.Limits.{limit_word}
use Rattle.salt_ast.specs.ProgramTexts.{base_text, call_text, row_text, stop_text}
use Rattle.salt_ast.specs.Texts.{between_commas, preceded, statement_text, value_text}
use Rattle.salt_ast.specs.declared.limit.LimitName.TheVariants as limit
use Rattle.salt_ast.specs.declared.limit.LimitName.{LimitName}
use Rattle.salt_ast.specs.declared.trees.TableDef.{TableDef}
use Rattle.salt_model.specs.EventTexts.{answer_text, cause_text, cell_text, end_text, event_line, event_text, family_text, item_text, kind_text}
use Rattle.salt_model.specs.EventTexts.{mode_text, owner_text, place_text, range_text, refusal_text, table_name, unit_text, why_text}
use Rattle.salt_model.specs.Printable.{HasPrintedForm, IsPrintableItem, IsPrintableKind, IsPrintableRefusal, IsPrintableStory}
use Rattle.salt_model.specs.Words.{Every}
use Rattle.salt_model.specs.declared.events.Answer.TheVariants as answer
use Rattle.salt_model.specs.declared.events.Answer.{Answer}
use Rattle.salt_model.specs.declared.events.Cause.TheVariants as cause
use Rattle.salt_model.specs.declared.events.Cause.{Cause}
use Rattle.salt_model.specs.declared.events.End.TheVariants as end
use Rattle.salt_model.specs.declared.events.End.{End}
use Rattle.salt_model.specs.declared.events.Event.TheVariants as event
use Rattle.salt_model.specs.declared.events.Event.{Event}
use Rattle.salt_model.specs.declared.events.Owner.TheVariants as owner
use Rattle.salt_model.specs.declared.events.Owner.{Owner}
use Rattle.salt_model.specs.declared.events.Refusal.TheVariants as refused
use Rattle.salt_model.specs.declared.events.Refusal.{Refusal}
use Rattle.salt_model.specs.declared.events.UnitKind.TheVariants as kind
use Rattle.salt_model.specs.declared.events.UnitKind.{UnitKind}
use Rattle.salt_model.specs.declared.events.Why.TheVariants as why
use Rattle.salt_model.specs.declared.events.Why.{Why}
use Rattle.salt_model.specs.declared.locks.Family.TheVariants as family
use Rattle.salt_model.specs.declared.locks.Family.{Family}
use Rattle.salt_model.specs.declared.locks.Mode.TheVariants as mode
use Rattle.salt_model.specs.declared.locks.Mode.{Mode}
use Rattle.salt_model.specs.declared.shown.BaseAt.TheVariants as place
use Rattle.salt_model.specs.declared.shown.BaseAt.{BaseAt}
use Rattle.salt_model.specs.declared.shown.Item.TheVariants as item
use Rattle.salt_model.specs.declared.shown.Item.{Item}
use Rattle.law_texts.proofs.Inline.{all_inline, base_inline, decimal_inline, definition_inline, doubled_inline, known, lead, line_one, name_inline}
use Rattle.law_texts.proofs.Inline.{preceded_inline, run_append, statement_inline}
use Rattle.law_texts.proofs.Items.{family_part, mode_part, range_part, table_part}
use Rattle.law_texts.proofs.Parts.{unknown_inline}
use Rattle.law_texts.proofs.Numbering.{table_is_name}
use Rattle.law_texts.specs.Below.{LawsBelow}
use Rattle.law_texts.specs.EventLines.{Inline, ended, event_lines, is_inline, item_line, lines_text}
use Rattle.salt_model.specs.Naming.{IsName, IsNaming}
use Rattle.salt_model.specs.Sized.{IsSizedAnswer, IsSizedEvent, IsSizedItem, IsSizedKind, IsSizedRow, IsValueIn}
use Rattle.salt_ast.specs.Bytes.{is_printable}
use Rattle.salt_ast.specs.Pieces.{EachPasses, doubled}
use Rattle.salt_values.specs.Text as text
use Rattle.salt_values.specs.Value.{IsValue}
use Rattle.salt_values.specs.declared.id.Id.{Id}
use Rattle.salt_values.specs.declared.value.Value.TheVariants as value
use Rattle.salt_values.specs.declared.value.Value.{Value}
use Rattle.std.proofs.Common.{Bool, List, None, Option, Some, [], ap, append_assoc, append-nil, codes, decimal, false, flat_map, length, map, nat_le}
use Rattle.std.proofs.Common.{negsuc, pos, refl, suc, sym, true, ℕ, ◌&&◌, ◌++◌, ◌∙◌, ◌∷◌, ◌≡◌}
use Rattle.std.specs.List.{list_all}

-- ---- one way to cut a text into lines

no_line : (p q : List ℕ) → [] ≡ (p ++ 10 ∷ []) ++ q → ⊥
no_line [] q e = cc
no_line (c ∷ cs) q e = cc

pub lines_one : (ls ms : List (List ℕ)) → Every Inline ls → Every Inline ms → lines_text ls ≡ lines_text ms → ls ≡ ms
lines_one [] [] g h e = refl
lines_one [] (m ∷ ms) g h e = absurd (no_line m (lines_text ms) e)
lines_one (l ∷ ls) [] g h e = absurd (no_line l (lines_text ls) (sym e))
lines_one (l ∷ ls) (m ∷ ms) g h e =
    let r = line_one l m (lines_text ls) (lines_text ms) g.0 h.0
    (sym (append_assoc l (10 ∷ []) (lines_text ls)) ∙ e ∙ append_assoc m (10 ∷ []) (lines_text ms)) in
    let rest = lines_one ls ms g.1 h.1 r.1 in
    (λ i. r.0 i ∷ rest i)

-- ---- values

test_parts : (a b : Bool) → (a && b) ≡ true → (a ≡ true) × (b ≡ true)
test_parts true true h = (refl, refl)
test_parts true false h = absurd cc
test_parts false b h = absurd cc

printable_run : (t : List ℕ) → list_all text.is_printable t ≡ true → EachPasses is_printable t
printable_run [] h = tt
printable_run (b ∷ bs) h = let r = test_parts (text.is_printable b) (list_all text.is_printable bs) h in (r.0, printable_run bs r.1)

value_inline : (v : Value) → IsValue v → Inline (value_text v)
value_inline (value.Int (pos n)) h = decimal_inline n
value_inline (value.Int (negsuc n)) h = (refl, decimal_inline (suc n))
value_inline (value.Text t) h =
    let r = test_parts (nat_le (length t) 255) (list_all text.is_printable t) h in
    (refl, run_append is_inline (doubled t) (39 ∷ []) (doubled_inline t (printable_run t r.1)) (refl, tt))
value_inline value.Null h = known (codes "null") refl

values_inline : (vs : List Value) → IsSizedRow vs → Inline (between_commas value_text vs)
values_inline [] h = tt
values_inline (v ∷ vs) h = run_append is_inline (value_text v) (preceded (codes ", ") value_text vs) (value_inline v h.0)
    (preceded_inline IsValue value_text value_inline (codes ", ") vs refl h.1)

closed_inline : (vs : List Value) → IsSizedRow vs → Inline (between_commas value_text vs ++ codes ")")
closed_inline vs h = run_append is_inline (between_commas value_text vs) (codes ")") (values_inline vs h) (known (codes ")") refl)

row_inline : (vs : List Value) → IsSizedRow vs → Inline (row_text vs)
row_inline vs h = (refl, closed_inline vs h)

call_inline : (n : List ℕ) (args : List Value) → IsName n → IsSizedRow args → Inline (call_text n args)
call_inline n args h k =
    run_append is_inline n (codes "(" ++ (between_commas value_text args ++ codes ")")) (name_inline n h) (refl, closed_inline args k)

-- ---- words

cause_inline : (c : Cause) → all_inline (cause_text c) ≡ true
cause_inline cause.Check = refl
cause_inline c = refl

limit_inline : (l : LimitName) → all_inline (limit_word l) ≡ true
limit_inline limit.Name = refl
limit_inline l = refl

family_inline : (f : Family) → all_inline (family_text f) ≡ true
family_inline family.Acid = refl
family_inline f = refl

mode_inline : (m : Mode) → all_inline (mode_text m) ≡ true
mode_inline mode.Read = refl
mode_inline m = refl

why_inline : (w : Why) → all_inline (why_text w) ≡ true
why_inline why.Fault = refl
why_inline w = refl

unit_inline : (u : Id) → Inline (unit_text u)
unit_inline u = (refl, (base_inline u).1)

owner_inline : (o : Owner) → Inline (owner_text o)
owner_inline (owner.Unit u) = unit_inline u
owner_inline (owner.Base b) = base_inline b

pair_inline : (stop : ℕ × ℕ) → Inline (stop_text stop)
pair_inline stop = run_append is_inline (decimal stop.0) (codes " " ++ decimal stop.1) (decimal_inline stop.0) (refl, decimal_inline stop.1)

-- ---- parts of events

kind_inline : (k : UnitKind) → IsPrintableKind k → IsSizedKind k → Inline (kind_text k)
kind_inline (kind.Acid s) g h = lead (codes " began @") (decimal s) refl (decimal_inline s)
kind_inline (kind.Call s n args) g h =
    lead (codes " began @") (decimal s ++ (codes " call " ++ call_text n args)) refl
    (run_append is_inline (decimal s) (codes " call " ++ call_text n args) (decimal_inline s)
    (lead (codes " call ") (call_text n args) refl (call_inline n args g h.1)))
kind_inline (kind.First s b n args) g h =
    lead (codes " began @") (decimal s ++ (codes " " ++ (base_text b ++ (codes " part 1 of " ++ call_text n args)))) refl
    (run_append is_inline (decimal s) (codes " " ++ (base_text b ++ (codes " part 1 of " ++ call_text n args))) (decimal_inline s) (
      refl,
      run_append is_inline (base_text b) (codes " part 1 of " ++ call_text n args) (base_inline b)
          (lead (codes " part 1 of ") (call_text n args) refl (call_inline n args g h.2)),
    ))
kind_inline (kind.Later b part) g h =
    lead (codes " began ") (base_text b ++ (codes " part " ++ decimal part)) refl
    (run_append is_inline (base_text b) (codes " part " ++ decimal part) (base_inline b)
    (lead (codes " part ") (decimal part) refl (decimal_inline part)))

cell_inline : (v : Option Value) → IsValueIn v → Inline (cell_text v)
cell_inline None h = known (codes "none") refl
cell_inline (Some v) h = value_inline v h

answer_inline : (a : Answer) → IsSizedAnswer a → Inline (answer_text a)
answer_inline (answer.Count n) h = lead (codes "count ") (decimal n) refl (decimal_inline n)
answer_inline (answer.Rows rows) h =
    lead (codes "rows") (preceded (codes " ") row_text rows) refl (preceded_inline IsSizedRow row_text row_inline (codes " ") rows refl h)
answer_inline (answer.Cell v) h = lead (codes "value ") (cell_text v) refl (cell_inline v h)
answer_inline (answer.Stored v) h = lead (codes "stored ") (value_text v) refl (value_inline v h)
answer_inline answer.Held h = known (codes "true") refl
answer_inline (answer.Failed c) h = lead (codes "failed ") (cause_text c) refl (known (cause_text c) (cause_inline c))

end_inline : (e : End) → Inline (end_text e)
end_inline (end.Committed n) = lead (codes " committed ") (decimal n) refl (decimal_inline n)
end_inline (end.Failed c) = lead (codes " failed ") (cause_text c) refl (known (cause_text c) (cause_inline c))
end_inline (end.Branched n c) =
    lead (codes " branched ") (decimal n ++ (codes " " ++ cause_text c)) refl
    (run_append is_inline (decimal n) (codes " " ++ cause_text c) (decimal_inline n) (refl, known (cause_text c) (cause_inline c)))
end_inline end.RolledBack = known (codes " rolled back") refl
end_inline end.Victim = known (codes " victim") refl
end_inline end.Cut = known (codes " cut") refl

refusal_inline : (r : Refusal) → IsPrintableRefusal r → Inline (refusal_text r)
refusal_inline (refused.Limit l) h = lead (codes "4 limit ") (limit_word l) refl (known (limit_word l) (limit_inline l))
refusal_inline (refused.Unknown n) h = lead (codes "5 unknown ") n refl (unknown_inline n h)
refusal_inline (refused.Exists n) h = lead (codes "6 exists ") n refl (name_inline n h)
refusal_inline (refused.Branch n) h = lead (codes "8 branch ") (decimal n) refl (decimal_inline n)
refusal_inline refused.Long h = known (codes "1 long") refl
refusal_inline refused.Byte h = known (codes "2 byte") refl
refusal_inline refused.Syntax h = known (codes "3 syntax") refl
refusal_inline refused.Mistyped h = known (codes "7 type") refl
refusal_inline refused.State h = known (codes "9 state") refl
refusal_inline refused.Busy h = known (codes "10 busy") refl

place_inline : (at : BaseAt) → Inline (place_text at)
place_inline place.First = known (codes "first") refl
place_inline (place.Next n) = lead (codes "next ") (decimal n) refl (decimal_inline n)
place_inline place.Finished = known (codes "finished") refl

range_inline : (lo hi : Option Value) → IsValueIn lo → IsValueIn hi → Inline (range_text lo hi)
range_inline None hi g h = known (codes "all") refl
range_inline (Some v) None g h = known (codes "all") refl
range_inline (Some v) (Some w) g h =
    run_append is_inline (value_text v) (codes ".." ++ value_text w) (value_inline v g) (lead (codes "..") (value_text w) refl (value_inline w h))

-- ---- events

shown_lines : (schema : List TableDef) (items : List Item) (last : List ℕ) →
    flat_map (item_text schema) items ++ (last ++ 10 ∷ []) ≡ lines_text (map (item_line schema) items ++ last ∷ [])
shown_lines schema [] last = sym (append-nil (last ++ 10 ∷ []))
shown_lines schema (i ∷ items) last =
    append_assoc (item_text schema i) (flat_map (item_text schema) items) (last ++ 10 ∷ [])
    ∙ ap (λ (x : List ℕ). x ++ (flat_map (item_text schema) items ++ (last ++ 10 ∷ []))) (here i)
    ∙ ap (λ (x : List ℕ). ended (item_line schema i) ++ x) (shown_lines schema items last)
  where
    here : (i : Item) → item_text schema i ≡ ended (item_line schema i)
    here (item.Lock l) = refl
    here (item.Base b n at) = simp append_assoc

one_line : (line : List ℕ) → line ++ 10 ∷ [] ≡ lines_text (line ∷ [])
one_line line = sym (append-nil (line ++ 10 ∷ []))

-- an event's text is its lines
pub event_is_lines : (schema : List TableDef) (e : Event) → event_text schema e ≡ lines_text (event_lines schema e)
event_is_lines schema (event.Shown items) = append_assoc (flat_map (item_text schema) items) (codes "shown " ++ decimal (length items)) (10 ∷ [])
    ∙ shown_lines schema items (codes "shown " ++ decimal (length items))
event_is_lines schema e = one_line (event_line schema e)

every_append : (xs ys : List (List ℕ)) → Every Inline xs → Every Inline ys → Every Inline (xs ++ ys)
every_append [] ys g h = h
every_append (x ∷ xs) ys g h = (g.0, every_append xs ys g.1 h)

-- what holds of each, as the lists of these lemmas want it
always : {A : Type 0} (xs : List A) → Every (λ x. Unit {0}) xs
always [] = tt
always (x ∷ xs) = (tt, always xs)

module _ (laws : LawsBelow) (schema : List TableDef) (naming : IsNaming schema) where
  item_inline : (i : Item) → IsPrintableItem schema i → IsSizedItem i → Inline (item_line schema i)
  item_inline (item.Lock l) g h =
      lead (codes "lock ") (owner_text l.owner ++ family_part schema l) refl
      (run_append is_inline (owner_text l.owner) (family_part schema l) (owner_inline l.owner)
      (lead (codes " ") (family_text l.family ++ mode_part schema l) refl
      (run_append is_inline (family_text l.family) (mode_part schema l) (known (family_text l.family) (family_inline l.family))
      (lead (codes " ") (mode_text l.mode ++ table_part schema l) refl
      (run_append is_inline (mode_text l.mode) (table_part schema l) (known (mode_text l.mode) (mode_inline l.mode))
      (lead (codes " ") (table_name schema l.table ++ range_part schema l) refl
      (run_append is_inline (table_name schema l.table) (range_part schema l)
      (name_inline (table_name schema l.table) (table_is_name schema naming l.table g.0))
      (lead (codes " ") (range_text l.range.lo l.range.hi) refl (range_inline l.range.lo l.range.hi h.1 h.2)))))))))
  item_inline (item.Base b n at) g h =
      lead (codes "base ") (base_text b ++ (codes " " ++ (n ++ (codes " " ++ place_text at)))) refl
      (run_append is_inline (base_text b) (codes " " ++ (n ++ (codes " " ++ place_text at))) (base_inline b)
      (refl, run_append is_inline n (codes " " ++ place_text at) (name_inline n g) (refl, place_inline at)))

  items_inline : (items : List Item) → Every (IsPrintableItem schema) items → Every IsSizedItem items → Every Inline (map (item_line schema) items)
  items_inline [] g h = tt
  items_inline (i ∷ items) g h = (item_inline i g.0 h.0, items_inline items g.1 h.1)

  event_inline : (e : Event) → HasPrintedForm schema e → IsSizedEvent e → Every Inline (event_lines schema e)
  event_inline (event.Began u k) g h = (run_append is_inline (unit_text u) (kind_text k) (unit_inline u) (kind_inline k g h.1), tt)
  event_inline (event.Did u st a) g h = (
    run_append is_inline (unit_text u) (codes " did " ++ (statement_text st ++ (codes " -> " ++ answer_text a))) (unit_inline u)
        (lead (codes " did ") (statement_text st ++ (codes " -> " ++ answer_text a)) refl
        (run_append is_inline (statement_text st) (codes " -> " ++ answer_text a) (statement_inline laws st g)
        (lead (codes " -> ") (answer_text a) refl (answer_inline a h.1)))),
    tt,
  )
  event_inline (event.Waits u owners) g h = (
    run_append is_inline (unit_text u) (codes " waits" ++ preceded (codes " ") owner_text owners) (unit_inline u)
        (lead (codes " waits") (preceded (codes " ") owner_text owners) refl
        (preceded_inline (λ o. Unit {0}) owner_text (λ o t. owner_inline o) (codes " ") owners refl (always owners))),
    tt,
  )
  event_inline (event.Ended u e) g h = (run_append is_inline (unit_text u) (end_text e) (unit_inline u) (end_inline e), tt)
  event_inline (event.Accepted b) g h = (run_append is_inline (base_text b) (codes " accepted") (base_inline b) (known (codes " accepted") refl), tt)
  event_inline (event.Finished b) g h = (run_append is_inline (base_text b) (codes " finished") (base_inline b) (known (codes " finished") refl), tt)
  event_inline (event.Released bs) g h = (
    lead (codes "released") (preceded (codes " ") base_text bs) refl
        (preceded_inline (λ o. Unit {0}) base_text (λ o t. base_inline o) (codes " ") bs refl (always bs)),
    tt,
  )
  event_inline (event.Down w) g h = (lead (codes "down ") (why_text w) refl (known (why_text w) (why_inline w)), tt)
  event_inline (event.Opened boot n) g h = (
    lead (codes "opened ") (decimal boot ++ (codes " " ++ decimal n)) refl
        (run_append is_inline (decimal boot) (codes " " ++ decimal n) (decimal_inline boot) (refl, decimal_inline n)),
    tt,
  )
  event_inline event.Ready g h = (known (codes "ready") refl, tt)
  event_inline (event.Early bs) g h = (
    lead (codes "early") (preceded (codes " ") base_text bs) refl
        (preceded_inline (λ o. Unit {0}) base_text (λ o t. base_inline o) (codes " ") bs refl (always bs)),
    tt,
  )
  event_inline (event.Defined n text) g h = (
    lead (codes "defined ") (decimal n ++ (codes " " ++ text)) refl
        (run_append is_inline (decimal n) (codes " " ++ text) (decimal_inline n) (refl, definition_inline laws text g)),
    tt,
  )
  event_inline (event.Refused r) g h = (lead (codes "refused ") (refusal_text r) refl (refusal_inline r g), tt)
  event_inline (event.Armed pairs) g h = (
    lead (codes "armed") (preceded (codes " ") stop_text pairs) refl
        (preceded_inline (λ o. Unit {0}) stop_text (λ o t. pair_inline o) (codes " ") pairs refl (always pairs)),
    tt,
  )
  event_inline (event.Shown items) g h =
      every_append (map (item_line schema) items) ((codes "shown " ++ decimal (length items)) ∷ []) (items_inline items g h)
      (lead (codes "shown ") (decimal (length items)) refl (decimal_inline (length items)), tt)

module _ (laws : LawsBelow) (schema : List TableDef) where
  -- no byte within a line of an event ends it
  pub lines_inline : (e : Event) → IsPrintableStory schema (e ∷ []) → Every Inline (event_lines schema e)
  lines_inline e g = event_inline laws schema g.naming e g.events.0.form g.events.0.sizes
