-- What a unit's statements answer, done one after another over the committed tables under its own edits.
use Rattle.salt_ast.specs.declared.trees.Statement.{Statement}
use Rattle.salt_ast.specs.declared.trees.TableDef.{TableDef}
use Rattle.salt_audit.specs.Laws.{fits_end, is_same_answer, same_all}
use Rattle.law_states.specs.Overlays.{Edit, put_all, with_edits}
use Rattle.salt_model.specs.Honest.{cause_among}
use Rattle.salt_model.specs.Statements.{Done, has_failed, outcome_of}
use Rattle.salt_model.specs.Tables.{Tables}
use Rattle.salt_model.specs.Words.{Every}
use Rattle.salt_model.specs.declared.events.Answer.{Answer}
use Rattle.salt_model.specs.declared.events.Event.TheVariants.{Did, Ended}
use Rattle.salt_model.specs.declared.events.Event.{Event}
use Rattle.salt_model.specs.declared.vars.Binding.{Binding}
use Rattle.salt_units.specs.Acting.{leaves_keys}
use Rattle.salt_values.specs.Id.{is_same_id}
use Rattle.salt_values.specs.declared.id.Id.{Id}
use Rattle.std.specs.Prelude.{Bool, List, [], false, if◌then◌else◌, is_some, not, true, ◌∷◌, ◌≡◌}

abbrev pub done_under : List TableDef → Tables → List Edit → List Binding → Statement → Done
done_under schema es ds vars st = outcome_of schema (with_edits ds es) vars st

-- the answers up to the first that failed
abbrev pub answers_on : List TableDef → Tables → List Edit → List Binding → List Statement → List Answer
answers_on schema es ds vars [] = []
answers_on schema es ds vars (st ∷ sts) =
    let d = done_under schema es ds vars st in d.answer ∷ (if has_failed d.answer then [] else answers_on schema es (put_all d.changes ds) d.vars sts)

-- whether these are the answers
abbrev pub is_replay : List TableDef → Tables → List Edit → List Binding → List Statement → List Answer → Bool
is_replay schema es ds vars sts answers = same_all is_same_answer answers (answers_on schema es ds vars sts)

-- no statement sets a key
abbrev pub LeaveKeys : List TableDef → List Statement → Type 0
LeaveKeys schema sts = Every (λ (st : Statement). leaves_keys schema st ≡ true) sts

-- the event is amiss behind these answers of its unit: one of them failed, and something else follows than its end
abbrev pub is_amiss : Event → List Answer → Bool
is_amiss (Did u st a) answers = is_some (cause_among answers)
is_amiss (Ended u e) answers = not (fits_end e (cause_among answers))
is_amiss e answers = false

-- the event is a statement or the end of the unit
abbrev pub is_of_unit : Id → Event → Bool
is_of_unit u (Did v st a) = is_same_id u v
is_of_unit u (Ended v e) = is_same_id u v
is_of_unit u e = false
