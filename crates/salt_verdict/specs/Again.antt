-- What doing a unit's statements again gives: its answers, its variables and its edits.
use Rattle.law_states.specs.Overlays.{Edit, edits_of, put_all}
use Rattle.salt_ast.specs.declared.trees.Statement.{Statement}
use Rattle.salt_ast.specs.declared.trees.TableDef.{TableDef}
use Rattle.salt_audit.specs.Replaying.{done_under}
use Rattle.salt_model.specs.Statements.{UnitRun, has_failed}
use Rattle.salt_model.specs.Tables.{Tables}
use Rattle.salt_model.specs.declared.events.Answer.{Answer}
use Rattle.salt_model.specs.declared.vars.Binding.{Binding}
use Rattle.salt_verdict.specs.declared.again.Again.{Again}
use Rattle.std.specs.Prelude.{List, [], if◌then◌else◌, ◌++◌, ◌∷◌, ◌≡◌}

pub record Outcome : Type 0 where
  pub answers : List Answer
  pub vars : List Binding
  pub edits : List Edit

-- statements done behind answers, edits and variables, up to the first that fails
abbrev pub outcome_on : List TableDef → Tables → List Answer → List Edit → List Binding → List Statement → Outcome
outcome_on schema es as_ ds vars [] = record { answers = as_; vars = vars; edits = ds }
outcome_on schema es as_ ds vars (st ∷ sts) =
    let d = done_under schema es ds vars st in
    if has_failed d.answer
    then record { answers = as_ ++ d.answer ∷ []; vars = d.vars; edits = put_all d.changes ds }
    else outcome_on schema es (as_ ++ d.answer ∷ []) (put_all d.changes ds) d.vars sts

abbrev pub outcome_now : Again → Outcome
outcome_now again = record { answers = again.answers; vars = again.unit.vars; edits = edits_of again.unit.changes.items }

abbrev pub outcome_of_run : UnitRun → Outcome
outcome_of_run run = record { answers = run.answers; vars = run.vars; edits = run.changes.list }

pub record GivesOutcome (again : Again) (run : UnitRun) : Type 0 where
  pub outcome : outcome_now again ≡ outcome_of_run run
