-- Statements that are judged, one after another, leave rows, edits and variables of their types.
use Rattle.salt_ast.specs.Judgement.{bindings, statement_fault}
use Rattle.salt_ast.specs.declared.trees.Scope.{Scope}
use Rattle.salt_ast.specs.declared.trees.Statement.{Statement}
use Rattle.salt_ast.specs.declared.trees.TableDef.{TableDef}
use Rattle.salt_model.specs.Statements.{UnitRun, doing, has_failed, outcome_of, run_from, run_on, serial, with_done}
use Rattle.salt_model.specs.Tables.{Tables}
use Rattle.salt_model.specs.Words.{Every}
use Rattle.salt_model.specs.declared.vars.Binding.{Binding}
use Rattle.law_types.proofs.Judged.{judged}
use Rattle.law_types.proofs.Rows.{edits-put, rows-changed}
use Rattle.law_types.proofs.Statements.{outcome-typed}
use Rattle.law_types.specs.Typed.{AreApart, AreRowsOf, AreVariables, IsProperTable, IsTypedDone, IsTypedRun}
use Rattle.std.proofs.Common.{subst, sym}
use Rattle.std.specs.Prelude.{Bool, List, None, [], cond, false, true, ◌∷◌, ◌≡◌}

module _ (schema : List TableDef) (scope : Scope) (each : Every IsProperTable schema) (apart : AreApart (bindings scope)) where
  pub statement-typed : (es : Tables) (vars : List Binding) (st : Statement) → statement_fault schema scope st ≡ None → AreRowsOf schema es → AreVariables (bindings scope) vars →
      IsTypedDone schema (bindings scope) (outcome_of schema es vars st)
  statement-typed es vars st h fit held =
      subst (λ (bs : List Binding). IsTypedDone schema (bindings scope) (outcome_of schema es bs st)) (sym held.named)
      (outcome-typed schema scope apart held.values held.typed each es fit st (judged schema scope st h))

  one-more : (r : UnitRun) (st : Statement) → statement_fault schema scope st ≡ None → IsTypedRun schema (bindings scope) r → IsTypedRun schema (bindings scope) (with_done schema r st)
  one-more r st h is =
      let d = statement-typed r.tables r.vars st h is.rows is.vars in
      record {
        rows = rows-changed schema (doing schema r st).changes r.tables d.changes is.rows;
        changes = edits-put schema (doing schema r st).changes r.changes d.changes is.changes;
        vars = d.vars;
      }

  run-typed : (sts : List Statement) (r : UnitRun) → Every (λ (st : Statement). statement_fault schema scope st ≡ None) sts → IsTypedRun schema (bindings scope) r →
      IsTypedRun schema (bindings scope) (run_on schema sts r)
  run-typed [] r h is = is
  run-typed (st ∷ sts) r h is = let next = one-more r st h.0 is in by (has_failed (doing schema r st).answer) next (run-typed sts (with_done schema r st) h.1 next)
    where
      by : (b : Bool) → IsTypedRun schema (bindings scope) (with_done schema r st) → IsTypedRun schema (bindings scope) (run_on schema sts (with_done schema r st)) →
          IsTypedRun schema (bindings scope) (cond b (with_done schema r st) (run_on schema sts (with_done schema r st)))
      by true x y = x
      by false x y = y

  pub serial-typed : (es : Tables) (vars : List Binding) (sts : List Statement) → Every (λ (st : Statement). statement_fault schema scope st ≡ None) sts → AreRowsOf schema es → AreVariables (bindings scope) vars →
      IsTypedRun schema (bindings scope) (serial schema es vars sts)
  serial-typed es vars sts h fit held = run-typed sts (run_from es vars) h (record { rows = fit; changes = tt; vars = held })
