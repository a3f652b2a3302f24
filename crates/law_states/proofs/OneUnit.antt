-- The unit that an event is of: it begins, does a statement on the tables under its edits, or waits.
use Rattle.salt_ast.specs.declared.lines.Line.{Line}
use Rattle.salt_ast.specs.declared.trees.Statement.{Statement}
use Rattle.law_states.proofs.Overlays.{is-edited, put-all, row-under}
use Rattle.law_states.specs.Keeps.{KeepsUnit}
use Rattle.law_states.specs.OpenUnits.{OpenUnit, UnitState, count_on, counted}
use Rattle.law_states.specs.Overlays.{AreInOrder, put_all, with_edits}
use Rattle.law_states.specs.Steps.{begun, doing_one, outcome_under, waiting_by}
use Rattle.law_story.proofs.Edits.{run-told}
use Rattle.law_story.proofs.Ids.{is_same_id-refl}
use Rattle.salt_model.specs.After.{kept, run_of, tables_after, vars_of}
use Rattle.salt_model.specs.Kept.{Kept, schema_of, vars_of_kind}
use Rattle.salt_model.specs.Statements.{doing, outcome_of, run_from, with_done}
use Rattle.salt_model.specs.Trace.{Trace, line_of, ◌says◌}
use Rattle.salt_model.specs.Turns.{is_statement_line}
use Rattle.salt_model.specs.Units.{done_of}
use Rattle.salt_model.specs.Waiting.{statement_of_line}
use Rattle.salt_model.specs.declared.events.Answer.{Answer}
use Rattle.salt_model.specs.declared.events.Event.TheVariants.{Began, Did, Waits}
use Rattle.salt_model.specs.declared.events.Owner.{Owner}
use Rattle.salt_model.specs.declared.events.UnitKind.{UnitKind}
use Rattle.salt_model.specs.declared.events.UnitKind.TheVariants.{Acid}
use Rattle.salt_values.specs.declared.id.Id.{Id}
use Rattle.std.proofs.Common.{ap, length-append, subst, ◌∙◌}
use Rattle.std.specs.Prelude.{List, [], length, refl, ℕ, ◌+◌, ◌∷◌, ◌≡◌}

-- the tables of an open unit's statements, done anew, are the committed ones with its edits made
pub run-tables : (trace : Trace) (u : Id) → (run_of u trace).tables ≡ with_edits (run_of u trace).changes.list (tables_after trace)
run-tables trace u =
    is-edited (run_of u trace).changes.list (tables_after trace) (run_of u trace).tables (run_of u trace).changes.sorted
    (λ q. run-told (schema_of (kept trace)) (done_of u trace) (tables_after trace) (run_from (tables_after trace) (vars_of u trace)) (λ p. refl) q ∙ row-under (run_of u trace).changes (tables_after trace) q)

-- edits are in order of places
pub edits-in-order : (trace : Trace) (o : OpenUnit) → KeepsUnit trace o → AreInOrder o.changes
edits-in-order trace o keeps = subst AreInOrder keeps.changes (run_of o.unit trace).changes.sorted

pub tables-kept : (trace : Trace) (k : Kept) (o : OpenUnit) → kept trace ≡ k → KeepsUnit trace o →
    (run_of o.unit trace).tables ≡ with_edits o.changes k.tables
tables-kept trace k o same keeps = run-tables trace o.unit ∙ (λ i. with_edits (keeps.changes i) (same i).tables)

-- doing a statement needs no more than what is kept
pub done-kept : (trace : Trace) (k : Kept) (o : OpenUnit) (st : Statement) → kept trace ≡ k → KeepsUnit trace o →
    doing (schema_of (kept trace)) (run_of o.unit trace) st ≡ outcome_under k o st
done-kept trace k o st same keeps =
    let tables = tables-kept trace k o same keeps in
    λ i. outcome_of (schema_of (same i)) (tables i) (keeps.vars i) st

none-done : (kind : UnitKind) → counted kind 0 ≡ 0
none-done (Acid s) = refl
none-done kind = refl

one-done : (kind : UnitKind) (n : ℕ) → counted kind (n + 1) ≡ count_on kind (counted kind n)
one-done (Acid s) n = refl
one-done kind n = refl

pub keeps-began : (trace : Trace) (s : UnitState) (u : Id) (kind : UnitKind) → kept trace ≡ s.kept → line_of trace ≡ s.line →
    KeepsUnit (trace says Began u kind) (begun s u kind)
keeps-began trace s u kind same line = record {
  kind = rw (is_same_id-refl u) refl;
  single = rw (is_same_id-refl u) (ap is_statement_line line);
  waiting = rw (is_same_id-refl u) refl;
  asks = rw (is_same_id-refl u) refl;
  done = rw (is_same_id-refl u) (none-done kind);
  vars = rw (is_same_id-refl u) (ap (λ k. vars_of_kind k kind) same);
  changes = rw (is_same_id-refl u) refl;
}

pub keeps-did : (trace : Trace) (k : Kept) (o : OpenUnit) (st : Statement) (a : Answer) → kept trace ≡ k → KeepsUnit trace o →
    run_of o.unit (trace says Did o.unit st a) ≡ with_done (schema_of (kept trace)) (run_of o.unit trace) st →
    KeepsUnit (trace says Did o.unit st a) (doing_one k st o)
keeps-did trace k o st a same keeps run =
    let now = done-kept trace k o st same keeps in
    record {
      kind = keeps.kind;
      single = keeps.single;
      waiting = rw (is_same_id-refl o.unit) refl;
      asks = rw (is_same_id-refl o.unit) refl;
      done = rw (is_same_id-refl o.unit) (ap (counted o.kind) (length-append (done_of o.unit trace) (st ∷ [])) ∙ one-done o.kind (length (done_of o.unit trace)) ∙ ap (count_on o.kind) keeps.done);
      vars = ap (λ r. r.vars) run ∙ ap (λ d. d.vars) now;
      changes = ap (λ r. r.changes.list) run ∙ put-all (doing (schema_of (kept trace)) (run_of o.unit trace) st).changes (run_of o.unit trace).changes ∙ (λ i. put_all (now i).changes (keeps.changes i));
    }

pub keeps-waits : (trace : Trace) (line : Line) (o : OpenUnit) (owners : List Owner) → line_of trace ≡ line → KeepsUnit trace o →
    KeepsUnit (trace says Waits o.unit owners) (waiting_by line o)
keeps-waits trace line o owners same keeps = record {
  kind = keeps.kind;
  single = keeps.single;
  waiting = rw (is_same_id-refl o.unit) refl;
  asks = rw (is_same_id-refl o.unit) (ap statement_of_line same);
  done = keeps.done;
  vars = keeps.vars;
  changes = keeps.changes;
}
