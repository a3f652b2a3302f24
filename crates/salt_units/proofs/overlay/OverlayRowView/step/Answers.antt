use Rattle.salt_eval.specs.Views.{coming_where}
use Rattle.salt_units.proofs.Merged.{ahead-none}
use Rattle.salt_units.proofs.overlay.OverlayRowView.step.Goals as goal
use Rattle.salt_units.specs.Merging.{changes_ahead, either, merged, put_at, rows_ahead, shown_at}
use Rattle.salt_units.specs.declared.overlay.Cursor.{Cursor}
use Rattle.salt_values.specs.declared.change.Change.{Change}
use Rattle.salt_values.specs.declared.value.Value.{Value}
use Rattle.std.proofs.Common.{List, [], ap, arith, false, sym, true, ◌∙◌, ◌≡◌}
use Rattle.std.specs.Prelude.{Bool, refl}

pub changes-smaller : goal.changes-smaller
changes-smaller g c = let next = c.in_ok-stands.ensures.passed c.if-stands.false in let end = c.in_ok-stands.ensures.end in omega (next, end, c.changes-test.true, arith)

pub changes-preserved : goal.changes-preserved
changes-preserved g c =
    let x = c.pass.new.self in
    let rest = merged (changes_ahead x.cursor.next x.cursor.end x.changes.now.items) (rows_ahead x.cursor.waits (g.V.Cells.cells x.view.now) (g.V.RowView.coming x.view.now)) in
    let row = shown_at (put_at x.changes.now.items x.cursor.at) (g.V.Cells.cells x.view.now) in
    record {
      same = c.in_ok-stands.ensures.changes ∙ c.changes.invariant.same;
      end = c.in_ok-stands.ensures.end ∙ c.changes.invariant.end;
      reference = c.in_ok-stands.ensures.reference ∙ c.changes.invariant.reference;
      kept = c.in_ok-stands.ensures.kept ∙ c.changes.invariant.kept;
      source = c.in_ok-stands.ensures.source ∙ c.changes.invariant.source;
      faults = c.in_ok-stands.ensures.faults ∙ c.changes.invariant.faults;
      rest = sym (c.in_ok-stands.ensures.rows ∙ ap (λ b. either b row rest) c.if-stands.false) ∙ c.changes.invariant.rest;
    }

-- it stands at a row
pub returns-then-stands-clause-row : goal.returns-then-stands-clause-row
returns-then-stands-clause-row g c =
    let x = c.pass.new.self in
    let rest = merged (changes_ahead x.cursor.next x.cursor.end x.changes.now.items) (rows_ahead x.cursor.waits (g.V.Cells.cells x.view.now) (g.V.RowView.coming x.view.now)) in
    let row = shown_at (put_at x.changes.now.items x.cursor.at) (g.V.Cells.cells x.view.now) in
    sym c.changes.invariant.rest ∙ c.in_ok-stands.ensures.rows ∙ ap (λ b. either b row rest) c.if-stands.true

-- no change is left: the row that waits, and those behind it, or none
behind-changes : (waits : Bool) (row : List Value) (rows : List (List Value)) → (waits ≡ false → rows ≡ []) → rows_ahead waits row rows ≡ coming_where waits row rows
behind-changes true row rows none = refl
behind-changes false row rows none = none refl

pub returns-clause-row : goal.returns-clause-row
returns-clause-row g c =
    let l = c.changes.self in
    let x = c.look_below.new.self in
    let next = ap (λ (k : Cursor). k.next) c.in_ok-look_below.ensures.cursor in
    let end = ap (λ (k : Cursor). k.end) c.in_ok-look_below.ensures.cursor in
    let none : changes_ahead l.cursor.next l.cursor.end l.changes.now.items ≡ [] = ahead-none l.changes.now.items l.cursor.next l.cursor.end c.changes-test.false in
    let none_behind : changes_ahead x.cursor.next x.cursor.end x.changes.now.items ≡ [] = ahead-none x.changes.now.items x.cursor.next x.cursor.end (omega (next, end, c.changes-test.false, arith)) in
    sym c.changes.invariant.rest
    ∙ ap (λ (cs : List Change). merged cs (rows_ahead l.cursor.waits (g.V.Cells.cells l.view.now) (g.V.RowView.coming l.view.now))) none
    ∙ sym c.in_ok-look_below.ensures.rows
    ∙ behind-changes x.cursor.waits (g.V.Cells.cells x.view.now) (g.V.RowView.coming x.view.now) c.in_ok-look_below.ensures.none
    ∙ ap (λ (cs : List Change). coming_where x.cursor.waits (g.V.Cells.cells x.view.now) (merged cs (g.V.RowView.coming x.view.now))) (sym none_behind)

-- and where none waits, none is to come
pub returns-clause-ended : goal.returns-clause-ended
returns-clause-ended g c =
    let x = c.look_below.new.self in
    let next = ap (λ (k : Cursor). k.next) c.in_ok-look_below.ensures.cursor in
    let end = ap (λ (k : Cursor). k.end) c.in_ok-look_below.ensures.cursor in
    let none_behind : changes_ahead x.cursor.next x.cursor.end x.changes.now.items ≡ [] = ahead-none x.changes.now.items x.cursor.next x.cursor.end (omega (next, end, c.changes-test.false, arith)) in
    λ is. ap (λ (cs : List Change). merged cs (g.V.RowView.coming x.view.now)) none_behind ∙ c.in_ok-look_below.ensures.none is
