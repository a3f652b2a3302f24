use Rattle.salt_units.proofs.Merged.{passed-both, passed-change, passed-row}
use Rattle.salt_units.proofs.overlay.Overlay.pass.Goals as goal
use Rattle.salt_units.specs.Merging.{changes_ahead, either, merged, put_at, rows_ahead, shown_at}
use Rattle.salt_units.specs.declared.overlay.Cursor.{Cursor}
use Rattle.salt_values.specs.declared.change.Change.{Change}
use Rattle.salt_values.specs.declared.value.Value.{Value}
use Rattle.std.proofs.Common.{Bool, List, Some, ap, arith, false, subst, suc, sym, ℕ, ◌+◌, ◌<◌, ◌∙◌, ◌≡◌}
use Rattle.std.specs.Prelude.{is_some}

-- the cursor and the changes are as before, but for whether the view waits
ahead-same : (n n' e e' : ℕ) (cs cs' : List Change) → n' ≡ n → e' ≡ e → cs' ≡ cs → changes_ahead n e cs ≡ changes_ahead n' e' cs'
ahead-same n n' e e' cs cs' nn ee cc = ap (λ l. changes_ahead n e l) (sym cc) ∙ ap (λ m. changes_ahead m e cs') (sym nn) ∙ ap (λ m. changes_ahead n' m cs') (sym ee)

still-ahead : (n n' e e' : ℕ) → n' ≡ n → e' ≡ e → n < e → n' < e'
still-ahead n n' e e' nn ee low = subst (λ m. m < e') (sym nn) (subst (λ m. n < m) (sym ee) low)

looked : (n n' e e' : ℕ) (cs cs' : List Change) (was now : List (List Value)) → n' ≡ n → e' ≡ e → cs' ≡ cs → now ≡ was → merged (changes_ahead n e cs) was ≡ merged (changes_ahead n' e' cs') now
looked n n' e e' cs cs' was now nn ee cc rows = ap (merged (changes_ahead n e cs)) (sym rows) ∙ ap (λ a. merged a now) (ahead-same n n' e e' cs cs' nn ee cc)

-- what is shown, and what is to come behind it, where a cursor stands so
abbrev ahead : (stands : Bool) → Cursor → List Change → (cells : List Value) → (coming : List (List Value)) → List (List Value)
ahead stands k cs cells coming = either stands (shown_at (put_at cs k.at) cells) (merged (changes_ahead k.next k.end cs) (rows_ahead k.waits cells coming))

-- it stands at a change
abbrev at-change : (at next end : ℕ) → (waits : Bool) → Cursor
at-change at next end waits = record { at = Some at; next = next; end = end; waits = waits }

plus-one : (n : ℕ) → n + 1 ≡ suc n
plus-one n = omega arith

moved : (stands stands' : Bool) (k k' : Cursor) (cs : List Change) (cells : List Value) (coming : List (List Value)) → stands' ≡ stands → k' ≡ k → ahead stands k cs cells coming ≡ ahead stands' k' cs cells coming
moved stands stands' k k' cs cells coming ss kk = ap (λ b. ahead b k cs cells coming) (sym ss) ∙ ap (λ m. ahead stands' m cs cells coming) (sym kk)

-- the row below comes first
pub returns-in-Less-clause-rows : goal.returns-in-Less-clause-rows
returns-in-Less-clause-rows g c =
    let l = c.in_ok-look_below.ensures in
    let old = c.args.self.now in
    let x = c.look_below.new.self in
    let next = ap (λ (k : Cursor). k.next) l.cursor in
    let end = ap (λ (k : Cursor). k.end) l.cursor in
    let cs = ap (λ r. r.now.items) l.changes in
    let below = rows_ahead x.cursor.waits (g.V.Cells.cells x.view.now) (g.V.RowView.coming x.view.now) in
    looked old.cursor.next x.cursor.next old.cursor.end x.cursor.end old.changes.now.items x.changes.now.items (rows_ahead old.cursor.waits (g.V.Cells.cells old.view.now) (g.V.RowView.coming old.view.now)) below next end cs l.rows
    ∙ passed-row x.cursor.waits (g.V.Cells.cells x.view.now) (g.V.RowView.coming x.view.now) x.changes.now.items x.cursor.next x.cursor.end c.change_ahead-change.result.now
    (still-ahead old.cursor.next x.cursor.next old.cursor.end x.cursor.end next end c.requires) c.change_ahead-change.ensures l.none (sym c.in_ok-waiting_cmp.ensures ∙ c.in-Less.is)

-- the change is at its place
pub returns-in-Equal-clause-rows : goal.returns-in-Equal-clause-rows
returns-in-Equal-clause-rows g c =
    let l = c.in_ok-look_below.ensures in
    let old = c.args.self.now in
    let x = c.look_below.new.self in
    let next = ap (λ (k : Cursor). k.next) l.cursor in
    let end = ap (λ (k : Cursor). k.end) l.cursor in
    let cs = ap (λ r. r.now.items) l.changes in
    let below = rows_ahead x.cursor.waits (g.V.Cells.cells x.view.now) (g.V.RowView.coming x.view.now) in
    looked old.cursor.next x.cursor.next old.cursor.end x.cursor.end old.changes.now.items x.changes.now.items (rows_ahead old.cursor.waits (g.V.Cells.cells old.view.now) (g.V.RowView.coming old.view.now)) below next end cs l.rows
    ∙ passed-both x.cursor.waits (g.V.Cells.cells x.view.now) (g.V.RowView.coming x.view.now) x.changes.now.items x.cursor.next x.cursor.end c.change_ahead-change.result.now
    (still-ahead old.cursor.next x.cursor.next old.cursor.end x.cursor.end next end c.requires) c.change_ahead-change.ensures l.none (sym c.in_ok-waiting_cmp.ensures ∙ c.in-Equal.is)
    ∙ moved (is_some c.change_ahead-change.result.now.row) c.is_some-is_put.result (at-change x.cursor.next (suc x.cursor.next) x.cursor.end false) c.passed-self.result x.changes.now.items
    (g.V.Cells.cells x.view.now) (g.V.RowView.coming x.view.now) c.is_some-is_put.ensures
    (c.passed-self.ensures ∙ ap (λ n. at-change x.cursor.next n x.cursor.end false) (plus-one x.cursor.next))

-- the change comes first
pub returns-in-Greater-clause-rows : goal.returns-in-Greater-clause-rows
returns-in-Greater-clause-rows g c =
    let l = c.in_ok-look_below.ensures in
    let old = c.args.self.now in
    let x = c.look_below.new.self in
    let next = ap (λ (k : Cursor). k.next) l.cursor in
    let end = ap (λ (k : Cursor). k.end) l.cursor in
    let cs = ap (λ r. r.now.items) l.changes in
    let below = rows_ahead x.cursor.waits (g.V.Cells.cells x.view.now) (g.V.RowView.coming x.view.now) in
    looked old.cursor.next x.cursor.next old.cursor.end x.cursor.end old.changes.now.items x.changes.now.items (rows_ahead old.cursor.waits (g.V.Cells.cells old.view.now) (g.V.RowView.coming old.view.now)) below next end cs l.rows
    ∙ passed-change x.cursor.waits (g.V.Cells.cells x.view.now) (g.V.RowView.coming x.view.now) x.changes.now.items x.cursor.next x.cursor.end c.change_ahead-change.result.now
    (still-ahead old.cursor.next x.cursor.next old.cursor.end x.cursor.end next end c.requires) c.change_ahead-change.ensures l.none (sym c.in_ok-waiting_cmp.ensures ∙ c.in-Greater.is)
    ∙ moved (is_some c.change_ahead-change.result.now.row) c.is_some-is_put.result (at-change x.cursor.next (suc x.cursor.next) x.cursor.end x.cursor.waits) c.passed-self-in-Greater.result x.changes.now.items
    (g.V.Cells.cells x.view.now) (g.V.RowView.coming x.view.now) c.is_some-is_put.ensures
    (c.passed-self-in-Greater.ensures ∙ ap (λ n. at-change x.cursor.next n x.cursor.end x.cursor.waits) (plus-one x.cursor.next))
