use Rattle.salt_loaded.proofs.Tables.{apart_before, are_moved, loaded, tables_kept, twins_left}
use Rattle.salt_loaded.proofs.loading.Loading.sorted.Goals as goal
use Rattle.salt_loaded.specs.Rows.{RowsOf, are_apart, have_twins, tables_in}
use Rattle.salt_loaded.specs.Spots.{rows_at}
use Rattle.std.proofs.Common.{ap, sym, ◌∙◌}

pub have_twins-requires : goal.have_twins-requires
have_twins-requires c =
    rw (c.as_slice-2.ensures.value, c.as_slice-3.ensures.value) (are_moved c.self.inside.bytes.items c.self.inside.spots.items c.sort.new.spots.items c.self.invariant c.sort.ensures.permutation)

pub returns-then-have_twins-clause-twins : goal.returns-then-have_twins-clause-twins
returns-then-have_twins-clause-twins c =
    λ _.
    let twins = (λ i. have_twins (rows_at (sym c.as_slice-2.ensures.value i) (sym c.as_slice-3.ensures.value i))) ∙ sym c.have_twins.ensures ∙ c.if-have_twins.true in
    ap (λ (l : RowsOf). are_apart l.rows) (sym c.self.view_is) ∙ twins_left c.self.inside.bytes.items c.self.inside.spots.items c.sort.new.spots.items c.self.invariant c.sort.ensures.permutation twins

pub invariant_of-result : goal.invariant_of-result
invariant_of-result c =
    let none = (λ i. have_twins (rows_at (sym c.as_slice-2.ensures.value i) (sym c.as_slice-3.ensures.value i))) ∙ sym c.have_twins.ensures ∙ c.if-have_twins.false in
    loaded c.self.inside.bytes.items c.self.inside.spots.items c.sort.new.spots.items c.self.invariant c.sort.ensures.permutation (rw c.as_slice.ensures.value at c.sort.ensures.sorted) none

pub returns-clause-rows : goal.returns-clause-rows
returns-clause-rows c =
    let none = (λ i. have_twins (rows_at (sym c.as_slice-2.ensures.value i) (sym c.as_slice-3.ensures.value i))) ∙ sym c.have_twins.ensures ∙ c.if-have_twins.false in
    tables_kept c.self.inside.bytes.items c.self.inside.spots.items c.sort.new.spots.items c.self.invariant c.sort.ensures.permutation (rw c.as_slice.ensures.value at c.sort.ensures.sorted) none c.self.inside.table
    ∙ ap (λ (l : RowsOf). tables_in l.table l.rows) c.self.view_is

pub returns-clause-apart : goal.returns-clause-apart
returns-clause-apart c =
    let none = (λ i. have_twins (rows_at (sym c.as_slice-2.ensures.value i) (sym c.as_slice-3.ensures.value i))) ∙ sym c.have_twins.ensures ∙ c.if-have_twins.false in
    ap (λ (l : RowsOf). are_apart l.rows) (sym c.self.view_is)
    ∙ apart_before c.self.inside.bytes.items c.self.inside.spots.items c.sort.new.spots.items c.self.invariant c.sort.ensures.permutation (rw c.as_slice.ensures.value at c.sort.ensures.sorted) none
