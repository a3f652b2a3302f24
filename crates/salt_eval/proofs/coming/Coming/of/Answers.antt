use Rattle.salt_eval.proofs.Comings.{begun-coming, begun-rows}
use Rattle.salt_eval.proofs.InOrder.{in_order}
use Rattle.salt_eval.proofs.coming.Coming.of.Goals as goal
use Rattle.salt_eval.specs.Comings.{AreComing}
use Rattle.salt_eval.specs.Views.{is_next, range_rows, start_of, tables_of}
use Rattle.salt_model.specs.Tables.{Entry, place_cmp}
use Rattle.salt_ranges.specs.declared.range.KeyRange.{KeyRange}
use Rattle.std.proofs.Common.{List, None, ap, map, subst, sym, ◌∙◌, ◌≡◌}
use Rattle.std.specs.BTreeMap.Range.{entries_between}
use Rattle.std.specs.FinMap.Entries.{where_key}
use Rattle.std.specs.declared.ops.Bound.TheVariants.{Unbounded}

-- a range that was copied is the range
same-range : (range : KeyRange) (lo hi : _) → lo ≡ range.lo → hi ≡ range.hi → record { lo = lo; hi = hi } ≡ range
same-range range lo hi a b = λ i. record { lo = a i; hi = b i }

pub invariant_of-result : goal.invariant_of-result
invariant_of-result c =
    let t = c.args.table in
    let es = c.args.rows.now.entries in
    let range : KeyRange = record { lo = c.in_ok-copy.field-0; hi = c.in_ok-copy-2.field-0 } in
    let entries : c.entries_from.result ≡ entries_between place_cmp (start_of t range.lo None) Unbounded es =
    c.entries_from.ensures.entries ∙ ap (λ s. entries_between place_cmp s Unbounded es) (c.in_ok-start.ensures ∙ ap (λ lo. start_of t lo None) (sym c.in_ok-copy.ensures)) in
    record { in_order = subst (λ (l : List Entry). AreComing t range l) (sym entries) (begun-coming t range es (in_order place_cmp es c.entries_from.ensures.in_order)) }

pub returns : goal.returns
returns c =
    let t = c.args.table in
    let es = c.args.rows.now.entries in
    let range : KeyRange = record { lo = c.in_ok-copy.field-0; hi = c.in_ok-copy-2.field-0 } in
    let entries : c.entries_from.result ≡ entries_between place_cmp (start_of t range.lo None) Unbounded es =
    c.entries_from.ensures.entries ∙ ap (λ s. entries_between place_cmp s Unbounded es) (c.in_ok-start.ensures ∙ ap (λ lo. start_of t lo None) (sym c.in_ok-copy.ensures)) in
    ap (λ (l : List Entry). map (λ (e : Entry). e.1) (where_key place_cmp (is_next t range None) l)) entries
    ∙ begun-rows t range es (in_order place_cmp es c.entries_from.ensures.in_order)
    ∙ ap (λ (r : KeyRange). range_rows t r (tables_of es)) (same-range c.args.range.now _ _ c.in_ok-copy.ensures c.in_ok-copy-2.ensures)
