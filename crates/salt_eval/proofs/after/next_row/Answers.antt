use Rattle.salt_eval.proofs.InOrder.{in_order}
use Rattle.salt_eval.proofs.Nexts.{next-found, next-none, next-past}
use Rattle.salt_eval.proofs.after.next_row.Goals as goal
use Rattle.salt_eval.proofs.after.next_row.Goals.{else-place-table-via-else-place-table, else-place-table-via-then-place-table+else-has}
use Rattle.salt_eval.specs.Views.{next_row, tables_of}
use Rattle.salt_model.specs.Tables.{place_cmp}
use Rattle.salt_model.specs.Words.{first_of_list}
use Rattle.salt_ranges.specs.Ranges.{has_key}
use Rattle.std.proofs.Common.{None, Some, ap, false, refl, sym, true, ◌&&◌, ◌==◌, ◌∙◌, ◌≡◌}
use Rattle.std.proofs.lemmas.Bool.{eq-eqb, ne_eqb}
use Rattle.std.specs.BTreeMap.Range.{entries_between}
use Rattle.std.specs.Map.Iter.{deref_pair}
use Rattle.std.specs.Option.{option_copied}
use Rattle.std.specs.Prelude.{option_map}
use Rattle.std.specs.declared.ops.Bound.TheVariants.{Unbounded}

pub returns-in_default : goal.returns-in_default
returns-in_default c =
    let es = c.args.rows.now.entries in
    next-none c.args.table c.args.range.now (option_copied c.args.after) es (in_order place_cmp es c.first_from.ensures.in_order)
    (ap (λ s. first_of_list (entries_between place_cmp s Unbounded es)) (sym c.in_ok-start.ensures) ∙ sym c.first_from.ensures.first ∙ ap (option_map deref_pair) c.in_default.is)

pub returns-in_ok-copy : goal.returns-in_ok-copy
returns-in_ok-copy c =
    let es = c.args.rows.now.entries in
    let first = ap (λ s. first_of_list (entries_between place_cmp s Unbounded es)) (sym c.in_ok-start.ensures) ∙ sym c.first_from.ensures.first ∙ ap (option_map deref_pair) c.in-Some.is in
    let here : (c.args.table == c.in-Some.place.now.table) ≡ true = eq-eqb _ _ (sym c.if-place-table.true) in
    let within : has_key c.args.range.now c.in-Some.place.now.key ≡ true = sym c.has.ensures ∙ c.if-has.true in
    ap Some c.in_ok-copy.ensures
    ∙ next-found c.args.table c.args.range.now (option_copied c.args.after) es (in_order place_cmp es c.first_from.ensures.in_order) (c.in-Some.place.now, c.in-Some.row.now) first (rw (here, within) refl)

pub returns-else-place-table : goal.returns-else-place-table
returns-else-place-table c =
    let es = c.args.rows.now.entries in
    let first = ap (λ s. first_of_list (entries_between place_cmp s Unbounded es)) (sym c.in_ok-start.ensures) ∙ sym c.first_from.ensures.first ∙ ap (option_map deref_pair) c.in-Some.is in
    let past : ((c.args.table == c.in-Some.place.now.table) && has_key c.args.range.now c.in-Some.place.now.key) ≡ false → None ≡ next_row c.args.table c.args.range.now (option_copied c.args.after) (tables_of es) =
    next-past c.args.table c.args.range.now (option_copied c.args.after) es (in_order place_cmp es c.first_from.ensures.in_order) (c.in-Some.place.now, c.in-Some.row.now) first in
    elim c.else-place-table.branch [
      | else-place-table-via-then-place-table+else-has w ↦
          let here : (c.args.table == c.in-Some.place.now.table) ≡ true = eq-eqb _ _ (sym w.if-place-table.true) in
          let outside : has_key c.args.range.now c.in-Some.place.now.key ≡ false = sym w.has.ensures ∙ w.if-has.false in
          past (rw (here, outside) refl)
      | else-place-table-via-else-place-table w ↦ past (ap (λ b. b && has_key c.args.range.now c.in-Some.place.now.key) (ne_eqb c.args.table c.in-Some.place.now.table (λ e. w.if-place-table.false (sym e))))
    ]
