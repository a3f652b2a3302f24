use Rattle.salt_directory.proofs.Seated.{counting_begins, counting_ends, counting_goes, counting_stops}
use Rattle.salt_directory.proofs.seats.count_few.Goals as goal
use Rattle.salt_directory.proofs.seats.count_few.Goals.{then-place-table-via-else-place-table+then-not-has, then-place-table-via-then-place-table}
use Rattle.salt_directory.specs.Directories.{is_in}
use Rattle.salt_eval.proofs.InOrder.{in_order}
use Rattle.salt_model.specs.Tables.{place_cmp}
use Rattle.salt_ranges.specs.Ranges.{has_key}
use Rattle.std.proofs.Common.{ap, arith, refl, sym, true, ◌&&◌, ◌==◌, ◌≡◌, ◌∙◌}
use Rattle.std.proofs.lemmas.Bool.{eq-eqb, ne_eqb}

pub loop-place-init : goal.loop-place-init
loop-place-init c = record {
  can_next = tt;
  is_finite = tt;
  low = omega arith;
  so_far = λ directory ordered is. counting_begins c.args.table c.args.range.now directory c.into_iter-place-iterator.result (in_order place_cmp directory ordered) (c.into_iter-place-iterator.ensures.into_iter_gives ∙ is);
}

pub returns-then-count-eq-FEW : goal.returns-then-count-eq-FEW
returns-then-count-eq-FEW c directory ordered is =
    let l = c.loop-place in
    let here : (c.args.table == c.in-Some.place.now.table) ≡ true = eq-eqb _ _ (sym c.if-place-table.false) in
    let within : is_in c.args.table c.args.range.now c.in-Some.place.now ≡ true = rw (here, sym c.has.ensures ∙ c.if-not-has.false) refl in
    let more = counting_goes c.args.table c.args.range.now directory l.count l.place-iterator (l.invariant.so_far directory ordered is) (c.in-Some.place.now, c.in-Some._page.now) c.next.new.self c.in-Some.ensures.steps within in
    omega (arith, more.counted, c.if-count-eq-FEW.true)

pub overflow_add-count : goal.overflow_add-count
overflow_add-count c = omega (arith, c.loop-place.invariant.low)

pub loop-place-preserved : goal.loop-place-preserved
loop-place-preserved c =
    let l = c.loop-place in
    let here : (c.args.table == c.in-Some.place.now.table) ≡ true = eq-eqb _ _ (sym c.if-place-table.false) in
    let within : is_in c.args.table c.args.range.now c.in-Some.place.now ≡ true = rw (here, sym c.has.ensures ∙ c.if-not-has.false) refl in
    record {
      can_next = tt;
      is_finite = tt;
      low = omega (arith, l.invariant.low, c.if-count-eq-FEW.false);
      so_far = λ directory ordered is. counting_goes c.args.table c.args.range.now directory l.count l.place-iterator (l.invariant.so_far directory ordered is) (c.in-Some.place.now, c.in-Some._page.now) c.next.new.self c.in-Some.ensures.steps within;
    }

pub returns-in-None : goal.returns-in-None
returns-in-None c directory ordered is =
    let l = c.loop-place in
    counting_ends c.args.table c.args.range.now directory l.count l.place-iterator (l.invariant.so_far directory ordered is) c.in-None.ensures.steps.0

pub returns-then-place-table : goal.returns-then-place-table
returns-then-place-table c directory ordered is =
    let l = c.loop-place in
    let past = counting_stops c.args.table c.args.range.now directory l.count l.place-iterator (l.invariant.so_far directory ordered is) (c.in-Some.place.now, c.in-Some._page.now) c.next.new.self c.in-Some.ensures.steps in
    elim c.then-place-table.branch [
      | then-place-table-via-then-place-table v ↦ past (ap (λ b. b && has_key c.args.range.now c.in-Some.place.now.key) (ne_eqb c.args.table c.in-Some.place.now.table (λ e. v.if-place-table.true (sym e))))
      | then-place-table-via-else-place-table+then-not-has v ↦
          let here : (c.args.table == c.in-Some.place.now.table) ≡ true = eq-eqb _ _ (sym v.if-place-table.false) in
          past (rw (here, sym v.has.ensures ∙ v.if-not-has.true) refl)
    ]
