use Rattle.salt_directory.proofs.Marking.{marking_begins, marking_ends, marking_goes, marking_stops}
use Rattle.salt_directory.proofs.directory.extent_of.Goals as goal
use Rattle.salt_directory.proofs.directory.extent_of.Goals.{in-None, in-Some+then-place-table, then-place-table-via-else-place-table+then-not-has, then-place-table-via-then-place-table}
use Rattle.salt_directory.specs.Directories.{is_in}
use Rattle.salt_directory.specs.Loading.{HaveAllOf, count_in}
use Rattle.salt_eval.proofs.InOrder.{in_order}
use Rattle.salt_model.specs.Tables.{place_cmp}
use Rattle.salt_ranges.specs.Ranges.{has_key}
use Rattle.std.proofs.Common.{ap, arith, length, refl, rules, subst, sym, true, ◌&&◌, ◌<◌, ◌==◌, ◌^◌, ◌≡◌, ◌∙◌}
use Rattle.std.proofs.lemmas.Bool.{eq-eqb, ne_eqb}
use Rattle.std.proofs.lemmas.List.{length-set}
use Rattle.std.specs.BTreeMap.Range.{entries_between}
use Rattle.std.specs.declared.ops.Bound.TheVariants.{Unbounded}

pub loop-place-init : goal.loop-place-init
loop-place-init c =
    let es = c.args.directory.now in
    record {
      can_next = tt;
      is_finite = tt;
      so_far = marking_begins c.args.table c.args.range.now es c.in_ok-pages.pages.items c.into_iter-place-iterator.result (in_order place_cmp es c.rows_from-place-items.ensures.ordered)
          (c.into_iter-place-iterator.ensures.into_iter_gives ∙ c.rows_from-place-items.ensures.between ∙ ap (λ s. entries_between place_cmp s Unbounded es) c.in_ok-start.ensures)
          (subst (λ l. length l < 2 ^ 63) (sym c.into_iter-place-iterator.ensures.into_iter_gives) c.rows_from-place-items.ensures.fits);
      count = search rules;
    }

pub overflow_add-rows : goal.overflow_add-rows
overflow_add-rows c = omega (arith, c.loop-place.invariant.so_far.few)

pub loop-place-preserved : goal.loop-place-preserved
loop-place-preserved c =
    let l = c.loop-place in
    let here : (c.args.table == c.in-Some.place.now.table) ≡ true = eq-eqb _ _ (sym c.if-place-table.false) in
    let within : is_in c.args.table c.args.range.now c.in-Some.place.now ≡ true = rw (here, sym c.has.ensures ∙ c.if-not-has.false) refl in
    record {
      can_next = tt;
      is_finite = tt;
      so_far = marking_goes c.args.table c.args.range.now c.args.directory.now l.pages.items l.rows l.place-iterator l.invariant.so_far (c.in-Some.place.now, c.in-Some.page.now) c.next.new.self c.mark.new.pages.items c.in-Some.ensures.steps within c.mark.ensures;
      count = ap length c.mark.ensures ∙ length-set l.pages.items c.in-Some.page.now true ∙ l.invariant.count;
    }

pub returns : goal.returns
returns c =
    let l = c.loop-place in
    let ended : HaveAllOf c.args.table c.args.range.now c.args.directory.now l.pages.items × (l.rows ≡ count_in c.args.table c.args.range.now c.args.directory.now) =
    elim c.match-next.branch [
      | in-None w ↦ marking_ends c.args.table c.args.range.now c.args.directory.now l.pages.items l.rows l.place-iterator l.invariant.so_far w.in-None.ensures.steps.0
      | in-Some+then-place-table w ↦
          let past = marking_stops c.args.table c.args.range.now c.args.directory.now l.pages.items l.rows l.place-iterator l.invariant.so_far (w.in-Some.place.now, w.in-Some.page.now) c.next.new.self w.in-Some.ensures.steps in
          elim w.then-place-table.branch [
            | then-place-table-via-then-place-table v ↦ past (ap (λ b. b && has_key c.args.range.now w.in-Some.place.now.key) (ne_eqb c.args.table w.in-Some.place.now.table (λ e. v.if-place-table.true (sym e))))
            | then-place-table-via-else-place-table+then-not-has v ↦
                let here : (c.args.table == w.in-Some.place.now.table) ≡ true = eq-eqb _ _ (sym v.if-place-table.false) in
                past (rw (here, sym v.has.ensures ∙ v.if-not-has.true) refl)
          ]
    ] in
    record { count = l.invariant.count; all = ended.0; rows = ended.1 }
