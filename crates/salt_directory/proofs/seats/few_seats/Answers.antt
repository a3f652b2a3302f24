use Rattle.salt_bytes.specs.Spellable.{Every}
use Rattle.salt_directory.proofs.Seated.{first_seats, seated, seating_ends, seating_goes}
use Rattle.salt_directory.proofs.seats.few_seats.Goals as goal
use Rattle.salt_directory.specs.Loading.{IsSeated, count_in, seat_of, seats_in}
use Rattle.salt_directory.specs.declared.seats.Seat.{Seat}
use Rattle.salt_eval.proofs.InOrder.{in_order}
use Rattle.salt_eval.specs.Views.{start_of}
use Rattle.salt_model.specs.Tables.{place_cmp}
use Rattle.std.proofs.Common.{List, None, [], ap, map, subst, sym, take, ◌++◌, ◌≡◌, ◌∙◌, ◌∷◌}
use Rattle.std.specs.BTreeMap.Range.{entries_between}
use Rattle.std.specs.declared.ops.Bound.TheVariants.{Unbounded}

pub loop-place-init : goal.loop-place-init
loop-place-init c =
    let es = c.args.directory.now in
    let between : c.rows_from-rows.result ≡ entries_between place_cmp (start_of c.args.table c.args.range.now.lo None) Unbounded es = c.rows_from-rows.ensures.between ∙ ap (λ s. entries_between place_cmp s Unbounded es) c.in_ok-start.ensures in
    let all : c.in-Some.count ≡ count_in c.args.table c.args.range.now es = c.in-Some.ensures es c.rows_from-rows.ensures.ordered (c.in_ok-clone.ensures.cases ∙ between) in
    let given = c.into_iter-place-iterator.ensures.into_iter_gives in
    let source : c.into_iter-place-iterator.result.iter ≡ c.rows_from-rows.result = (λ i. (given i).iter) ∙ c.take-place-items.ensures.source in
    let left : c.into_iter-place-iterator.result.n ≡ c.in-Some.count = (λ i. (given i).n) ∙ c.take-place-items.ensures.count in
    record {
      can_next = tt;
      is_finite = tt;
      listed = (λ i. c.in_ok-seats.ensures.items i ++ map seat_of (take (left i) (source i))) ∙ first_seats c.args.table c.args.range.now es c.rows_from-rows.result c.in-Some.count (in_order place_cmp es c.rows_from-rows.ensures.ordered) between all;
    }

pub loop-place-preserved : goal.loop-place-preserved
loop-place-preserved c =
    let l = c.loop-place in
    let made : c.push.new.self.items ≡ l.seats.items ++ seat_of (c.in-Some-2.place.now, c.in-Some-2.page.now) ∷ [] = c.in_ok-push.ensures.items ∙ ap (λ k. l.seats.items ++ record { key = k; page = c.in-Some-2.page.now } ∷ []) c.in_ok-key.ensures in
    record {
      can_next = tt;
      is_finite = tt;
      listed = seating_goes c.args.table c.args.range.now c.args.directory.now l.place-iterator.iter c.next.new.self.iter l.place-iterator.n c.next.new.self.n l.seats.items c.push.new.self.items (c.in-Some-2.place.now, c.in-Some-2.page.now) l.invariant.listed c.in-Some-2.ensures.steps.0 c.in-Some-2.ensures.steps.1 made;
    }

pub returns : goal.returns
returns c =
    let l = c.loop-place in
    let es = c.args.directory.now in
    let all : l.seats.items ≡ seats_in c.args.table c.args.range.now es = seating_ends c.args.table c.args.range.now es l.place-iterator.iter l.place-iterator.n l.seats.items l.invariant.listed (λ some. (c.in-None.ensures.steps some).0) in
    record {
      seats = all;
      seated = subst (λ (seats : List Seat). Every (IsSeated c.args.table es) seats) (sym all) (seated c.args.table c.args.range.now es (in_order place_cmp es c.rows_from-rows.ensures.ordered));
    }
