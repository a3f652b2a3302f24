use Rattle.salt_model.specs.Tables.{place_cmp}
use Rattle.salt_partition.proofs.Copied.{left_next, not_false, place_decides}
use Rattle.salt_partition.proofs.compared.are_same_rows.Goals as goal
use Rattle.std.proofs.Common.{[], ap, arith, length, subst, sym, take, ◌++◌, ◌≡◌, ◌∙◌, ◌∷◌}
use Rattle.std.proofs.lemmas.List.{length_push}
use Rattle.std.proofs.lemmas.Map.Iter.{iter_turn}
use Rattle.std.specs.Map.Iter.{deref_pair}
use Rattle.std.specs.Ordering.{eq_by_cmp}
use Rattle.std.specs.Prelude.{suc}

pub loop-at-preserved-else-not-is_same_row : goal.loop-at-preserved-else-not-is_same_row
loop-at-preserved-else-not-is_same_row c =
    let l = c.loop-at in
    let es = c.args.rows.now.entries in
    let t = iter_turn deref_pair es l.yielded c.into_iter-at-iterator.result l.at-iterator c.next.new.self c.next.result c.into_iter-at-iterator.ensures.into_iter_gives.0 l.yielded_by (c.in-Some.at, c.in-Some.row) c.in-Some.is c.next.ensures.steps in
    let more : suc (length l.yielded) ≡ length (l.yielded ++ (c.in-Some.at, c.in-Some.row) ∷ []) = omega (arith, length_push l.yielded (c.in-Some.at, c.in-Some.row)) in
    let x = c.in-Some-pop_first in
    let place_is : c.in-Some.at.now ≡ x.place = (place_decides c.in-Some.at.now x.place).0 (not_false (eq_by_cmp place_cmp c.in-Some.at.now x.place) (sym c.ne.ensures ∙ c.if-ne.false)) in
    let row_is : c.in-Some.row.now ≡ x.other = sym c.as_slice.ensures ∙ c.is_same_row.ensures.0 c.if-not-is_same_row.false ∙ c.as_slice-else-ne.ensures in
    subst (λ n. c.args.others.entries ≡ take n es ++ c.pop_first.new.self.entries) more
    (left_next es c.args.others.entries (length l.yielded) (x.place, x.other) (c.in-Some.at.now, c.in-Some.row.now) l.left.entries c.pop_first.new.self.entries t.1 l.invariant x.ensures.removal
    (ap (λ p. (p, x.other)) (sym place_is) ∙ ap (λ r. (c.in-Some.at.now, r)) (sym row_is)))

pub loop-at-preserved : goal.loop-at-preserved
loop-at-preserved c =
    let l = c.loop-at in
    let es = c.args.rows.now.entries in
    let t = iter_turn deref_pair es l.yielded c.into_iter-at-iterator.result l.at-iterator c.next.new.self c.next.result c.into_iter-at-iterator.ensures.into_iter_gives.0 l.yielded_by (c.in-Some.at, c.in-Some.row) c.in-Some.is c.next.ensures.steps in
    let more : suc (length l.yielded) ≡ length (l.yielded ++ (c.in-Some.at, c.in-Some.row) ∷ []) = omega (arith, length_push l.yielded (c.in-Some.at, c.in-Some.row)) in
    let x = c.in-Some-pop_first in
    let place_is : c.in-Some.at.now ≡ x.place = (place_decides c.in-Some.at.now x.place).0 (not_false (eq_by_cmp place_cmp c.in-Some.at.now x.place) (sym c.ne.ensures ∙ c.if-ne.false)) in
    let row_is : c.in-Some.row.now ≡ x.other = sym c.as_slice.ensures ∙ c.is_same_row.ensures.0 c.if-not-is_same_row.false ∙ c.as_slice-else-ne.ensures in
    subst (λ n. c.args.others.entries ≡ take n es ++ c.pop_first.new.self.entries) more
    (left_next es c.args.others.entries (length l.yielded) (x.place, x.other) (c.in-Some.at.now, c.in-Some.row.now) l.left.entries c.pop_first.new.self.entries t.1 l.invariant x.ensures.removal
    (ap (λ p. (p, x.other)) (sym place_is) ∙ ap (λ r. (c.in-Some.at.now, r)) (sym row_is)))
