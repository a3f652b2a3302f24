use Rattle.salt_model.specs.Tables.{place, place_cmp}
use Rattle.salt_partition.proofs.Copied.{copied_next}
use Rattle.salt_partition.proofs.compared.rows_copied.Goals as goal
use Rattle.std.proofs.Common.{[], ap, arith, length, subst, take, ◌++◌, ◌≡◌, ◌∙◌, ◌∷◌}
use Rattle.std.proofs.lemmas.List.{length_push}
use Rattle.std.proofs.lemmas.Map.Iter.{iter_turn}
use Rattle.std.specs.BTreeMap.{insert_entry}
use Rattle.std.specs.Map.Iter.{deref_pair}
use Rattle.std.specs.Prelude.{suc}

pub loop-at-preserved-in_ok-insert : goal.loop-at-preserved-in_ok-insert
loop-at-preserved-in_ok-insert c =
    let l = c.loop-at in
    let es = c.args.rows.now.entries in
    let all = c.into_iter-at-iterator.ensures.into_iter_gives in
    let t = iter_turn deref_pair es l.yielded c.into_iter-at-iterator.result l.at-iterator c.next.new.self c.next.result all.0 l.yielded_by (c.in-Some.at, c.in-Some.row) c.in-Some.is c.next.ensures.steps in
    let more : suc (length l.yielded) ≡ length (l.yielded ++ (c.in-Some.at, c.in-Some.row) ∷ []) = omega (arith, length_push l.yielded (c.in-Some.at, c.in-Some.row)) in
    subst (λ n. c.insert.new.self.entries ≡ take n es) more
    (c.in_ok-insert.ensures.entries
    ∙ ap (λ k. insert_entry place_cmp l.made.entries (place c.in-Some.at.now.table k) c.in_ok-copy.field-0) c.in_ok-key.ensures
    ∙ ap (λ r. insert_entry place_cmp l.made.entries c.in-Some.at.now r) c.in_ok-copy.ensures
    ∙ copied_next es l.made.entries (length l.yielded) c.in-Some.at.now c.in-Some.row.now all.5 t.1 l.invariant)

pub loop-at-preserved : goal.loop-at-preserved
loop-at-preserved c =
    let l = c.loop-at in
    let es = c.args.rows.now.entries in
    let all = c.into_iter-at-iterator.ensures.into_iter_gives in
    let t = iter_turn deref_pair es l.yielded c.into_iter-at-iterator.result l.at-iterator c.next.new.self c.next.result all.0 l.yielded_by (c.in-Some.at, c.in-Some.row) c.in-Some.is c.next.ensures.steps in
    let more : suc (length l.yielded) ≡ length (l.yielded ++ (c.in-Some.at, c.in-Some.row) ∷ []) = omega (arith, length_push l.yielded (c.in-Some.at, c.in-Some.row)) in
    subst (λ n. c.insert.new.self.entries ≡ take n es) more
    (c.in_ok-insert.ensures.entries
    ∙ ap (λ k. insert_entry place_cmp l.made.entries (place c.in-Some.at.now.table k) c.in_ok-copy.field-0) c.in_ok-key.ensures
    ∙ ap (λ r. insert_entry place_cmp l.made.entries c.in-Some.at.now r) c.in_ok-copy.ensures
    ∙ copied_next es l.made.entries (length l.yielded) c.in-Some.at.now c.in-Some.row.now all.5 t.1 l.invariant)
