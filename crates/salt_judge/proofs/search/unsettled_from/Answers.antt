use Rattle.salt_judge.proofs.Searching.{searched_all, searched_more, searched_start, searched_unfree}
use Rattle.salt_judge.proofs.search.unsettled_from.Goals as goal
use Rattle.salt_judge.specs.Reads.{is_free, near, program_in}
use Rattle.salt_judge.specs.Searching.{Searched, visited_all}
use Rattle.salt_values.specs.Id.{has_id}
use Rattle.salt_values.specs.declared.id.Id.{Id}
use Rattle.std.proofs.Common.{List, ap, false, slice_get, subst, sym, true, ◌+◌, ◌∙◌, ◌≡◌}

pub visit_near-requires : goal.visit_near-requires
visit_near-requires c = λ u. c.no_marks-marks.ensures u ∙ ap (has_id u) (sym c.new-ids.ensures)

pub search-init : goal.search-init
search-init c =
    let l = c.args.ledger.now in
    let r = c.args.reads.now in
    let settled = c.args.settled.now in
    record {
      marks = c.in_ok-visit_near.ensures.marks;
      searched = λ linked.
          subst (Searched l r settled c.args.unit 0)
          (sym (c.in_ok-visit_near.ensures.found ∙ ap (visited_all l settled (near l r c.args.unit)) c.new-ids.ensures)) (searched_start l r linked settled c.args.unit);
    }

pub visit_near-requires-in-search : goal.visit_near-requires-in-search
visit_near-requires-in-search c = c.search.invariant.marks

pub search-preserved : goal.search-preserved
search-preserved c =
    let l = c.args.ledger.now in
    let r = c.args.reads.now in
    let settled = c.args.settled.now in
    let next = c.in-Some.next in
    record {
      marks = c.in_ok-visit_near-2.ensures.marks;
      searched = λ linked.
          let free : is_free r.released (program_in l next) ≡ true = ap (is_free r.released) (sym c.program_in.ensures) ∙ (sym c.is_free.ensures ∙ c.if-not-is_free.false) in
          let here = ap (λ (ids : List Id). slice_get ids c.search.at) (sym c.as_slice.ensures) ∙ sym c.item_at.ensures.value ∙ c.in-Some.is in
          subst (Searched l r settled c.args.unit (c.search.at + 1)) (sym c.in_ok-visit_near-2.ensures.found)
          (searched_more l r linked settled c.args.unit c.search.at c.search.ids next (c.search.invariant.searched linked) here free);
    }

pub returns-in_default-clause-free : goal.returns-in_default-clause-free
returns-in_default-clause-free c = λ linked settled.
    searched_all c.args.ledger.now c.args.reads.now linked c.args.settled.now settled c.args.unit c.search.at c.search.ids c.requires (c.search.invariant.searched linked)
    (ap (λ (ids : List Id). slice_get ids c.search.at) (sym c.as_slice.ensures) ∙ sym c.item_at.ensures.value ∙ c.in_default.is)

pub returns-in_default-clause-marks : goal.returns-in_default-clause-marks
returns-in_default-clause-marks c = c.search.invariant.marks

pub returns-then-not-is_free-clause-free : goal.returns-then-not-is_free-clause-free
returns-then-not-is_free-clause-free c = λ linked settled.
    let l = c.args.ledger.now in
    let r = c.args.reads.now in
    let next = c.in-Some.next in
    let unfree : is_free r.released (program_in l next) ≡ false = ap (is_free r.released) (sym c.program_in.ensures) ∙ (sym c.is_free.ensures ∙ c.if-not-is_free.true) in
    searched_unfree l r linked c.args.settled.now c.args.unit c.search.at c.search.ids next (c.search.invariant.searched linked) (ap (λ (ids : List Id). slice_get ids c.search.at) (sym c.as_slice.ensures) ∙ sym c.item_at.ensures.value ∙ c.in-Some.is) unfree
