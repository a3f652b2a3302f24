use Rattle.salt_books.proofs.looks.first_parts_of.Goals as goal
use Rattle.salt_books.proofs.looks.first_parts_of.Goals.{in-Some+in_ok-push, in_default}
use Rattle.salt_books.specs.declared.held.Held.{Held}
use Rattle.salt_model.specs.Units.{program_begun}
use Rattle.salt_values.specs.declared.id.Id.{Id}
use Rattle.std.proofs.Common.{List, Option, ap, arith, drop, sym, ◌+◌, ◌++◌, ◌∙◌, ◌∷◌, []}
use Rattle.std.proofs.lemmas.List.{append_assoc, append-nil, drop_all, drop_more}
use Rattle.std.specs.List.{cons_option, filter_map}

pub loop-held-preserved : goal.loop-held-preserved
loop-held-preserved c =
    let begun : Held → Option Id = λ h. program_begun h.kind in
    let units = c.args.units.now in
    let bases = c.loop-held.bases.items in
    let rest = drop (c.loop-held.held-index + 1) units in
    let joined : Option Id → List Id = λ o. bases ++ cons_option o (filter_map begun rest) in
    let from_here = drop_more units c.loop-held.held-index c.held-item.result c.loop-held-test.true ∙ ap (λ h. h ∷ rest) (sym c.held-item.is) in
    let all = ap (λ hs. bases ++ filter_map begun hs) (sym from_here) ∙ c.loop-held.invariant in
    elim c.match-program_begun.branch [
      | in-Some+in_ok-push w ↦ rw (w.bases-is, w.in_ok-push.ensures.items)
          (append_assoc bases (w.in-Some.base ∷ []) (filter_map begun rest) ∙ ap joined w.in-Some.ensures ∙ all)
      | in_default w ↦ rw w.bases-is (ap joined w.in_default.ensures ∙ all)
    ]

pub returns : goal.returns
returns c =
    let bases = c.loop-held.bases.items in
    let none_left = drop_all c.loop-held.held-index c.args.units.now (omega (arith, c.loop-held-test.false)) in
    sym (ap (λ hs. bases ++ filter_map (λ (h : Held). program_begun h.kind) hs) none_left ∙ append-nil bases) ∙ c.loop-held.invariant
