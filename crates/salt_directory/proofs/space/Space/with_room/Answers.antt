use Rattle.salt_directory.proofs.Rooms.{no_room}
use Rattle.salt_directory.proofs.space.Space.with_room.Goals as goal
use Rattle.salt_directory.proofs.space.Space.with_room.Goals.{then-is_empty-via-else-is_empty+then-index-needed, then-is_empty-via-then-is_empty}
use Rattle.salt_directory.specs.Space.{HasRoom}
use Rattle.std.proofs.Common.{List, None, arith, subst, sym, ℕ, ◌∙◌}
use Rattle.std.proofs.lemmas.Bool.{eqb-false, eqb-true}
use Rattle.std.proofs.lemmas.List.{get_or_default}

pub returns-then-is_empty : goal.returns-then-is_empty
returns-then-is_empty c =
    let free = c.self.inside.free.items in
    let most = c.self.inside.most.items in
    subst (λ (l : List ℕ). HasRoom l c.args.needed None) c.self.view_is
    (elim c.then-is_empty.branch [
      | then-is_empty-via-then-is_empty w ↦
          let none = eqb-true _ _ (sym c.is_empty.ensures ∙ w.if-is_empty.true) in
          let same = c.self.invariant.0.count in
          let size = c.self.inside.most.ok.0 in
          (λ page low. absurd (omega (arith, low, none, same, size)))
      | then-is_empty-via-else-is_empty+then-index-needed w ↦
          let some = eqb-false _ _ (sym c.is_empty.ensures ∙ w.if-is_empty.false) in
          let size = c.self.inside.most.ok.0 in
          let first = w.index.ensures ∙ get_or_default most 0 _ 0 (omega (arith, some, size)) in
          no_room free most c.self.invariant.0 c.args.needed (omega (arith, first, w.if-index-needed.true))
    ])
