use Rattle.salt_waits.proofs.Marks.{adds_more}
use Rattle.salt_waits.proofs.walk.Walk.see_all.Goals as goal
use Rattle.salt_waits.specs.Walks.{Adds}
use Rattle.std.proofs.Common.{[], ◌≡◌, arith, suc, ◌+◌, ◌∷◌, get_or, subst, sym, take, take-suc}

pub loop-vertex-preserved : goal.loop-vertex-preserved
loop-vertex-preserved c =
    let vertices = c.args.vertices.now in
    let at = c.loop-vertex.vertex-index in
    let plus : suc at ≡ at + 1 = omega arith in
    let one = take-suc vertices at 0 c.loop-vertex-test.true in
    subst (λ n. Adds (take n vertices) c.args.self.now c.see.new.self) plus (subst (λ vs. Adds vs c.args.self.now c.see.new.self) (sym one)
    (adds_more (take at vertices) (get_or vertices at 0 ∷ []) c.args.self.now _ c.see.new.self c.loop-vertex.invariant c.in_ok-see.ensures))
