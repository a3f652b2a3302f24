use Rattle.salt_commit.proofs.Voters.{changes_some, may_be_nodes, nodes_few, nodes_next}
use Rattle.salt_commit.proofs.nodes.nodes_of.Goals as goal
use Rattle.salt_commit.proofs.nodes.nodes_of.Goals.{else-not-is_empty, then-not-is_empty}
use Rattle.std.proofs.Common.{List, ap, arith, false, length, sym, take, true, ℕ, ◌∙◌}
use Rattle.std.proofs.lemmas.List.{append-nil, length-take-le}
use Rattle.std.specs.Prelude.{not}

pub push-requires : goal.push-requires
push-requires c =
    let l = c.loop-number in
    let ss = c.args.shares.now in
    omega (arith, ap (λ (ns : List ℕ). length ns) l.invariant, nodes_few 0 (take l.number ss), length-take-le l.number ss (omega (arith, c.loop-number-test.true)), c.loop-number-test.true, c.requires)

pub loop-number-preserved : goal.loop-number-preserved
loop-number-preserved c =
    let l = c.loop-number in
    let s = c.index-shares-number.result in
    let some = changes_some s c.is_empty.result c.is_empty.ensures in
    elim c.if-not-is_empty.branch [
      | then-not-is_empty w ↦ nodes_next c.args.shares.now l.number s true c.loop-number-test.true c.index-shares-number.is (some ∙ ap not w.if-not-is_empty.true) l.nodes c.if-not-is_empty.nodes l.invariant (w.nodes-is ∙ w.push.ensures)
      | else-not-is_empty w ↦ nodes_next c.args.shares.now l.number s false c.loop-number-test.true c.index-shares-number.is (some ∙ ap not w.if-not-is_empty.false) l.nodes c.if-not-is_empty.nodes l.invariant (w.nodes-is ∙ sym (append-nil l.nodes))
    ]

pub returns-clause-may : goal.returns-clause-may
returns-clause-may c = may_be_nodes 0 c.args.shares.now (omega (arith, c.requires))
