use Rattle.salt_ast.specs.Words.{is_among}
use Rattle.salt_schema.proofs.names.is_among.Given as goal
use Rattle.std.proofs.Common.{drop, map, ◌≡◌}

abbrev pub invariant-loop-item : goal.invariant-loop-item
invariant-loop-item g l = is_among l.name (map g.T.Named.name l.items) ≡ is_among l.name (map g.T.Named.name (drop l.item-index l.items))
