use Rattle.salt_ast.specs.Judgement.{field_named}
use Rattle.salt_schema.proofs.names.field_named.Given as goal
use Rattle.std.proofs.Common.{drop, ◌≡◌}

abbrev pub invariant-loop-field : goal.invariant-loop-field
invariant-loop-field l = field_named l.fields l.name ≡ field_named (drop l.field-index l.fields) l.name
