use Rattle.salt_database.proofs.Fitting.{program-judged}
use Rattle.salt_database.proofs.beginning.can_define.Goals as goal
use Rattle.std.proofs.Common.{sym, ◌∙◌}

pub judge-requires : goal.judge-requires
judge-requires c = record { parts = c.has_few_parts.ensures c.if-not-has_few_parts.false }

pub returns : goal.returns
returns c = λ is. (
  c.has_few_parts.ensures c.if-not-has_few_parts.false,
  program-judged c.args.known.now _ _ c.args.def.now c.judge.result c.schema.ensures c.catalogue.ensures c.judge.ensures (sym c.is_ok.ensures.value ∙ is),
)
