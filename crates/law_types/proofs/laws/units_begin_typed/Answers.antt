use Rattle.law_types.proofs.Blocks.{block-judged}
use Rattle.law_types.proofs.Conts.{begins-typed, scope-apart}
use Rattle.law_types.proofs.laws.units_begin_typed.Goals as goal

pub returns : goal.returns
returns c = record {
  vars = λ k u typed is. begins-typed k typed u is;
  apart = λ k u typed. scope-apart k typed u;
  judged = λ k u typed. block-judged k typed u;
}
