use Rattle.law_types.proofs.Conts.{branched-typed, committed-typed}
use Rattle.law_types.proofs.laws.ends_keep_types.Goals as goal

pub returns : goal.returns
returns c = record {
  commit = λ k n u run typed is done. committed-typed k typed n u run is done;
  branch = λ k n u typed is. branched-typed k typed n u is;
}
