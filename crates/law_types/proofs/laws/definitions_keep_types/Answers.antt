use Rattle.law_types.proofs.Defining.{program-defined, table-defined}
use Rattle.law_types.proofs.laws.definitions_keep_types.Goals as goal

pub returns : goal.returns
returns c = record {
  nothing = record { tables = tt; programs = tt; rows = tt; conts = tt };
  table = λ k d typed h key. table-defined k typed d h key;
  program = λ k p typed h. program-defined k typed p h;
}
