use Rattle.law_types.proofs.Told.{column-told, kind-told}
use Rattle.law_types.proofs.laws.expressions_give_their_kinds.Goals as goal

pub returns : goal.returns
returns c = record {
  kinds = λ columns variables row vars e k cells held h. kind-told columns variables row vars cells held e k h;
  columns = λ columns variables row vars f e cells held h. column-told columns variables row vars cells held f e h;
}
