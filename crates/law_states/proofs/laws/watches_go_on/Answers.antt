use Rattle.law_states.proofs.WatchesGoOn.{watches-ask, watches-begin, watches-say, watches-turn}
use Rattle.law_states.proofs.laws.watches_go_on.Goals as goal

pub returns : goal.returns
returns c = record {
  says = (λ trace e old new h. watches-say trace e old new h.played h.well);
  asks = (λ trace asked w h. watches-ask trace asked w h.played h.well);
  turns = (λ trace b w h. watches-turn trace b w h.played h.well);
  begins = (λ trace n h. watches-begin trace n h.played h.well);
}
