use Rattle.salt_cont.specs.Catalogues.{AllLeadOn}
use Rattle.salt_transcript.proofs.pieces.Pieces.next.Given as goal
use Rattle.salt_transcript.specs.Reading.{HasCome}
use Rattle.std.proofs.Common.{List, length, ℕ, ◌++◌, ◌≡◌}

abbrev pub invariant-lines : goal.invariant-lines
invariant-lines l = record {
  leads : AllLeadOn l.self.reader.judge.ledger.state.catalogue;
  come : (before : List ℕ) → HasCome l.fn.self before → (done : List ℕ) × HasCome l.self done × (before ++ l.fn.piece ≡ done ++ l.left);
}

abbrev pub decreases-lines : goal.decreases-lines
decreases-lines l = length l.left
