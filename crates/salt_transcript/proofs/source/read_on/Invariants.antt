use Rattle.salt_cont.specs.Catalogues.{AllLeadOn}
use Rattle.salt_io.specs.Streams.{bytes_before}
use Rattle.salt_transcript.proofs.source.read_on.Given as goal
use Rattle.salt_transcript.specs.Reading.{HasCome}
use Rattle.salt_transcript.specs.declared.source.TheConstants.{TRANSCRIPT_MOST}
use Rattle.std.proofs.Common.{List, length, ℕ, ◌+◌, ◌≡◌}

abbrev pub invariant-reads : goal.invariant-reads
invariant-reads g l = record {
  sized : length l.buffer ≡ 4096;
  leads : AllLeadOn l.pieces.reader.judge.ledger.state.catalogue;
  come : (bytes : List ℕ) × HasCome l.pieces bytes × (length bytes + l.room ≡ TRANSCRIPT_MOST)
      × (g.S.Source.left l.fn.source ≡ bytes_before bytes (g.S.Source.left l.source));
  faults : g.S.Source.faults l.source ≡ g.S.Source.faults l.fn.source;
}

abbrev pub decreases-reads : goal.decreases-reads
decreases-reads g l = l.room
