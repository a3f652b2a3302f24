use Rattle.salt_values.specs.declared.limits.TheConstants.{LINE_MOST, SCRIPT_MOST}
use Rattle.std.proofs.Common.{length, true, ◌-◌, ◌≡◌, ◌≤◌}
use Rattle.salt_io.specs.Lines.{IsReadingOf}
use Rattle.salt_io.specs.Streams.{bytes_before}
use Rattle.salt_io.proofs.HowFar.{Reads}
use Rattle.salt_io.proofs.lines.Lines.next_line.Given as goal

abbrev pub invariant-loop-byte : goal.invariant-loop-byte
invariant-loop-byte g l = record {
  of : IsReadingOf l.self (g.S.Source.left l.source);
  reads : Reads (bytes_before l.fn.self.kept (g.S.Source.left l.fn.source)) (bytes_before l.self.kept (g.S.Source.left l.source)) l.fn.self.taken l.self.taken l.line.items l.text
      l.fn.self.kept l.self.kept (l.source ≡ l.fn.source);
  over : l.fn.self.ended ≡ true → (l.self.ended ≡ true) × (l.source ≡ l.fn.source);
  fits : length l.line.items ≤ LINE_MOST;
  no_fault : g.S.Source.faults l.source ≡ g.S.Source.faults l.fn.source;
}

abbrev pub decreases-loop-byte : goal.decreases-loop-byte
decreases-loop-byte g l = SCRIPT_MOST - l.self.taken
