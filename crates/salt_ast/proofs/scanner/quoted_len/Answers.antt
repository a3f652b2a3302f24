use Rattle.std.proofs.Common.{arith, sym}
use Rattle.salt_ast.proofs.Quoted.{quote_ends, quote_comes, byte_comes, text_ends, byte_bad, all_ends, all_bad}
use Rattle.salt_ast.proofs.scanner.quoted_len.Goals as goal
use Rattle.salt_ast.proofs.scanner.quoted_len.Goals.{then-after_quote+else-b-ne39, else-after_quote+then-b-eq39, else-after_quote+else-b-eq39+else-not-is_printable}

pub returns-then-b-ne39-clause-value : goal.returns-then-b-ne39-clause-value
returns-then-b-ne39-clause-value c = text_ends c.loop-i.i c.args.bytes.now _ c.loop-i-test.true c.if-b-ne39.true (rw c.if-after_quote.true at c.loop-i.invariant)

pub returns-then-not-is_printable-clause-value : goal.returns-then-not-is_printable-clause-value
returns-then-not-is_printable-clause-value c = byte_bad c.loop-i.i c.args.bytes.now _ c.loop-i-test.true c.if-b-eq39.false (sym c.if-not-is_printable.ensures) (rw c.if-after_quote.false at c.loop-i.invariant)

pub returns-then-after_quote-2-clause-value : goal.returns-then-after_quote-2-clause-value
returns-then-after_quote-2-clause-value c = all_ends c.loop-i.i c.args.bytes.now _ (omega arith) (rw c.if-after_quote-2.true at c.loop-i.invariant)

pub returns-else-after_quote-2-clause-value : goal.returns-else-after_quote-2-clause-value
returns-else-after_quote-2-clause-value c = all_bad c.loop-i.i c.args.bytes.now _ (omega arith) (rw c.if-after_quote-2.false at c.loop-i.invariant)

pub loop-i-preserved : goal.loop-i-preserved
loop-i-preserved c =
    elim c.if-after_quote.branch [
      | then-after_quote+else-b-ne39 w ↦ rw w.after_quote-is (quote_ends c.loop-i.i c.args.bytes.now _ c.loop-i-test.true w.if-b-ne39.false (rw w.if-after_quote.true at c.loop-i.invariant))
      | else-after_quote+then-b-eq39 w ↦ rw w.after_quote-is (quote_comes c.loop-i.i c.args.bytes.now _ c.loop-i-test.true w.if-b-eq39.true (rw w.if-after_quote.false at c.loop-i.invariant))
      | else-after_quote+else-b-eq39+else-not-is_printable w ↦ rw (w.after_quote-is, w.if-after_quote.false) (byte_comes c.loop-i.i c.args.bytes.now _ c.loop-i-test.true w.if-b-eq39.false (sym w.if-not-is_printable.ensures) (rw w.if-after_quote.false at c.loop-i.invariant))
    ]
