use Rattle.std.proofs.Common.{arith}
use Rattle.salt_io.proofs.LineTexts.{kept-all, kept-cut}
use Rattle.salt_io.proofs.line_text.LineText.keep_all.Goals as goal

pub returns-then-bytes-room-clause-kept : goal.returns-then-bytes-room-clause-kept
returns-then-bytes-room-clause-kept c text kept =
    rw c.in_ok-extend_from_slice.ensures.items (kept-all c.args.line.now.items c.args.self.now.is_long text c.args.bytes.now kept (omega (arith, kept.within, c.args.line.now.ok)))

pub returns-clause-kept : goal.returns-clause-kept
returns-clause-kept c text kept =
    rw c.in_ok-extend_from_slice-2.ensures.items (kept-cut c.args.line.now.items c.args.self.now.is_long text c.args.bytes.now c.saturating_sub-room.result kept (omega (arith, c.args.line.now.ok)) (omega arith))
