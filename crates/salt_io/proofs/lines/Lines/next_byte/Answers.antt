use Rattle.std.proofs.Common.{◌≡◌, ◌+◌, ◌-◌, ◌<◌, ◌∷◌, ap, sym, ◌∙◌, arith, take, drop, slice_index_or}
use Rattle.salt_io.specs.Lines.{ScriptReading}
use Rattle.salt_io.specs.Streams.{bytes_before}
use Rattle.salt_io.proofs.Taking.{takes-first, part-first}
use Rattle.salt_io.proofs.lines.Lines.next_byte.Goals as goal

pub returns-clause-some : goal.returns-clause-some
returns-clause-some g c =
    let part = c.self.inside in
    let left = g.S.Source.left c.fill.new.source in
    let byte = slice_index_or part.buf part.from 0 in
    let others = take (part.to - (part.from + 1)) (drop (part.from + 1) part.buf) in
    let some : part.from < part.to = omega (arith, c.self.invariant.0, c.if-self.false) in
    let first = part-first part.buf part.from part.to some (omega (arith, c.self.invariant, c.self.told)) in
    let kept : c.fill.new.self.kept ≡ byte ∷ others = sym (ap (λ (r : ScriptReading). r.kept) c.self.view_is) ∙ first in
    c.in_ok-fill.ensures.same ∙ ap (λ bytes. bytes_before bytes left) kept ∙ takes-first byte others left
