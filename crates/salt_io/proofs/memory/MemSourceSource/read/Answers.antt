use Rattle.std.proofs.Common.{◌-◌, ◌≤◌, Some, ap, sym, ◌∙◌, arith, length, take, drop}
use Rattle.salt_io.specs.MemStreams.{SourceState}
use Rattle.salt_io.proofs.Taking.{part-given}
use Rattle.salt_io.proofs.memory.MemSourceSource.read.Goals as goal

pub returns-clause-taken : goal.returns-clause-taken
returns-clause-taken c =
    let bytes = c.self.inside.bytes.items in
    let n = c.min-n.result in
    let fits : n ≤ length (take (length c.deref.result.now - c.self.inside.at) (drop c.self.inside.at c.deref.result.now)) = omega (arith, c.min.ensures, c.min-n.ensures) in
    let given = part-given bytes c.deref.result.now c.copy_from_slice.new.self _ c.self.inside.at n c.deref.ensures.value fits c.copy_from_slice.ensures.after in
    ap Some (sym (ap (λ (s : SourceState). s.left) c.self.view_is) ∙ given)
