use Rattle.salt_pages.proofs.Filled.{front_filled}
use Rattle.salt_pages.proofs.change.copy_run.Goals as goal
use Rattle.salt_pages.specs.Filling.{filled}
use Rattle.std.proofs.Common.{ap, arith, drop, length, length-drop, sym, take, ℕ, ◌+◌, ◌-◌, ◌≡◌, ◌∙◌}
use Rattle.std.proofs.lemmas.List.{length-take-le}

pub returns-clause-bytes : goal.returns-clause-bytes
returns-clause-bytes c =
    let count = c.args.count in
    let behind = drop c.args.from c.args.out.now in
    let many : c.args.from + count - c.args.from ≡ count = omega arith in
    let size : length (take (c.args.from + count - c.args.from) behind) ≡ count = ap (λ (n : ℕ). length (take n behind)) many ∙ length-take-le count behind (omega (arith, length-drop c.args.from c.args.out.now, c.requires.seen)) in
    c.put_bytes-2.ensures.bytes ∙ ap (filled c.args.out.now c.args.to) (front_filled _ c.put_bytes.new.out (take (c.args.from + count - c.args.from) behind) count c.put_bytes.ensures.bytes (sym size)) ∙ ap (λ (n : ℕ). filled c.args.out.now c.args.to (take n behind)) many
