use Rattle.salt_bytes.specs.Numbers.{spell_16}
use Rattle.salt_pages.proofs.append.add_spelled.Goals as goal
use Rattle.salt_pages.specs.Filling.{filled}
use Rattle.std.proofs.Common.{List, ap, arith, ℕ, ◌∙◌}
use Rattle.std.proofs.lemmas.List.{with_items_is}

pub returns : goal.returns
returns c =
    with_items_is c.args.bytes.now c.put_spelled.new.out (omega (arith, c.put_spelled.ensures.length, c.as_mut_slice.ensures.len)) ∙ c.put_spelled.ensures.bytes
    ∙ ap (λ (l : List ℕ). filled (filled l c.args.at c.args.spelled.now) 0 (spell_16 c.args.count)) c.as_mut_slice.ensures.value
