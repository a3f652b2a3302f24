use Rattle.salt_books.proofs.Made.{finished}
use Rattle.salt_books.proofs.conts.finish.Goals as goal
use Rattle.salt_stands.specs.OpenConts.{is_not_of}
use Rattle.std.proofs.Common.{ap, arith, drop, take, ◌++◌, ◌∙◌, ◌≡◌}
use Rattle.std.specs.List.{filter}

pub returns : goal.returns
returns c = λ cs moves.
    let start : c.loop-at.at ≡ 0 = omega (arith, c.loop-at-test.false) in
    c.loop-at.invariant.so_far ∙ ap (λ n. take n c.args.conts.now ++ filter (is_not_of c.args.base) (drop n c.args.conts.now)) start
    ∙ finished c.args.base c.args.conts.now cs moves
