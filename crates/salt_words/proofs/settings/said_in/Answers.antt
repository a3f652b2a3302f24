use Rattle.salt_words.proofs.Givens.{all-of-none}
use Rattle.salt_words.proofs.settings.said_in.Goals as goal
use Rattle.salt_words.specs.Meanings.{settings_behind}
use Rattle.std.proofs.Common.{ap, arith, length, ◌<◌, ◌∙◌}
use Rattle.std.proofs.lemmas.Bool.Decides.{nat_tests}
use Rattle.std.specs.Prelude.{option_and_then}

pub returns : goal.returns
returns c =
    let none : length c.loop-rest.rest.now < 1 = grind (arith, nat_tests) in
    c.loop-rest.invariant ∙ ap (option_and_then (settings_behind c.loop-rest.said)) (all-of-none c.loop-rest.rest.now none)
