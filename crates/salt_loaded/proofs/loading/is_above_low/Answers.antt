use Rattle.salt_loaded.proofs.Counted.{turned_low}
use Rattle.salt_loaded.proofs.loading.is_above_low.Goals as goal
use Rattle.salt_loaded.specs.Keys.{key_told}
use Rattle.salt_ranges.specs.Ranges.{is_above_low}
use Rattle.std.proofs.Common.{ap, is_lt, sym, ◌∙◌}
use Rattle.std.specs.Prelude.{not}

pub returns-in-Some : goal.returns-in-Some
returns-in-Some c =
    let key = key_told c.args.key.now in
    ap not (c.is_lt.ensures ∙ ap is_lt c.key_cmp.ensures) ∙ turned_low c.in-Some.lo key ∙ ap (λ o. is_above_low o key) (sym c.in-Some.is)
