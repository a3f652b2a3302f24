use Rattle.salt_directory.proofs.Spelled.{place_there}
use Rattle.salt_directory.proofs.halving.place_in.Goals as goal
use Rattle.salt_model.specs.Tables.{place}
use Rattle.salt_pages.proofs.Bytes.{are_bytes}
use Rattle.std.proofs.Common.{ap, arith, sym, ℕ, ◌∙◌}

pub returns : goal.returns
returns c = λ r taken.
    place_there c.args.spelled.now (are_bytes c.args.spelled.now (λ k. omega (arith, c.type_inv.spelled k))) c.in-len3-up.len_at_least c.in-Ok.key c.in-Ok._rest.now c.in-Ok.ensures r taken
    ∙ ap (λ (n : ℕ). place n c.in-Ok.key) (sym c.from_be_bytes.ensures)
