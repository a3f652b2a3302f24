use Rattle.salt_bytes.specs.Changes.{spell_change}
use Rattle.salt_bytes.specs.Ids.{spell_id}
use Rattle.salt_bytes.specs.Numbers.{spell_counted}
use Rattle.salt_codec.proofs.Puts.{both_put}
use Rattle.salt_codec.proofs.prepared.with_unit.Goals as goal
use Rattle.std.proofs.Common.{List, [], refl, ℕ, ◌++◌, ◌∷◌}

pub returns : goal.returns
returns c =
    let changes : List ℕ = spell_counted spell_change c.args.changes.now in
    let unit : List ℕ = spell_id c.args.unit ++ changes in
    let items = c.with_changes.result in
    both_put items (λ made. made.items) c.args.out.items c.in_ok-out.out.items (1 ∷ []) unit unit c.in_ok-out.ensures refl
    (both_put items (λ made. made.items) c.in_ok-out.out.items c.in_ok-out-2.out.items (spell_id c.args.unit) changes changes c.in_ok-out-2.ensures.put refl c.with_changes.ensures)
