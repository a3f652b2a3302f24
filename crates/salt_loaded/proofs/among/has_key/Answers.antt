use Rattle.salt_loaded.proofs.Counted.{row_there, spot_in}
use Rattle.salt_loaded.proofs.Ordered.{against_is}
use Rattle.salt_loaded.proofs.among.has_key.Goals as goal
use Rattle.salt_loaded.specs.declared.order.Spot.{Spot}
use Rattle.salt_values.specs.Value.{is_same_value, key_of}
use Rattle.std.proofs.Common.{ap, get_or, is_eq, pos, ◌∙◌}

-- what stands where nothing does
abbrev nothing : Spot
nothing = record { number = pos 0; at = 0; kind = 0 }

pub returns : goal.returns
returns c =
    λ row found.
    let bytes = c.args.bytes.now in
    let spots = c.args.spots.now in
    let key = c.args.key.now in
    c.is_eq.ensures
    ∙ ap is_eq (c.spot_against.ensures ∙ against_is bytes (get_or spots c.args.i nothing) key (spot_in bytes spots c.args.i nothing c.requires.spots c.requires.within))
    ∙ ap (λ r. is_same_value (key_of r) key) (row_there bytes spots c.args.i nothing row c.requires.within found)
