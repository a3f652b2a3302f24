use Rattle.salt_place.proofs.Places.{band-below}
use Rattle.salt_place.proofs.placement.place_of.Goals as goal
use Rattle.salt_values.specs.Text.{is_text}
use Rattle.std.proofs.Common.{subst, sym, true, ◌<◌, ◌≡◌}

pub returns-in-Bands-Text-clause-below : goal.returns-in-Bands-Text-clause-below
returns-in-Bands-Text-clause-below c =
    let read = c.as_bytes-in-Bands-Text.ensures in
    let text = subst (λ bytes. is_text bytes ≡ true) (sym read.bytes) read.text in
    subst (λ part. part < c.args.parts) (sym c.band.ensures) (band-below c.as_bytes-in-Bands-Text.result.now c.args.parts text c.requires)
