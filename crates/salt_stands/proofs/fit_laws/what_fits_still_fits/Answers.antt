use Rattle.salt_stands.proofs.Growing.{grows}
use Rattle.salt_stands.proofs.fit_laws.what_fits_still_fits.Goals as goal

pub returns : goal.returns
returns c = grows
