-- Where a reader of quotes and arrows stands.
use Rattle.law_texts.specs.Arrow.{Place, dash, inside, open_place}
use Rattle.std.proofs.Common.{Bool, false, true}

abbrev pub place_of : (within minus : Bool) → Place
place_of true minus = inside
place_of false true = dash
place_of false false = open_place
