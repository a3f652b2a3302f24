-- Where tables agree on a reach, they have the same rows in it.
use Rattle.salt_eval.specs.Frames.{AgreeOn}
use Rattle.law_story.proofs.Places.{agree-rows}
use Rattle.salt_model.specs.Tables.{Tables, rows_in}
use Rattle.salt_model.specs.declared.locks.Reach.{Reach}
use Rattle.std.specs.Prelude.{None, Option, Some, refl, ◌≡◌}

pub rows-agree : (o : Option Reach) (a b : Tables) → AgreeOn o a b → rows_in o a ≡ rows_in o b
rows-agree None a b same = refl
rows-agree (Some r) a b same = agree-rows r a b same
