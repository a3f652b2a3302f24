use Rattle.law_early.proofs.HeldBack.{hidden, unreleased}
use Rattle.law_early.proofs.laws.held_back_is_hidden.Goals as goal

pub returns : goal.returns
returns c = record { unreleased = unreleased; hidden = hidden }
