use Rattle.salt_books.proofs.CanMoves.{can-move}
use Rattle.salt_books.proofs.laws.units_can_move.Goals as goal

pub returns : goal.returns
returns c = can-move
