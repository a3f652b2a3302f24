use Rattle.salt_books.proofs.ByName.{searched}
use Rattle.salt_books.proofs.places.place_among.Goals as goal

pub returns-else-rising : goal.returns-else-rising
returns-else-rising c = searched c.args.unit c.args.units.now c.place_in.result c.place_in.ensures
