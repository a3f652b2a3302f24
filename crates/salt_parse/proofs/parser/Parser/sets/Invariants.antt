use Rattle.std.proofs.Common.{◌<◌, length}
use Rattle.salt_parse.specs.Lists.{comma}
use Rattle.salt_parse.specs.Reading.{within_at}
use Rattle.salt_parse.specs.StatementReading.{set_at, sets_at}
use Rattle.salt_parse.proofs.Listing.{IsListing}
use Rattle.salt_parse.proofs.parser.Parser.sets.Given as goal

abbrev pub invariant-loop-self : goal.invariant-loop-self
invariant-loop-self l = record {
  listing : IsListing comma (λ n. set_at (within_at l.room)) l.sets l.self (sets_at (within_at l.room) l.fn.self.flags l.fn.self.left);
  shorter : length l.self.left < length l.fn.self.left;
}

abbrev pub decreases-loop-self : goal.decreases-loop-self
decreases-loop-self l = length l.self.left
