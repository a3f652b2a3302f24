use Rattle.std.proofs.Common.{length}
use Rattle.salt_parse.specs.Lists.{comma}
use Rattle.salt_parse.specs.Reading.{within_at}
use Rattle.salt_parse.specs.TableReading.{check_at, checks_at}
use Rattle.salt_parse.proofs.Listing.{IsListing}
use Rattle.salt_parse.proofs.parser.Parser.checks.Given as goal

abbrev pub invariant-loop-self : goal.invariant-loop-self
invariant-loop-self l =
    IsListing comma (check_at (within_at l.room)) l.checks l.self (checks_at (within_at l.room) l.fn.self.flags l.fn.self.left)

abbrev pub decreases-loop-self : goal.decreases-loop-self
decreases-loop-self l = length l.self.left
