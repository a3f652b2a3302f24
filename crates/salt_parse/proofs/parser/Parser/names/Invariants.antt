use Rattle.std.proofs.Common.{◌<◌, length}
use Rattle.salt_parse.specs.Lists.{comma}
use Rattle.salt_parse.specs.StatementReading.{name_at, names_at}
use Rattle.salt_parse.proofs.Listing.{IsListing}
use Rattle.salt_parse.proofs.parser.Parser.names.Given as goal

abbrev pub invariant-loop-names : goal.invariant-loop-names
invariant-loop-names l = record {
  listing : IsListing comma (λ n. name_at) l.names l.self (names_at l.fn.self.flags l.fn.self.left);
  shorter : length l.self.left < length l.fn.self.left;
}

abbrev pub decreases-loop-names : goal.decreases-loop-names
decreases-loop-names l = length l.self.left
