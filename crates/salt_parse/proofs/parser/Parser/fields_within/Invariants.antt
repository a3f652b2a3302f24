use Rattle.std.proofs.Common.{length}
use Rattle.salt_parse.specs.Lists.{comma, counted_at}
use Rattle.salt_parse.specs.ProgramReading.{fields_within}
use Rattle.salt_parse.specs.TableReading.{field_at}
use Rattle.salt_parse.proofs.Listing.{IsListing}
use Rattle.salt_parse.proofs.parser.Parser.fields_within.Given as goal

abbrev pub invariant-loop-limit : goal.invariant-loop-limit
invariant-loop-limit l =
    IsListing comma (counted_at l.most l.limit field_at) l.fields l.self (fields_within l.most l.limit l.fn.self.flags l.fn.self.left)

abbrev pub decreases-loop-limit : goal.decreases-loop-limit
decreases-loop-limit l = length l.self.left
