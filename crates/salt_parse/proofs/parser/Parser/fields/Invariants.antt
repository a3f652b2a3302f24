use Rattle.std.proofs.Common.{length}
use Rattle.salt_parse.specs.TableReading.{field_comma, fields_at, further_column_at}
use Rattle.salt_parse.proofs.Listing.{IsListing}
use Rattle.salt_parse.proofs.parser.Parser.fields.Given as goal

abbrev pub invariant-loop-self : goal.invariant-loop-self
invariant-loop-self l =
    IsListing field_comma further_column_at l.fields l.self (fields_at l.fn.self.flags l.fn.self.left)

abbrev pub decreases-loop-self : goal.decreases-loop-self
decreases-loop-self l = length l.self.left
