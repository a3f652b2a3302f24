use Rattle.std.proofs.Common.{length}
use Rattle.salt_parse.specs.Lists.{counted_at}
use Rattle.salt_parse.specs.Reading.{after, within_at}
use Rattle.salt_ast.specs.declared.limit.LimitName.TheVariants as limit
use Rattle.salt_ast.specs.Symbols.{key}
use Rattle.salt_ast.specs.declared.keyword.Keyword.TheVariants as word
use Rattle.salt_values.specs.declared.limits.TheConstants.{PARTS_MOST}
use Rattle.salt_parse.specs.ProgramReading.{part_at, parts_at}
use Rattle.salt_parse.proofs.Listing.{IsListing}
use Rattle.salt_parse.proofs.parser.Parser.parts.Given as goal

abbrev pub invariant-loop-self : goal.invariant-loop-self
invariant-loop-self l =
    IsListing (after (key word.Part)) (counted_at PARTS_MOST limit.Parts (part_at (within_at l.room) (within_at l.deeper))) l.parts l.self (parts_at (within_at l.room) (within_at l.deeper) l.fn.self.flags l.fn.self.left)

abbrev pub decreases-loop-self : goal.decreases-loop-self
decreases-loop-self l = length l.self.left
